-- The excess of a gross premium is what the tariff answers for the bound with itself, and a centime (excess_is); and how large it is (excess_most,
-- excess_small). And how large the gross premium's move is (gross_small).
use mathlib.Core.Path.{◌≡◌, ◌∙◌, ap}
use Prim.Native.Nat.{ℕ, ◌+◌, ◌*◌, ◌^◌, ◌≤◌}
use native.Mathlib.Nat as N
use native.Mathlib.Omega.{arith}
use lib.IntN.{pos, nat_abs, ◌-ℤ◌}
use mir.Syntax.{w64}
use mir.Val.{to_z, of_z}
use Rattle.std.proofs.lemmas.Int.{ints}
use Rattle.rounding.specs.Rounding.{up}
use Rattle.rounding.proofs.Laws.{up_least}
use Rattle.fund.specs.declared.Figures.{Figures}
use Rattle.fund.specs.declared.Fund.{Fund}
use Rattle.fund.specs.Limits.{most_worth, least_worth, fourth_loading}
use Rattle.fund.specs.Tariff.{loading, gross}
use Rattle.laws.specs.Tariff.{loading_le, with_bound_pos}
use Rattle.std.specs.Prelude.{Some, None}
use Rattle.tariff.specs.Gross.{gross_of}
use Rattle.tariff.proofs.GrossAnswers.{gross_inside}
use Rattle.moves.specs.Move.{excess, most_within, most_gross, FiguresIn}

module _ (fund : Fund) (within : ℕ) (low : least_worth ≤ fund.worth) (high : fund.worth ≤ most_worth) where
  twice : gross fund.deductible fund.worth (pos within) within ≡ up (2 * within * fund.worth * loading fund.deductible) (10 ^ 15)
  unfolding gross
  twice =
      let e : within + within ≡ 2 * within = omega arith in
      ap (λ n. up (n * fund.worth * loading fund.deductible) (10 ^ 15)) (with_bound_pos within within ∙ e)

  pub excess_is : (c : ℕ) → gross_of fund (pos within) within ≡ Some c → c + 1 ≡ excess fund within
  unfolding excess
  excess_is c e = let k : c ≡ gross fund.deductible fund.worth (pos within) within = cc (gross_inside fund (pos within) within low high) in omega (arith, k, twice)

  pub not_outside : gross_of fund (pos within) within ≡ None → ⊥
  not_outside e = let z : ◌≡◌ {A = ℕ} 0 1 = cc (gross_inside fund (pos within) within low high) in omega arith

  pub excess_most : within ≤ most_within → excess fund within ≤ 100000000000
  unfolding excess
  excess_most h =
      let a : 2 * within * fund.worth ≤ 2 * most_within * most_worth = N.mul-le-mul {n₂ = 2 * most_within} (omega arith) high in
      let b : 2 * within * fund.worth * loading fund.deductible ≤ 2 * most_within * most_worth * fourth_loading = N.mul-le-mul a (loading_le fund.deductible) in
      let k = up_least (2 * within * fund.worth * loading fund.deductible) (10 ^ 15) 42000000000 (omega arith) (omega (arith, b)) in
      omega arith

-- Of figures within the limits.
pub excess_small : (fund : Fund) (a : Figures) → FiguresIn fund a → excess fund a.within ≤ 100000000000
excess_small fund a p = excess_most fund a.within p.worth_least p.worth_most p.within

-- The gross premium's move, in a word.
pub gross_small : (a b : ℕ) → a ≤ most_gross → b ≤ most_gross → nat_abs (to_z w64 (of_z w64 (to_z w64 a -ℤ pos b))) ≤ 200000000000000000
gross_small a b h g = omega (arith, ints)
