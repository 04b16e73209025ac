-- The figures of an accepted fund are within the limits of those that are compared (figures_small): the mean is at most 65,535 times the load, and the sums over
-- the cells below the deductible are at most 4,096 times the sum of |f| and of the bounds.
use Rattle.std.specs.Prelude.{Err, Ok}
use mathlib.Core.Path.{◌≡◌, refl, sym, ◌∙◌, subst}
use mathlib.Core.List.{List, [], ◌∷◌}
use Prim.Native.Nat.{ℕ, zero, suc, ◌+◌, ◌*◌, ◌^◌, ◌≤◌}
use native.Mathlib.Nat as N
use native.Mathlib.Omega.{arith}
use lib.IntN.{ℤ, pos, negsuc, nat_abs, ◌+ℤ◌, ◌-ℤ◌, ◌*ℤ◌}
use Rattle.rounding.proofs.Laws.{up_least}
use Rattle.fund.specs.Verdict.{Verdict}
use Rattle.fund.specs.Base.{total}
use Rattle.fund.specs.Limits.{most_deductible, most_bound, most_worth, fourth_loading}
use Rattle.fund.specs.Reading.{FundFile}
use Rattle.fund.specs.Folding.{points, lives}
use Rattle.fund.specs.Transform.{unit, mean}
use Rattle.fund.specs.Recursion.{Cell}
use Rattle.fund.specs.Premium.{sum_below, bound_below, premium, within}
use Rattle.fund.specs.Tariff.{loading, not_negative, with_bound, gross}
use Rattle.fund.specs.Refusals.{Lengths, matched, verdict}
use Rattle.fund.specs.Answer.{fund_terms, fund_start, fund_cells, fund_truncation, fund_mean, fund_premium, fund_within, fund_figures}
use Rattle.laws.specs.Accepted.{All, all_table, Accepts, accepts}
use Rattle.laws.specs.Answer.{fund_cell, fund_cells_are}
use Rattle.laws.specs.Ranges.{FundOk}
use Rattle.laws.specs.Tables.{total_table}
use Rattle.laws.specs.Tariff.{loading_le}
use Rattle.widths.specs.Lives.{InRange}
use Rattle.widths.specs.Parts.{load_part, mean_part}
use Rattle.widths.specs.PartBounds.{mean_le, load_is}
use Rattle.widths.specs.Signed.{nat_abs_add, nat_abs_times, nat_abs_less}
use Rattle.widths.specs.Sums.{total_le}
use Rattle.totals.specs.Table.{members_of_lem}
use Rattle.distance.specs.Distance.{priceable}
use Rattle.distance.specs.Widths.{most_sum, f_sum_small}
use Rattle.pricing.specs.JoinedSteps.{points_in, then_verdict, matched_first}
use Rattle.moves.specs.Move.{most_gross, FiguresIn}

-- ---- sums over cells
pub below_size : (M : ℕ) (ys : List Cell) → nat_abs (sum_below M ys) ≤ M * total (λ (y : Cell). nat_abs y.f) ys
unfolding sum_below total
below_size zero ys = omega arith
below_size (suc M) [] = omega arith
below_size (suc M) (y ∷ ys) =
    let h = nat_abs_add (pos (suc M) *ℤ y.f) (sum_below M ys) in
    let k = nat_abs_times (suc M) y.f in
    let l = below_size M ys in
    let t = total (λ (y : Cell). nat_abs y.f) ys in
    omega (arith, N.mul-add (suc M) (nat_abs y.f) t, N.mul-le-mul_right t (let e : M ≤ suc M = omega arith in e))

pub bound_size : (M most : ℕ) (ys : List Cell) → M ≤ most → All (λ (y : Cell). y.R ≤ most_bound) ys → bound_below M ys ≤ M * (most * most_bound)
unfolding bound_below
bound_size zero most ys m h = omega arith
bound_size (suc M) most [] m h = omega arith
bound_size (suc M) most (y ∷ ys) m h = omega (arith, bound_size M most ys (omega arith) h.1, N.mul-le-mul m h.0)

-- ---- a premium with its bound
not_negative_size : (z : ℤ) → not_negative z ≤ nat_abs z
not_negative_size (pos n) = N.le_refl n
not_negative_size (negsuc n) = omega arith

with_bound_size : (p : ℤ) (w : ℕ) → with_bound p w ≤ nat_abs p + w
unfolding with_bound
with_bound_size p w = N.le_trans (not_negative_size (p +ℤ pos w)) (nat_abs_add p (pos w))

-- ---- an accepted fund
then_accepted : (u v : Verdict) → then_verdict u v ≡ Ok tt → u ≡ Ok tt
then_accepted (Ok tt) v e = refl
then_accepted (Err stop) v e = e

module _ (fund : FundFile) (n : Lengths) (ok : FundOk fund) (v : verdict fund n (fund_cells fund.header (lives fund)) ≡ Ok tt) where
  abbrev a : Accepts fund n (fund_cells fund.header (lives fund))
  a = accepts fund n (fund_cells fund.header (lives fund)) v

  in_range : All InRange (lives fund)
  unfolding lives verdict
  in_range = (members_of_lem (points fund) (points_in fund ok (then_accepted (matched fund (Ok tt)) _ (sym (matched_first fund _) ∙ v)))).in_range

  mean_small : fund_mean fund.header (lives fund) ≤ 65535 * 8000000000000
  unfolding fund_mean mean
  mean_small =
      let ab = fund.header.frequency in
      omega (arith, a.load_within, load_is ab (lives fund), total_le InRange (mean_part ab) (load_part ab) 65535 0 (λ m r. mean_le m ab r) (lives fund) in_range)

  -- the sum of |f| over all cells
  cells_small : total (λ (y : Cell). nat_abs y.f) (fund_cells fund.header (lives fund)) ≤ most_sum
  unfolding fund_terms fund_start
  cells_small =
      let h = fund.header in
      let X = h.horizon in
      rw (fund_cells_are h (lives fund), total_table (λ (y : Cell). nat_abs y.f) (suc X) (fund_cell h (lives fund)))
      (f_sum_small X h.order h.frequency (lives fund) ok.header.order_most (priceable fund n a) ok.header.horizon X (N.le_refl X)
      (λ k l. all_table (λ (y : Cell). y.R ≤ most_bound) (suc X) (fund_cell h (lives fund)) (subst (All (λ (y : Cell). y.R ≤ most_bound)) (fund_cells_are h (lives fund)) a.narrow) k (omega arith)))

  premium_small : nat_abs (fund_premium fund.header (lives fund)) ≤ 600000000000000000
  unfolding fund_premium premium unit
  premium_small =
      let h = fund.header in
      let M = h.deductible in
      let ys = fund_cells h (lives fund) in
      omega (
        arith,
        ok.header.deductible,
        mean_small,
        nat_abs_add (pos (fund_mean h (lives fund)) -ℤ pos (M * unit)) (sum_below M ys),
        nat_abs_less (pos (fund_mean h (lives fund))) (pos (M * unit)),
        below_size M ys,
        N.mul-le-mul ok.header.deductible cells_small,
      )

  within_small : fund_within fund.header (lives fund) ≤ 10000000000000
  unfolding fund_within within fund_truncation
  within_small =
      let h = fund.header in
      let M = h.deductible in
      let few : 2 * M ≤ 2 * most_deductible = omega (arith, ok.header.deductible) in
      omega (
        arith,
        ok.header.deductible,
        bound_size M most_deductible (fund_cells h (lives fund)) ok.header.deductible a.narrow,
        N.mul-le-mul few a.truncation_within,
      )

  gross_small : (fund_figures fund.header (lives fund)).gross ≤ most_gross
  unfolding fund_figures gross
  gross_small =
      let h = fund.header in
      let c = with_bound (fund_premium h (lives fund)) (fund_within h (lives fund)) in
      let e₁ : c ≤ 700000000000000000 = omega (arith, with_bound_size (fund_premium h (lives fund)) (fund_within h (lives fund)), premium_small, within_small) in
      let e₂ : c * h.worth ≤ 700000000000000000 * most_worth = N.mul-le-mul e₁ ok.header.worth_most in
      let e₃ : c * h.worth * loading h.deductible ≤ 700000000000000000 * most_worth * fourth_loading = N.mul-le-mul e₂ (loading_le h.deductible) in
      up_least (c * h.worth * loading h.deductible) (10 ^ 15) most_gross (omega arith) (omega (arith, e₃))

  pub figures_small : FiguresIn fund.header (fund_figures fund.header (lives fund))
  unfolding fund_figures
  figures_small =
      record {
        worth_least = ok.header.worth_least;
        worth_most = ok.header.worth_most;
        premium = omega (arith, premium_small);
        within = omega (arith, within_small);
        gross = gross_small;
      }
