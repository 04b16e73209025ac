-- What the tariff answers where the worth is in its range (gross_inside), from the sum's two words (gross_from), and where it is not (gross_low,
-- gross_high). And the largest loaded worth of one unit (loaded_le).
use mathlib.Core.Path.{◌≡◌, sym, ◌∙◌, ap}
use Prim.Native.Nat.{ℕ, ◌+◌, ◌*◌, ◌^◌, ◌≤◌, ◌<◌}
use native.Mathlib.Nat as N
use native.Mathlib.Omega.{arith}
use borrow.Author.Tests.{le-leb, lt-leb}
use lib.IntN.{ℤ}
use Rattle.fund.specs.declared.Fund.{Fund}
use Rattle.fund.specs.Limits.{least_worth, most_worth}
use Rattle.fund.specs.Reading.{between}
use Rattle.fund.specs.Tariff.{loading, with_bound, gross}
use Rattle.laws.specs.Tariff.{loading_le}
use Rattle.rounding.specs.Rounding.{up}
use Rattle.tariff.specs.declared.TwoWords.{TwoWords}
use Rattle.std.specs.Prelude.{◌⊎◌, Some, None}
use Rattle.std.proofs.Common.{inl, inr}
use Rattle.tariff.specs.Gross.{gross_of, InTwoWords}

pub loaded_le : (worth M : ℕ) → worth ≤ most_worth → worth * loading M ≤ 21000000000
loaded_le worth M h = N.le_trans (N.mul-le-mul h (loading_le M)) (omega arith)

module _ (fund : Fund) (premium : ℤ) (within : ℕ) where
  pub gross_inside : least_worth ≤ fund.worth → fund.worth ≤ most_worth → gross_of fund premium within ≡ Some (gross fund.deductible fund.worth premium within)
  unfolding gross_of between
  gross_inside l m = rw (le-leb _ _ l, le-leb _ _ m)

  pub gross_outside : (fund.worth < least_worth) ⊎ ((least_worth ≤ fund.worth) × (most_worth < fund.worth)) → None ≡ gross_of fund premium within
  unfolding gross_of between
  gross_outside (inl l) = rw (lt-leb _ _ l)
  gross_outside (inr l) = rw (le-leb _ _ l.0, lt-leb _ _ l.1)

  pub gross_from : (c : TwoWords) → InTwoWords premium within c → least_worth ≤ fund.worth → fund.worth ≤ most_worth →
      Some (up ((c.high * 10 ^ 15 + c.low) * (fund.worth * loading fund.deductible)) (10 ^ 15)) ≡ gross_of fund premium within
  unfolding gross
  gross_from c k l m =
      ap (λ x. Some (up x (10 ^ 15))) (ap (λ x. x * (fund.worth * loading fund.deductible)) k.sum_is ∙ sym (N.mul_assoc (with_bound premium within) fund.worth (loading fund.deductible)))
      ∙ sym (gross_inside l m)
