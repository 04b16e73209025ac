-- What the tariff answers for any terms, premium and bound.
use Rattle.std.specs.Prelude.{◌≡◌, ℕ, ◌+◌, ◌*◌, ◌^◌, ◌<◌, ◌≤◌, ℤ, if◌then◌else◌, Option, Some, None}
use Rattle.fund.specs.declared.Fund.{Fund}
use Rattle.fund.specs.Limits.{least_worth, most_worth}
use Rattle.fund.specs.Reading.{between}
use Rattle.fund.specs.Tariff.{with_bound, gross}
use Rattle.tariff.specs.declared.TwoWords.{TwoWords}

-- The definition's gross premium, of a worth that a fund may state; of another none.
unfoldable pub gross_of : Fund → ℤ → ℕ → Option ℕ
gross_of fund premium within =
    if between least_worth most_worth fund.worth then Some (gross fund.deductible fund.worth premium within) else None

-- A premium with its bound, in two words.
pub record InTwoWords (premium : ℤ) (within : ℕ) (c : TwoWords) : Type 0 where
  pub sum_is : c.high * 10 ^ 15 + c.low ≡ with_bound premium within
  pub high_le : c.high ≤ 27669
  pub low_lt : c.low < 2 * 10 ^ 15
