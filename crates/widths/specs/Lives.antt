-- The ranges of a fund's lives.
use Rattle.std.specs.Prelude.{◌≡◌, ◌≤◌}
use Rattle.fund.specs.declared.Life.{Life}
use Rattle.fund.specs.Limits.{least_group, most_group, most_rate, most_amount}
use Rattle.fund.specs.Folding.{claim}
use Rattle.laws.specs.Accepted.{Limited}

-- A life of a fund that the ranges and refusal 6 let through.
pub record InRange (m : Life) : Type 0 where
  pub group_least : least_group ≤ m.group
  pub group_most : m.group ≤ most_group
  pub rates : claim m ≤ most_rate
  pub limited : Limited m
  pub death : m.d ≤ most_amount
  pub disability : m.e ≤ most_amount
  pub no_death : m.d ≡ 0 → m.q ≡ 0
  pub no_disability : m.e ≡ 0 → m.i ≡ 0
