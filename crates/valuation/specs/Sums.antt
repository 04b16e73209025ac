-- What the running sums of the cells need: slices that are long enough, and sizes that fit.
use Rattle.std.specs.Prelude.{List, ℕ, suc, ◌<◌, ◌≤◌, ℤ, length}
use Rattle.fund.specs.Limits.{most_horizon}
use Rattle.recursion_limits.specs.Limits.{most_cell}
use Rattle.valuation.specs.Premium.{levels}

pub record SumsFit (X : ℕ) (f : List ℤ) (n : ℕ) : Type 0 where
  pub horizon : X ≤ most_horizon
  pub f_long : X < length f
  pub sums_long : X < n
  pub levels_within : levels f (suc X) ≤ most_cell
