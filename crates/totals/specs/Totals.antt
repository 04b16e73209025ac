-- What a table of member lines adds up to.
use Rattle.std.specs.Prelude.{◌≡◌, Option, Some, None, List, ℕ, min, ◌+◌, ◌≤◌, length}
use Rattle.whole.specs.Sign.{signed}
use Rattle.fund.specs.declared.Fund.{Fund}
use Rattle.fund.specs.declared.Life.{Life}
use Rattle.fund.specs.declared.ModelPoint.{ModelPoint}
use Rattle.fund.specs.Folding.{copies}
use Rattle.fund.specs.Limits.{most_load, most_truncation, most_members}
use Rattle.fund.specs.Transform.{lambda, load, truncation, mean}
use Rattle.fund.specs.Recursion.{start, start_bound}
use Rattle.totals.specs.declared.product.Product.{Product}
use Rattle.totals.specs.declared.Totals.{Totals}
use Rattle.start.specs.declared.StartSum.{StartSum}
use Rattle.totals.specs.Table.{Points, most_mean}
use Rattle.totals.specs.Inside.{HeaderIn}

-- The lambda of the start, up to the largest load: a fund with more is refused.
abbrev pub start_lambda : Fund → List Life → ℕ
start_lambda fund ms = min (lambda fund.frequency ms) most_load

pub record StartedWith (all figure m : ℕ) (l : StartSum) (p : Product) (r : Totals) : Type 0 where
  pub load_is : r.load ≡ all
  pub truncation_is : r.truncation ≡ figure
  pub mean_is : r.mean ≡ m
  pub cell_is : r.cell ≡ signed l.sum.negative p.size
  pub bound_is : r.bound ≡ l.bound + p.singles

pub record LivesTotals (fund : Fund) (ms : List Life) (r : Totals) : Type 0 where
  pub load_is : r.load ≡ load fund.frequency ms
  pub truncation_is : r.truncation ≡ min (truncation fund.order ms) (most_truncation + 1)
  pub mean_is : r.mean ≡ min (mean fund.frequency ms) most_mean
  pub cell_is : r.cell ≡ start (start_lambda fund ms) ms
  pub bound_is : r.bound ≡ start_bound (start_lambda fund ms) ms
  pub bound_within : r.bound ≤ 691 + length ms

-- A table of so many lines, with its header, in their ranges, and its totals.
pub record TotalsIn (fund : Fund) (count : ℕ) (ps : List ModelPoint) (t : Totals) : Type 0 where
  pub few : count ≤ most_members
  pub points : Points ps
  pub header : HeaderIn fund
  pub sums : LivesTotals fund (copies ps) t

-- The totals of a table, or that it is not in its ranges.
abbrev pub TotalsFor : Fund → ℕ → List ModelPoint → Option Totals → Type 0
TotalsFor fund count ps (Some t) = TotalsIn fund count ps t
TotalsFor fund count ps None = (count ≤ most_members) × Points ps × HeaderIn fund → ⊥
