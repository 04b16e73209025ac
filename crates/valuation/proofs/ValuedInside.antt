-- A header and model points in their ranges are valued: the answer is that of 7 to 10.
use mathlib.Core.Path.{◌≡◌}
use mathlib.Core.List.{List}
use Prim.Native.Nat.{ℕ, ◌≤◌}
use Rattle.fund.specs.declared.Fund.{Fund}
use Rattle.fund.specs.declared.ModelPoint.{ModelPoint}
use Rattle.fund.specs.Limits.{most_members}
use Rattle.fund.specs.Folding.{copies}
use Rattle.fund.specs.Refusals.{Lengths, valued}
use Rattle.fund.specs.Answer.{fund_cells}
use Rattle.totals.specs.Table.{Points}
use Rattle.totals.specs.Inside.{HeaderIn}
use Rattle.totals.proofs.InsideTells.{inside_tells}
use Rattle.transform.specs.Transformed.{outcome}
use Rattle.valuation.specs.Valued.{verdict_of, valuation}

pub valuation_inside : (fund : Fund) (count : ℕ) (ps : List ModelPoint) (n : Lengths) → count ≤ most_members → HeaderIn fund → Points ps →
    valuation fund count ps n ≡ outcome fund (copies ps) n (valued fund (copies ps) n (fund_cells fund (copies ps)))
unfolding valuation verdict_of
valuation_inside fund count ps n few header points = rw ((inside_tells fund count ps).no (few, (header, points)))
