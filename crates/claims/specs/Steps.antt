-- What the tests of the totals and the transform answer, in plain words.
use Rattle.std.specs.Prelude.{◌≡◌, List, ℕ, ℤ, length, Option, Some, Result, Ok}
use Rattle.fund.specs.declared.Fund.{Fund}
use Rattle.fund.specs.declared.ModelPoint.{ModelPoint}
use Rattle.fund.specs.declared.Refused.{Refused}
use Rattle.fund.specs.Folding.{copies}
use Rattle.fund.specs.Refusals.{Lengths}
use Rattle.totals.specs.declared.Totals.{Totals}
use Rattle.totals.specs.Totals.{TotalsFor}
use Rattle.totals.specs.Tests.{tested_of}
use Rattle.transform.specs.declared.NotTransformed.{NotTransformed}
use Rattle.transform.specs.Transformed.{outcome, verdict_of, totals_told, tested_in}

-- The verdict is that of the tests in their order; totals that pass are handed on as they are.
pub record TestsTotals (fund : Fund) (totals : Option Totals) (n : Lengths) (r : Result Totals Refused) : Type 0 where
  pub verdict_is : verdict_of r ≡ tested_of fund totals n
  pub passed : (t : Totals) → r ≡ Ok t → totals ≡ Some t

-- The totals of a table, told of a refusal too, the verdict of their tests, and D and H of the answer for it.
pub record Transforms (fund : Fund) (ps : List ModelPoint) (n : Lengths) (r : Result Totals NotTransformed) (d : List ℤ) (h : List ℕ) : Type 0 where
  pub totals_are : TotalsFor fund (length ps) ps (totals_told r)
  pub tests : TestsTotals fund (totals_told r) n (tested_in r)
  pub D_is : d ≡ (outcome fund (copies ps) n (verdict_of (tested_in r))).D
  pub H_is : h ≡ (outcome fund (copies ps) n (verdict_of (tested_in r))).H
