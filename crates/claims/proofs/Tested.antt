-- The tests of the totals and of the limits answer as their definitions do (tests_totals, kept_as), and so the transform (transforms).
use Rattle.std.specs.Prelude.{◌≡◌, List, ℕ, ℤ, length, ⊤, Option, Result, Ok, Err}
use Rattle.std.proofs.Common.{sym, arith}
use borrow.Author.Tests.{le-ltb}
use Rattle.fund.specs.declared.Fund.{Fund}
use Rattle.fund.specs.declared.ModelPoint.{ModelPoint}
use Rattle.fund.specs.declared.Refused.{Refused}
use Rattle.fund.specs.Recursion.{Cell}
use Rattle.fund.specs.Refusals.{Lengths, refuse, at0}
use Rattle.recursion_limits.specs.declared.Broken.{Broken}
use Rattle.recursion_limits.specs.Tests.{tested, Tests}
use Rattle.recursion_limits.proofs.TestedLimits.{tested_kept}
use Rattle.totals.specs.declared.Totals.{Totals}
use Rattle.totals.specs.Tests.{tested_of, Tested}
use Rattle.transform.specs.declared.NotTransformed.{NotTransformed}
use Rattle.transform.specs.Transformed.{TransformedFor, totals_told, tested_in}
use Rattle.claims.specs.Steps.{TestsTotals, Transforms}

pub tests_totals : (fund : Fund) (totals : Option Totals) (n : Lengths) (r : Result Totals Refused) → Tested fund totals n r → TestsTotals fund totals n r
unfolding tested_of refuse at0
tests_totals fund totals n (Ok t) k =
    record {
      verdict_is = rw (k.inside_is, le-ltb _ _ k.load_within, le-ltb _ _ k.truncation_within, k.long);
      passed = λ s e. let z : t ≡ s = cc e in rw z at k.inside_is;
    }
tests_totals fund totals n (Err stop) k = record { verdict_is = sym k; passed = λ t e. let z : ◌≡◌ {A = ℕ} 0 1 = cc e in absurd (omega arith) }

pub transforms : (fund : Fund) (ps : List ModelPoint) (n : Lengths) (r : Result Totals NotTransformed) (d : List ℤ) (h : List ℕ) → TransformedFor fund (length ps) ps n r d h → Transforms fund ps n r d h
transforms fund ps n r d h k =
    record { totals_are = k.totals_are; tests = tests_totals fund (totals_told r) n (tested_in r) k.known_is; D_is = k.d_is; H_is = k.h_is }

pub kept_as : (X : ℕ) (d : List ℤ) (h : List ℕ) (start : Cell) (nf nr : ℕ) (t : Result ⊤ Broken) → Tests X d h start nf nr t → t ≡ tested X d h start nf nr
kept_as X d h start nf nr (Ok tt) k = sym (tested_kept X d h start nf nr k)
kept_as X d h start nf nr (Err limit) k = sym k
