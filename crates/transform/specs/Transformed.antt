-- What is known of the first model points of a table: their totals, the first refusal that these decide, or none, and what the slices of D and H hold.
use Rattle.std.specs.Prelude.{◌≡◌, List, [], ℕ, ℤ, length, Option, Some, Result, Ok, Err}
use Rattle.fund.specs.declared.Fund.{Fund}
use Rattle.fund.specs.declared.Life.{Life}
use Rattle.fund.specs.declared.ModelPoint.{ModelPoint}
use Rattle.fund.specs.declared.Refused.{Refused}
use Rattle.fund.specs.Verdict.{Verdict}
use Rattle.fund.specs.Folding.{copies}
use Rattle.fund.specs.Refusals.{Lengths}
use Rattle.fund.specs.Answer.{Answer, refused, accepted}
use Rattle.totals.specs.Totals.{TotalsFor}
use Rattle.totals.specs.Tests.{Tested}
use Rattle.totals.specs.declared.Totals.{Totals}
use Rattle.transform.specs.declared.NotTransformed.{NotTransformed}

abbrev pub lengths_of : List ℤ → List ℕ → ℕ → ℕ → ℕ → Lengths
lengths_of d h nf nr ns = record { D = length d; H = length h; f = nf; R = nr; F = ns }

-- The answer for a verdict: a refusal hands back no line here.
abbrev pub outcome : Fund → List Life → Lengths → Verdict → Answer
outcome fund ms n (Ok tt) = accepted fund ms n
outcome fund ms n (Err stop) = refused [] n (Err stop)

-- Whether the totals are accepted.
abbrev pub verdict_of : Result Totals Refused → Verdict
verdict_of (Ok t) = Ok tt
verdict_of (Err stop) = Err stop

-- The totals that an answer has: a refusal has them too.
abbrev pub totals_told : Result Totals NotTransformed → Option Totals
totals_told (Ok t) = Some t
totals_told (Err stop) = stop.totals

-- The totals that are accepted, or the refusal.
abbrev pub tested_in : Result Totals NotTransformed → Result Totals Refused
tested_in (Ok t) = Ok t
tested_in (Err stop) = Err stop.refused

-- A table of `count` lines, and five result slices of the lengths n: its totals, and the refusal that they decide, or none. D and H are those of the verdict's answer: up to the
-- horizon the lives' own and zeros beyond it, or zeros.
pub record TransformedFor (fund : Fund) (count : ℕ) (ps : List ModelPoint) (n : Lengths) (known : Result Totals NotTransformed) (d : List ℤ) (h : List ℕ) : Type 0 where
  pub totals_are : TotalsFor fund count ps (totals_told known)
  pub known_is : Tested fund (totals_told known) n (tested_in known)
  pub d_is : d ≡ (outcome fund (copies ps) n (verdict_of (tested_in known))).D
  pub h_is : h ≡ (outcome fund (copies ps) n (verdict_of (tested_in known))).H
