-- What the valuation of a fund's model points answers and leaves: the refusals 7 to 10 or the fund's figures, with the five result slices.
use Rattle.std.specs.Prelude.{List, ℕ, ℤ, length, if◌then◌else◌, Result, Ok, Err}
use Rattle.fund.specs.declared.Fund.{Fund}
use Rattle.fund.specs.declared.ModelPoint.{ModelPoint}
use Rattle.fund.specs.declared.Refusal.TheVariants.{Range}
use Rattle.fund.specs.declared.Refused.{Refused}
use Rattle.fund.specs.declared.Figures.{Figures}
use Rattle.fund.specs.declared.Cells.{Cells}
use Rattle.fund.specs.Verdict.{Verdict, refused_at}
use Rattle.fund.specs.Folding.{copies}
use Rattle.fund.specs.Refusals.{Lengths, valued}
use Rattle.fund.specs.Answer.{empty, no_figures, Answer, fund_cells}
use Rattle.totals.specs.Inside.{inside}
use Rattle.transform.specs.Transformed.{outcome}

-- The answer that a call leaves: what it returns, and the slices.
abbrev pub left_in : Result Figures Refused → List ℤ → List ℕ → List ℤ → List ℕ → List ℤ → Answer
left_in (Ok figures) d h f r s = record { verdict = Ok tt; part = empty; figures = figures; D = d; H = h; f = f; R = r; F = s }
left_in (Err stop) d h f r s = record { verdict = Err stop; part = empty; figures = no_figures; D = d; H = h; f = f; R = r; F = s }

abbrev pub left_valued : Result Figures Refused → Cells → Answer
left_valued valued c = left_in valued c.transform.now c.h.now c.f.now c.r.now c.sums.now

-- A header or model points that no file can give, or that have not passed 4 and 6 (a deductible above X + 1, a life that is half: these are asked before, where the lines are
-- known), or a count above the table, break a limit (2) on no line; else 7 to 10, of the lives.
unfoldable pub verdict_of : Fund → ℕ → List ModelPoint → Lengths → Verdict
verdict_of fund count ps n = if inside fund count ps then valued fund (copies ps) n (fund_cells fund (copies ps)) else refused_at Range 0

unfoldable pub valuation : Fund → ℕ → List ModelPoint → Lengths → Answer
valuation fund count ps n = outcome fund (copies ps) n (verdict_of fund count ps n)

abbrev pub lengths_in : List ℤ → List ℕ → List ℤ → List ℕ → List ℤ → Lengths
lengths_in d h f r s = record { D = length d; H = length h; f = length f; R = length r; F = length s }
