-- What a pricing call leaves: the answer of the method; of every fund that it accepts, demand 3, what the answer at the level says of the exact
-- distribution function, and what the gross premium covers.
use Rattle.std.specs.Prelude.{◌≡◌, ◌&&◌, List, [], ℕ, ◌-◌, ◌≤◌, leb, length, take, drop, if◌then◌else◌, Option, None, Result, Ok, Err}
use Rattle.arrayvec.specs.ArrayVec.{ArrayVec}
use Rattle.fund.specs.declared.Cells.{Cells}
use Rattle.fund.specs.declared.Figures.{Figures}
use Rattle.fund.specs.declared.Fund.{Fund}
use Rattle.fund.specs.declared.ModelPoint.{ModelPoint}
use Rattle.fund.specs.declared.Refused.{Refused}
use Rattle.fund.specs.Limits.{most_level}
use Rattle.fund.specs.Reading.{FundFile, Reading, read, stopped}
use Rattle.fund.specs.Verdict.{Verdict}
use Rattle.fund.specs.Refusals.{Lengths}
use Rattle.fund.specs.Quantile.{quantile_of}
use Rattle.fund.specs.Answer.{no_figures, part, Answer, refused, answer_to}
use Rattle.fund.specs.Listing.{horizon_in}
use Rattle.fund.specs.Distance.{WithinBounds, AverageExcess, NeverBelow, QuantileWithin}
use Rattle.matching.specs.Matching.{file_of, matched_rows}
use Rattle.rows.specs.declared.Rows.{Rows}
use Rattle.valuation.specs.Valued.{valuation}
use Rattle.pricing.specs.declared.Priced.{Priced}
use Rattle.pricing.specs.declared.NotPriced.{NotPriced}

-- ---- the parts of what a call answers: of a refusal zero for every figure, and no part of an accepted fund's bytes
abbrev pub verdict_in : Result Priced NotPriced → Verdict
verdict_in (Ok p) = Ok tt
verdict_in (Err e) = Err e.refused

abbrev pub start_in : Result Priced NotPriced → ℕ
start_in (Ok p) = 0
start_in (Err e) = e.start

abbrev pub end_in : Result Priced NotPriced → ℕ
end_in (Ok p) = 0
end_in (Err e) = e.end

abbrev pub figures_in : Result Priced NotPriced → Figures
figures_in (Ok p) = p.figures
figures_in (Err e) = no_figures

abbrev pub horizon_of : Result Priced NotPriced → ℕ
horizon_of (Ok p) = p.horizon
horizon_of (Err e) = 0

abbrev pub quantile_told : Result Priced NotPriced → Option ℕ
quantile_told (Ok p) = p.quantile
quantile_told (Err e) = None

-- The answer that a call leaves: what it returns, and the slices.
abbrev pub left_priced : Result Priced NotPriced → Cells → Answer
left_priced p c =
    record {
      verdict = verdict_in p;
      part = record { start = start_in p; size = end_in p - start_in p };
      figures = figures_in p;
      D = c.transform.now;
      H = c.h.now;
      f = c.f.now;
      R = c.r.now;
      F = c.sums.now;
    }

-- The horizon is told of a fund that is accepted.
abbrev pub horizon_with : Verdict → ℕ → ℕ
horizon_with (Ok u) X = X
horizon_with (Err stop) X = 0

-- What is left is the answer, its part lies in the text, the horizon is that of what was read, and the answer at the level is that of the sums that
-- are left.
pub record Answers (text : List ℕ) (r : Reading) (level : ℕ) (p : Result Priced NotPriced) (a is : Answer) : Type 0 where
  pub answer : a ≡ is
  pub horizon : horizon_of p ≡ horizon_with (verdict_in p) (horizon_in r)
  pub quantile : quantile_told p ≡ quantile_of level (horizon_of p) a.F (verdict_in p)
  pub ordered : start_in p ≤ end_in p
  pub inside : end_in p ≤ length text

-- The contract of a call. For each sequence of bytes, any level and any lengths of the slices, the answer is the definition's: number,
-- place, part, figures, every lent cell, and the answer at the level. And demand 3: whenever it accepts, each f(x), each F(x) and the premium are
-- within their bounds of the exact values; the answer at a level of at most 10^12 is right but for the bounds of the sums; the gross premium is
-- never below the exact premium's loaded worth; and with lambda 0 the exact premium is the average excess over M. The reading is that of a file, whose text it is, or that of a header text and two sheets.
pub record Prices (text : List ℕ) (r : Reading) (level : ℕ) (n : Lengths) (p : Result Priced NotPriced) (a : Answer) : Type 0 where
  pub answers : Answers text r level p a (answer_to text n r)
  pub distance : (fund : FundFile) → r ≡ read fund → a.verdict ≡ Ok tt → WithinBounds fund a
  pub level_within : (fund : FundFile) → r ≡ read fund → a.verdict ≡ Ok tt → level ≤ most_level → QuantileWithin fund a level (quantile_told p)
  pub never_below : (fund : FundFile) → r ≡ read fund → a.verdict ≡ Ok tt → NeverBelow fund a
  pub average : (fund : FundFile) → r ≡ read fund → a.verdict ≡ Ok tt → AverageExcess fund

-- An answer with the line of its verdict.
abbrev pub lined : List ℕ → Answer → Answer
lined text a = record { verdict = a.verdict; part = part text a.verdict; figures = a.figures; D = a.D; H = a.H; f = a.f; R = a.R; F = a.F }

-- Where 3 to 6 stopped, their refusal; else what the valuation of the model points leaves.
abbrev pub valued_by : Fund → Lengths → Result (ArrayVec ModelPoint) Refused → Answer
valued_by fund n (Ok points) = valuation fund (length points.items) points.items n
valued_by fund n (Err stop) = refused [] n (Err stop)

abbrev pub valued_of : Rows → Lengths → Answer
valued_of r n = valued_by r.fund n (matched_rows r)

-- What was read, as a reading; its horizon, 0 where reading stopped.
abbrev pub found_in : Result Rows Refused → Reading
found_in (Ok r) = read (file_of r)
found_in (Err stop) = stopped stop.why stop.place

abbrev pub found_horizon : Result Rows Refused → ℕ
found_horizon (Ok r) = r.fund.horizon
found_horizon (Err stop) = 0

-- Where reading stopped, its refusal; else what 3 to 6 and the valuation answer of the rows, with the line of the verdict.
abbrev pub read_answer : List ℕ → Result Rows Refused → Lengths → Answer
read_answer text (Ok r) n = lined text (valued_of r n)
read_answer text (Err stop) n = refused text n (Err stop)

-- The contract of the call on what was read, whatever it is: each step's definition, one after the other. Of what a reading of a fund in its ranges gives it is that of the call on the
-- text (proofs/PricedRead.prices_read).
pub record PricesRead (text : List ℕ) (found : Result Rows Refused) (level : ℕ) (n : Lengths) (p : Result Priced NotPriced) (a : Answer) : Type 0 where
  pub answer : a ≡ read_answer text found n
  pub horizon : horizon_of p ≡ horizon_with (verdict_in p) (found_horizon found)
  pub quantile : quantile_told p ≡ quantile_of level (horizon_of p) a.F (verdict_in p)
  pub ordered : start_in p ≤ end_in p
  pub inside : end_in p ≤ length text

-- The bytes from start to end, and none where these lie outside the text.
unfoldable pub line_between : List ℕ → ℕ → ℕ → List ℕ
line_between text start end = if leb start end && leb end (length text) then take (end - start) (drop start text) else []

abbrev pub line_of : List ℕ → Result Priced NotPriced → List ℕ
line_of text p = line_between text (start_in p) (end_in p)
