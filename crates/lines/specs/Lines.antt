-- What the functions on the lines of a file answer, in the words of the fund's definitions.
use Rattle.std.specs.Prelude.{◌≡◌, List, ◌∷◌, ℕ, ◌+◌, ◌≤◌, ◌<◌, Option, Some, None, length, drop}
use Rattle.fund.specs.Lines.{Line as FundLine, lines, lines_from}
use Rattle.lines.specs.declared.line.Line.{Line}

-- The lines from a place on.
abbrev pub lines_at : List ℕ → ℕ → List FundLine
lines_at file at = lines_from at (drop at file)

abbrev pub line_of : Line → FundLine
line_of l = record { start = l.start; text = l.text.now; ended = l.ended }

-- A line stands at a place, inside the file, and the next one starts behind it.
pub record LineTaken (file : List ℕ) (at : ℕ) (l : FundLine) (next : ℕ) : Type 0 where
  pub first : lines_at file at ≡ l ∷ lines_at file next
  pub later : at < next
  pub ends : l.start + length l.text ≤ next
  pub inside : next ≤ length file

-- The line at a place and where the next one starts, or that no bytes are left there.
abbrev pub Taken : List ℕ → ℕ → Option FundLine → ℕ → Type 0
Taken file at (Some l) next = LineTaken file at l next
Taken file at None next = length file ≤ at

-- The lines from `at` on are the file's after those that were passed.
pub record Passed (file : List ℕ) (passed at : ℕ) : Type 0 where
  pub left : drop passed (lines file) ≡ lines_at file at
