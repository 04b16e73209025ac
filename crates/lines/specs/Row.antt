-- What a line behind the header says.
use Rattle.std.specs.Prelude.{◌≡◌, List, [], ◌∷◌, ℕ, ◌≤◌, ◌<◌, Option, Some, None, length}
use Rattle.fund.specs.Lines.{Line as FundLine}
use Rattle.fund.specs.Reading.{Row as FundRow, rate_row, member_row, end_row, other_row, row_of}
use Rattle.lines.specs.declared.row.Row.{Row}
use Rattle.lines.specs.declared.row.Row.TheVariants.{Rate, Member, End}
use Rattle.lines.specs.Lines.{lines_at}

-- The first of the lines; a missing line has no row's form.
unfoldable pub first_row : List FundLine → FundRow
first_row [] = other_row
first_row (l ∷ ls) = row_of l

abbrev pub said : Row → FundRow
said (Rate r) = rate_row r
said (Member m) = member_row m
said (End n) = end_row n

abbrev pub row_said : Option Row → FundRow
row_said (Some row) = said row
row_said None = other_row

-- The line at a place is a row, and the next one starts behind it.
pub record RowAt (file : List ℕ) (at : ℕ) (row : FundRow) (next : ℕ) : Type 0 where
  pub line : FundLine
  pub first : lines_at file at ≡ line ∷ lines_at file next
  pub is : row_of line ≡ row
  pub later : at < next
  pub inside : next ≤ length file

abbrev pub RowIs : List ℕ → ℕ → Option (Row × ℕ) → Type 0
RowIs file at (Some found) = RowAt file at (said found.0) found.1
RowIs file at None = first_row (lines_at file at) ≡ other_row
