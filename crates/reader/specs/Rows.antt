-- The reading of the rows from a place on.
use Rattle.std.specs.Prelude.{◌≡◌, List, [], ℕ, length, ⊤, Result}
use Rattle.fund.specs.declared.Fund.{Fund}
use Rattle.fund.specs.declared.Rate.{Rate}
use Rattle.fund.specs.declared.Member.{Member}
use Rattle.fund.specs.Reading.{Reading, read_rows}
use Rattle.fund.specs.declared.Refused.{Refused}
use Rattle.rows.specs.Read.{file_read, read_as}
use Rattle.rows.specs.Rows.{line_place}
use Rattle.lines.specs.Lines.{lines_at}

-- The rows in the lines from a place of a file on, behind the rows before them.
abbrev pub rows_from : Fund → List ℕ → ℕ → List Rate → List Member → Reading
rows_from fund file at rs ms = read_rows (line_place (length rs) (length ms)) fund rs ms (lines_at file at)

-- The rows that were added are those of the lines from a place on, behind any header.
abbrev pub ReadsRows : List ℕ → ℕ → List Rate → List Member → Result ⊤ Refused → Type 0
ReadsRows file start rs ms r = (fund : Fund) → read_as fund rs ms r ≡ file_read (rows_from fund file start [] [])
