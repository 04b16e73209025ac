-- The reading of the rows of sheets.
use Rattle.std.specs.Prelude.{◌≡◌, List, [], ℕ, Option, length, ⊤, Result}
use Rattle.fund.specs.declared.Fund.{Fund}
use Rattle.fund.specs.declared.Rate.{Rate}
use Rattle.fund.specs.declared.Member.{Member}
use Rattle.fund.specs.declared.SheetRow.{SheetRow}
use Rattle.fund.specs.Reading.{Reading}
use Rattle.fund.specs.declared.Refused.{Refused}
use Rattle.fund.specs.Sheets.{read_sheet_rows, sheet_rows}
use Rattle.rows.specs.Read.{file_read, read_as}
use Rattle.rows.specs.Rows.{line_place}

-- The rows that are left, behind the rows before them.
abbrev pub rows_from : Fund → List Rate → List Member → List (Option SheetRow) → Reading
rows_from fund rs ms left = read_sheet_rows (line_place (length rs) (length ms)) fund rs ms left

-- The rows that were added are those of both sheets, behind any header.
abbrev pub ReadsRows : List ℕ → List ℕ → List Rate → List Member → Result ⊤ Refused → Type 0
ReadsRows rates members rs ms r = (fund : Fund) → read_as fund rs ms r ≡ file_read (rows_from fund [] [] (sheet_rows rates members))
