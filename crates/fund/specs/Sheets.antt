-- METHOD 9 (§6): a fund from a header text and two sheets, of rates and of members.
use Rattle.std.specs.Prelude.{true, false, List, [], ◌∷◌, ◌++◌, map, ℕ, suc, ◌+◌, ◌-◌, ◌*◌, ◌/◌, length, take, drop, None, Some, Option, option_map}
use Rattle.fund.specs.declared.Fund.{Fund}
use Rattle.fund.specs.declared.Rate.{Rate}
use Rattle.fund.specs.declared.Member.{Member}
use Rattle.fund.specs.declared.Refusal.TheVariants.{Form, Range, Cell as CellRefusal}
use Rattle.fund.specs.declared.SheetRow.{SheetRow}
use Rattle.fund.specs.declared.SheetRow.TheVariants.{Rate as RateRow, Member as MemberRow}
use Rattle.fund.specs.Base.{bytes, table}
use Rattle.fund.specs.Lines.{Line, lines}
use Rattle.fund.specs.Reading.{Reading, read, stopped, header_lines, rate_in_range, member_in_range, read_header}
use Rattle.fund.specs.Refusals.{Lengths}
use Rattle.fund.specs.Answer.{Answer, answer_to}
use Rattle.fund.specs.Listing.{decimal, joined, listing_to}
use Rattle.fund.specs.SheetCells.{rate_width, member_width, rate_row_of, member_row_of}

-- The rows of a sheet: so many bytes each, and what is left over is a last row, cut short.
unfoldable pub row_count : ℕ → List ℕ → ℕ
row_count width sheet = (length sheet + (width - 1)) / width

unfoldable pub row_at : ℕ → List ℕ → ℕ → List ℕ
row_at width sheet k = take width (drop (width * k) sheet)

unfoldable pub rows_of : ℕ → List ℕ → List (List ℕ)
rows_of width sheet = table (row_count width sheet) (row_at width sheet)

-- A row of either sheet, or that it is not taken.
unfoldable pub rate_row_in : List ℕ → Option SheetRow
rate_row_in row = option_map RateRow (rate_row_of row)

unfoldable pub member_row_in : List ℕ → Option SheetRow
member_row_in row = option_map MemberRow (member_row_of row)

-- Rows that are taken.
abbrev pub rate_rows : List Rate → List (Option SheetRow)
rate_rows rs = map (λ r. Some (RateRow r)) rs

abbrev pub member_rows : List Member → List (Option SheetRow)
member_rows ms = map (λ m. Some (MemberRow m)) ms

-- "rate rows first and member rows after them"
unfoldable pub sheet_rows : List ℕ → List ℕ → List (Option SheetRow)
sheet_rows rates members = map rate_row_in (rows_of rate_width rates) ++ map member_row_in (rows_of member_width members)

-- The rows from the file's line n on, after those that are read. "11 (cell) for a cell not taken or a last row cut short, place the row counted
-- from 1"; "within a row it comes before range (2)"; "age order, q + i, row counts [..] keep that file's number and line".
unfoldable pub read_sheet_rows : ℕ → Fund → List Rate → List Member → List (Option SheetRow) → Reading
read_sheet_rows n header rates members [] = read (record { header = header; rates = rates; members = members })
read_sheet_rows n header rates members (None ∷ rows) = stopped CellRefusal (suc (length rates + length members))
read_sheet_rows n header rates members (Some (RateRow r) ∷ rows) =
    elim (rate_in_range rates r) [ false ↦ stopped Range n | true ↦ read_sheet_rows (suc n) header (rates ++ (r ∷ [])) members rows ]
read_sheet_rows n header rates members (Some (MemberRow m) ∷ rows) =
    elim (member_in_range members m) [ false ↦ stopped Range n | true ↦ read_sheet_rows (suc n) header rates (members ++ (m ∷ [])) rows ]

-- "The header lines still come as text, read first; bytes after the last of them are form (1) at their line."
unfoldable pub read_sheets : List (Option SheetRow) → ℕ → Fund → List Line → Reading
read_sheets rows n header [] = read_sheet_rows n header [] [] rows
read_sheets rows n header (l ∷ ls) = stopped Form n

abbrev pub rows_reading : List ℕ → List (Option SheetRow) → Reading
rows_reading header rows = read_header (read_sheets rows) header_lines 1 [] (lines header)

unfoldable pub sheet_reading : List ℕ → List ℕ → List ℕ → Reading
sheet_reading header rates members = rows_reading header (sheet_rows rates members)

-- "the file with the same rows": the header text, a line for each row, and `end=`.
unfoldable pub rate_text : Rate → List ℕ
rate_text r = bytes "rate=" ++ joined (decimal r.age) (decimal r.q ∷ decimal r.i ∷ [])

unfoldable pub member_text : Member → List ℕ
member_text m = bytes "member=" ++ joined (decimal m.age) (decimal m.group ∷ decimal m.d ∷ decimal m.e ∷ decimal m.lives ∷ [])

unfoldable pub texts : {A : Type 0} → (A → List ℕ) → List A → List ℕ
texts f [] = []
texts f (a ∷ rest) = f a ++ texts f rest

unfoldable pub file_with : List ℕ → List Rate → List Member → List ℕ
file_with header rates members =
    header ++ (texts rate_text rates ++ (texts member_text members ++ (bytes "end=" ++ joined (decimal (length members)) [])))

-- "A fund read from sheets is priced as the file with the same rows". The part that is handed back is a line of the header text; the lines of rows
-- are not in it, and so their part is empty.
abbrev pub sheet_answer : List ℕ → List ℕ → List ℕ → Lengths → Answer
sheet_answer header rates members n = answer_to header n (sheet_reading header rates members)

abbrev pub sheet_listing : List ℕ → List ℕ → List ℕ → List ℕ
sheet_listing header rates members = listing_to header (sheet_reading header rates members)
