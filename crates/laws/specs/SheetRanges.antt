-- What holds of every fund that is read from sheets: its figures and rows are in their ranges (sheet_ranges).
use Rattle.std.specs.Prelude.{Some, ◌≡◌, refl, List, [], ◌∷◌, ◌++◌, ℕ, suc, None, Option}
use Rattle.std.proofs.Common.{subst}
use Rattle.fund.specs.declared.Fund.{Fund}
use Rattle.fund.specs.declared.Rate.{Rate}
use Rattle.fund.specs.declared.Member.{Member}
use Rattle.fund.specs.declared.Refusal.TheVariants.{Form, Range, Cell as CellRefusal}
use Rattle.fund.specs.declared.SheetRow.{SheetRow}
use Rattle.fund.specs.declared.SheetRow.TheVariants.{Rate as RateRow, Member as MemberRow}
use Rattle.fund.specs.Lines.{Line}
use Rattle.fund.specs.Reading.{FundFile, read, rate_in_range, member_in_range}
use Rattle.fund.specs.Sheets.{sheet_rows, read_sheet_rows, read_sheets, sheet_reading}
use Rattle.laws.specs.PassedLines.{never, pass, fund_so_far}
use Rattle.laws.specs.Ranges.{RowsOk, Reads, FundOk, more_rates, more_members, no_rows, text_ranges}

pub sheet_rows_ranges : (rows : List (Option SheetRow)) (n : ℕ) (header : Fund) (rates : List Rate) (members : List Member) (fund : FundFile) → RowsOk rates members →
    read_sheet_rows n header rates members rows ≡ read fund → Reads header fund
unfolding read_sheet_rows
sheet_rows_ranges [] n header rates members fund k e = let z : fund_so_far n header rates members ≡ fund = cc in subst (λ f. Reads header f) z (record { header_is = refl; rows = k })
sheet_rows_ranges (None ∷ rows) n header rates members fund k e = absurd (never CellRefusal _ fund e)
sheet_rows_ranges (Some (RateRow r) ∷ rows) n header rates members fund k e =
    let h = pass (rate_in_range rates r) Range n _ fund e in
    sheet_rows_ranges rows (suc n) header (rates ++ (r ∷ [])) members fund (more_rates rates members r k h.0) h.1
sheet_rows_ranges (Some (MemberRow m) ∷ rows) n header rates members fund k e =
    let h = pass (member_in_range members m) Range n _ fund e in
    sheet_rows_ranges rows (suc n) header rates (members ++ (m ∷ [])) fund (more_members rates members m k h.0) h.1

sheets_ranges : (rows : List (Option SheetRow)) (fund : FundFile) (n : ℕ) (header : Fund) (ls : List Line) → read_sheets rows n header ls ≡ read fund → Reads header fund
unfolding read_sheets
sheets_ranges rows fund n header [] e = sheet_rows_ranges rows n header [] [] fund no_rows e
sheets_ranges rows fund n header (l ∷ ls) e = absurd (never Form n fund e)

pub sheet_ranges : (header rates members : List ℕ) (fund : FundFile) → sheet_reading header rates members ≡ read fund → FundOk fund
unfolding sheet_reading
sheet_ranges header rates members fund e = text_ranges (read_sheets (sheet_rows rates members)) header fund (sheets_ranges (sheet_rows rates members) fund) e
