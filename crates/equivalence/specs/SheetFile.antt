-- METHOD 9 (§6): "A fund read from sheets is priced as the file with the same rows". Where the header text alone is read and all rows are taken,
-- the sheets' reading is the file's (same_reading). A refusal in the header comes before any row (header_first).
use Rattle.std.specs.Prelude.{◌≡◌, refl, ◌⊎◌, true, false, List, [], ◌∷◌, ◌++◌, ℕ, suc, ◌+◌, ◌≤◌, length, Option}
use Rattle.std.proofs.Common.{sym, ◌∙◌, ap, ap₂, subst, inl, inr, append-nil, append_assoc, arith, eq-eqb, length-append}
use Rattle.fund.specs.declared.Fund.{Fund}
use Rattle.fund.specs.declared.Rate.{Rate}
use Rattle.fund.specs.declared.Member.{Member}
use Rattle.fund.specs.declared.Refusal.{Refusal}
use Rattle.fund.specs.declared.Refusal.TheVariants.{Form, Range}
use Rattle.fund.specs.declared.SheetRow.{SheetRow}
use Rattle.fund.specs.Limits.{most_members}
use Rattle.fund.specs.Base.{table}
use Rattle.fund.specs.Lines.{Line, lines_from, lines}
use Rattle.fund.specs.Reading.{FundFile, read, stopped, header_lines, rate_row, member_row, row_of, rate_in_range, member_in_range, no_member, read_rows, read_header, reading, file_rows}
use Rattle.fund.specs.Sheets.{row_count, rows_of, sheet_rows, read_sheet_rows, read_sheets, sheet_reading, rate_text, member_text, texts, file_with, rate_rows, member_rows}
use Rattle.laws.specs.Accepted.{All}
use Rattle.laws.specs.PassedLines.{never, on_pass, fund_so_far, on_end}
use Rattle.laws.specs.Ranges.{member_ok}
use Rattle.equivalence.specs.HeaderOutcome.{Ended, Stops, Passes, passed, header_outcome, lines_append}
use Rattle.laws.specs.RowTexts.{ShortRate, ShortMember, rate_first, member_first, end_text, end_first}
use Rattle.laws.specs.TakenRows.{taken_short}

-- ---- rows
module _ (n : ℕ) (header : Fund) (rates : List Rate) (l : Line) (ls : List Line) where
  rate_step : (r : Rate) → row_of l ≡ rate_row r →
      read_rows n header rates [] (l ∷ ls) ≡ elim (rate_in_range rates r) [ false ↦ stopped Range n | true ↦ read_rows (suc n) header (rates ++ (r ∷ [])) [] ls ]
  unfolding read_rows no_member
  rate_step r s = rw (s, read_rows)

  member_step : (members : List Member) (m : Member) → row_of l ≡ member_row m →
      read_rows n header rates members (l ∷ ls) ≡ elim (member_in_range members m) [ false ↦ stopped Range n | true ↦ read_rows (suc n) header rates (members ++ (m ∷ [])) ls ]
  unfolding read_rows
  member_step members m s = rw (s, read_rows)

end_alike : (n : ℕ) (header : Fund) (rates : List Rate) (members : List Member) (k at : ℕ) → k ≡ length members → length members ≤ most_members →
    read_rows n header rates members (lines_from at (end_text k)) ≡ read (fund_so_far n header rates members)
unfolding lines_from
end_alike n header rates members k at e few =
    let f = end_first k at [] (omega arith) in
    ap (λ t. read_rows n header rates members (lines_from at t)) (sym (append-nil (end_text k)))
    ∙ ap (read_rows n header rates members) f.lines_are
    ∙ on_end n header rates members f.line [] k f.row_is (eq-eqb k (length members) e) refl

members_alike : (ms : List Member) (n : ℕ) (header : Fund) (rates : List Rate) (members : List Member) (k at : ℕ) → All ShortMember ms → length members ≤ most_members → k ≡ length members + length ms →
    read_sheet_rows n header rates members (member_rows ms) ≡ read_rows n header rates members (lines_from at (texts member_text ms ++ end_text k))
unfolding read_sheet_rows texts
members_alike [] n header rates members k at h few e = sym (end_alike n header rates members k at (omega arith) few)
members_alike (m ∷ ms) n header rates members k at h few e =
    let rest = texts member_text ms ++ end_text k in
    let f = member_first m at rest h.0 in
    on_pass (member_in_range members m) (stopped Range n) _ _
    (λ t. members_alike ms (suc n) header rates (members ++ (m ∷ [])) k f.next h.1
    (omega (arith, (member_ok members m t).0, length-append members (m ∷ []))) (omega (arith, length-append members (m ∷ []))))
    ∙ sym
    (ap (λ t. read_rows n header rates members (lines_from at t)) (append_assoc (member_text m) (texts member_text ms) (end_text k))
    ∙ ap (read_rows n header rates members) f.lines_are
    ∙ member_step n header rates f.line (lines_from f.next rest) members m f.row_is)

pub rates_alike : (rs : List Rate) (ms : List Member) (n : ℕ) (header : Fund) (rates : List Rate) (at : ℕ) → All ShortRate rs → All ShortMember ms →
    read_sheet_rows n header rates [] (rate_rows rs ++ member_rows ms) ≡ read_rows n header rates [] (lines_from at (texts rate_text rs ++ (texts member_text ms ++ end_text (length ms))))
unfolding read_sheet_rows texts
rates_alike [] ms n header rates at h k = members_alike ms n header rates [] (length ms) at k (omega arith) (omega arith)
rates_alike (r ∷ rs) ms n header rates at h k =
    let after = texts member_text ms ++ end_text (length ms) in
    let f = rate_first r at (texts rate_text rs ++ after) h.0 in
    on_pass (rate_in_range rates r) (stopped Range n) _ _ (λ t. rates_alike rs ms (suc n) header (rates ++ (r ∷ [])) f.next h.1 k)
    ∙ sym
    (ap (λ t. read_rows n header rates [] (lines_from at t)) (append_assoc (rate_text r) (texts rate_text rs) after)
    ∙ ap (read_rows n header rates []) f.lines_are
    ∙ rate_step n header rates f.line (lines_from f.next (texts rate_text rs ++ after)) r f.row_is)

-- ---- the header
pub empty_sheets : sheet_rows [] [] ≡ []
unfolding sheet_rows rows_of row_count table
empty_sheets = refl

-- A header text that is read by itself: its lines are the header lines, and rows are read behind it, of sheets or of a file.
pub record Alone (header : List ℕ) : Type 0 where
  pub fund : Fund
  pub as_many : length (lines header) ≡ length header_lines
  pub sheets : (rates members : List ℕ) → sheet_reading header rates members ≡ read_sheet_rows (suc (length header_lines)) fund [] [] (sheet_rows rates members)
  pub file : (rest : List ℕ) → reading (header ++ rest) ≡ read_rows (suc (length header_lines)) fund [] [] (lines_from (length header) rest)

nothing_left : (n : ℕ) (header : Fund) (ls : List Line) (alone : FundFile) → read_sheets [] n header ls ≡ read alone → ls ≡ []
unfolding read_sheets
nothing_left n header [] alone e = refl
nothing_left n header (l ∷ ls) alone e = absurd (never Form n alone e)

pub header_alone : (header : List ℕ) (alone : FundFile) → sheet_reading header [] [] ≡ read alone → Alone header
unfolding sheet_reading reading lines read_sheets
header_alone header alone e = go (header_outcome header_lines 1 [] (lines header))
  where
    go : Stops header_lines 1 [] (lines header) ⊎ Passes header_lines 1 [] (lines header) → Alone header
    go (inl k) = absurd (never k.why k.place alone (sym (k.stops (read_sheets (sheet_rows [] []))) ∙ e))
    go (inr k) =
        let none_left =
        nothing_left (1 + length header_lines) k.fund k.rest alone
        (ap (λ rows. read_sheets rows (1 + length header_lines) k.fund k.rest) (sym empty_sheets) ∙ sym (passed header_lines 1 [] (lines header) k (read_sheets (sheet_rows [] []))) ∙ e) in
        let front_is : lines_from 0 header ≡ k.front = k.lines_are ∙ ap (λ m. k.front ++ m) none_left ∙ append-nil k.front in
        let one : 1 + length header_lines ≡ suc (length header_lines) = omega arith in
        let zero-at : 0 + length header ≡ length header = omega arith in
        record {
          fund = k.fund;
          as_many = ap length front_is ∙ k.as_many;
          sheets =
              λ rates members.
              passed header_lines 1 [] (lines header) k (read_sheets (sheet_rows rates members))
              ∙ ap (read_sheets (sheet_rows rates members) (1 + length header_lines) k.fund) none_left
              ∙ ap (λ m. read_sheet_rows m k.fund [] [] (sheet_rows rates members)) one;
          file =
              λ rest.
              ap (read_header file_rows header_lines 1 []) (lines_append header rest 0 (subst (λ ls. Ended ls) (sym front_is) k.ended))
              ∙ ap (λ ls. read_header file_rows header_lines 1 [] (ls ++ lines_from (0 + length header) rest)) front_is
              ∙ k.goes_on file_rows (lines_from (0 + length header) rest)
              ∙ ap₂ (λ m at. read_rows m k.fund [] [] (lines_from at rest)) one zero-at;
        }

pub same_reading : (header rates members : List ℕ) (rs : List Rate) (ms : List Member) (alone : FundFile) → sheet_reading header [] [] ≡ read alone →
    sheet_rows rates members ≡ rate_rows rs ++ member_rows ms → sheet_reading header rates members ≡ reading (file_with header rs ms)
unfolding file_with
same_reading header rates members rs ms alone e t =
    let a = header_alone header alone e in
    let s = taken_short rates members rs ms t in
    a.sheets rates members
    ∙ ap (read_sheet_rows (suc (length header_lines)) a.fund [] []) t
    ∙ rates_alike rs ms (suc (length header_lines)) a.fund [] (length header) s.0 s.1
    ∙ sym (a.file (texts rate_text rs ++ (texts member_text ms ++ end_text (length ms))))

-- ---- a refusal in the header
stops_behind : (rows : List (Option SheetRow)) (n : ℕ) (header : Fund) (ls : List Line) (why : Refusal) (place : ℕ) → read_sheets [] n header ls ≡ stopped why place → read_sheets rows n header ls ≡ stopped why place
unfolding read_sheets read_sheet_rows
stops_behind rows n header [] why place e = absurd (never why place (fund_so_far n header [] []) (sym e))
stops_behind rows n header (l ∷ ls) why place e = e

pub header_first : (header : List ℕ) (why : Refusal) (place : ℕ) → sheet_reading header [] [] ≡ stopped why place →
    (rates members : List ℕ) → sheet_reading header rates members ≡ stopped why place
unfolding sheet_reading
header_first header why place e rates members = go (header_outcome header_lines 1 [] (lines header))
  where
    go : Stops header_lines 1 [] (lines header) ⊎ Passes header_lines 1 [] (lines header) → read_header (read_sheets (sheet_rows rates members)) header_lines 1 [] (lines header) ≡ stopped why place
    go (inl k) = k.stops (read_sheets (sheet_rows rates members)) ∙ sym (k.stops (read_sheets (sheet_rows [] []))) ∙ e
    go (inr k) =
        passed header_lines 1 [] (lines header) k (read_sheets (sheet_rows rates members))
        ∙ stops_behind (sheet_rows rates members) (1 + length header_lines) k.fund k.rest why place
        (ap (λ rows. read_sheets rows (1 + length header_lines) k.fund k.rest) (sym empty_sheets) ∙ sym (passed header_lines 1 [] (lines header) k (read_sheets (sheet_rows [] []))) ∙ e)
