-- Reading stops at the 122nd rate row and at the 1,001st member row: the bytes behind them are not read (sheets_first).
use Rattle.std.specs.Prelude.{◌≡◌, ℕ, suc, ◌+◌, ◌*◌, ◌≤◌, ◌<◌, length, take, None, Option}
use Rattle.std.proofs.Math.Path.{refl}
use Rattle.std.proofs.Common.{sym, ◌∙◌, ap, subst, arith, Some}
use mathlib.Core.List.{List, [], ◌∷◌, ◌++◌, map, append_assoc}
use Rattle.std.proofs.Math.ListN.{length-append}
use Rattle.fund.specs.declared.Fund.{Fund}
use Rattle.fund.specs.declared.Rate.{Rate}
use Rattle.fund.specs.declared.Member.{Member}
use Rattle.fund.specs.declared.Refusal.TheVariants.{Range}
use Rattle.fund.specs.declared.SheetRow.{SheetRow}
use Rattle.fund.specs.declared.SheetRow.TheVariants.{Rate as RateRow, Member as MemberRow}
use Rattle.fund.specs.Limits.{most_rates, most_members}
use Rattle.fund.specs.Lines.{Line, lines}
use Rattle.fund.specs.Reading.{stopped, header_lines, rate_in_range, member_in_range, read_header}
use Rattle.fund.specs.SheetCells.{rate_width, member_width}
use Rattle.fund.specs.Sheets.{rows_of, sheet_rows, read_sheet_rows, read_sheets, sheet_reading, rate_row_in, member_row_in}
use Rattle.laws.specs.Accepted.{All, all_front, all_of}
use Rattle.laws.specs.PassedLines.{on_pass}
use Rattle.laws.specs.Ranges.{rate_ok, member_ok}
use Rattle.laws.specs.SheetRows.{SameFirst, same, both, rows_first, map_first}
use Rattle.laws.specs.TakenRows.{NoMember, NoRate, rate_row_lem, member_row_lem}

-- ---- reading
module _ (header : Fund) (x y : List (Option SheetRow)) where
  -- Rate rows that are too many are not passed.
  past_rates : (rows : List (Option SheetRow)) (n : ℕ) (rates : List Rate) → All NoMember rows → length rates ≤ most_rates → most_rates < length rates + length rows →
      read_sheet_rows n header rates [] (rows ++ x) ≡ read_sheet_rows n header rates [] (rows ++ y)
  unfolding read_sheet_rows
  past_rates [] n rates k few many = absurd (omega arith)
  past_rates (None ∷ rows) n rates k few many = refl
  past_rates (Some (MemberRow m) ∷ rows) n rates k few many = absurd k.0
  past_rates (Some (RateRow r) ∷ rows) n rates k few many =
      let more = length-append rates (r ∷ []) in
      on_pass (rate_in_range rates r) (stopped Range n) _ _ (λ t. past_rates rows (suc n) (rates ++ (r ∷ [])) k.1 (omega (arith, (rate_ok rates r t).0)) (omega arith))

  past_members : (rows : List (Option SheetRow)) (n : ℕ) (rates : List Rate) (members : List Member) → All NoRate rows → length members ≤ most_members → most_members < length members + length rows →
      read_sheet_rows n header rates members (rows ++ x) ≡ read_sheet_rows n header rates members (rows ++ y)
  unfolding read_sheet_rows
  past_members [] n rates members k few many = absurd (omega arith)
  past_members (None ∷ rows) n rates members k few many = refl
  past_members (Some (RateRow r) ∷ rows) n rates members k few many = absurd k.0
  past_members (Some (MemberRow m) ∷ rows) n rates members k few many =
      let more = length-append members (m ∷ []) in
      on_pass (member_in_range members m) (stopped Range n) _ _ (λ t. past_members rows (suc n) rates (members ++ (m ∷ [])) k.1 (omega (arith, (member_ok members m t).0)) (omega arith))

  -- Rate rows are read alike before rows that are read alike.
  behind_rates : (rows : List (Option SheetRow)) (n : ℕ) (rates : List Rate) → All NoMember rows → ((k : ℕ) (rs : List Rate) → read_sheet_rows k header rs [] x ≡ read_sheet_rows k header rs [] y) →
      read_sheet_rows n header rates [] (rows ++ x) ≡ read_sheet_rows n header rates [] (rows ++ y)
  unfolding read_sheet_rows
  behind_rates [] n rates k e = e n rates
  behind_rates (None ∷ rows) n rates k e = refl
  behind_rates (Some (MemberRow m) ∷ rows) n rates k e = absurd k.0
  behind_rates (Some (RateRow r) ∷ rows) n rates k e = on_pass (rate_in_range rates r) (stopped Range n) _ _ (λ t. behind_rates rows (suc n) (rates ++ (r ∷ [])) k.1 e)

module _ (n : ℕ) (header : Fund) where
  rates_alike : (xs ys more : List (Option SheetRow)) → All NoMember xs → SameFirst (suc most_rates) xs ys → read_sheet_rows n header [] [] (xs ++ more) ≡ read_sheet_rows n header [] [] (ys ++ more)
  rates_alike xs ys more k (same e) = ap (λ rows. read_sheet_rows n header [] [] (rows ++ more)) e
  rates_alike xs ys more k (both front x y d e h) =
      ap (λ rows. read_sheet_rows n header [] [] (rows ++ more)) d
      ∙ ap (read_sheet_rows n header [] []) (append_assoc front x more)
      ∙ past_rates header (x ++ more) (y ++ more) front n [] (all_front NoMember front x (subst (λ rows. All NoMember rows) d k)) (omega arith) (omega arith)
      ∙ ap (read_sheet_rows n header [] []) (sym (append_assoc front y more))
      ∙ ap (λ rows. read_sheet_rows n header [] [] (rows ++ more)) (sym e)

  members_alike : (xs ys : List (Option SheetRow)) (rates : List Rate) → All NoRate xs → SameFirst (suc most_members) xs ys → read_sheet_rows n header rates [] xs ≡ read_sheet_rows n header rates [] ys
  members_alike xs ys rates k (same e) = ap (read_sheet_rows n header rates []) e
  members_alike xs ys rates k (both front x y d e h) =
      ap (read_sheet_rows n header rates []) d
      ∙ past_members header x y front n rates [] (all_front NoRate front x (subst (λ rows. All NoRate rows) d k)) (omega arith) (omega arith)
      ∙ ap (read_sheet_rows n header rates []) (sym e)

-- The bytes of 122 rate rows and of 1,001 member rows.
abbrev pub most_rate_bytes : ℕ
most_rate_bytes = rate_width * suc most_rates

abbrev pub most_member_bytes : ℕ
most_member_bytes = member_width * suc most_members

module _ (a b : ℕ) (rates members : List ℕ) (many-rates : most_rate_bytes ≤ a) (many-members : most_member_bytes ≤ b) where
  rows_alike : (n : ℕ) (header : Fund) → read_sheet_rows n header [] [] (sheet_rows rates members) ≡ read_sheet_rows n header [] [] (sheet_rows (take a rates) (take b members))
  unfolding sheet_rows
  rows_alike n header =
      rates_alike n header (map rate_row_in (rows_of rate_width rates)) (map rate_row_in (rows_of rate_width (take a rates))) (map member_row_in (rows_of member_width members))
      (all_of NoMember rate_row_in rate_row_lem (rows_of rate_width rates))
      (map_first rate_row_in (suc most_rates) _ _ (rows_first rate_width (omega arith) (suc most_rates) a rates many-rates))
      ∙ behind_rates header (map member_row_in (rows_of member_width members)) (map member_row_in (rows_of member_width (take b members))) (map rate_row_in (rows_of rate_width (take a rates))) n []
      (all_of NoMember rate_row_in rate_row_lem (rows_of rate_width (take a rates)))
      (λ k rs. members_alike k header (map member_row_in (rows_of member_width members)) (map member_row_in (rows_of member_width (take b members))) rs
      (all_of NoRate member_row_in member_row_lem (rows_of member_width members))
      (map_first member_row_in (suc most_members) _ _ (rows_first member_width (omega arith) (suc most_members) b members many-members)))

  sheets_alike : (n : ℕ) (header : Fund) (ls : List Line) → read_sheets (sheet_rows rates members) n header ls ≡ read_sheets (sheet_rows (take a rates) (take b members)) n header ls
  unfolding read_sheets
  sheets_alike n header [] = rows_alike n header
  sheets_alike n header (l ∷ ls) = refl

  pub sheets_first : (header : List ℕ) → sheet_reading header rates members ≡ sheet_reading header (take a rates) (take b members)
  unfolding sheet_reading
  sheets_first header = λ i. read_header (λ n fund ls. sheets_alike n fund ls i) header_lines 1 [] (lines header)
