-- Laws of the rows of sheets: each step of the definition `read_sheet_rows`, at the next row and where none is left.
use Rattle.std.proofs.Common.{◌≡◌, ℕ, suc, ◌+◌, true, false, List, [], ◌∷◌, ◌++◌, map, Option, Some, None, min, length, refl, sym, ap, ◌∙◌, arith, length-append}
use Prim.Native.Nat.{◌<◌}
use Rattle.std.specs.Prelude.{option_map}
use Rattle.fund.specs.declared.Fund.{Fund}
use Rattle.fund.specs.declared.Rate.{Rate}
use Rattle.fund.specs.declared.Member.{Member}
use Rattle.fund.specs.declared.Refusal.TheVariants.{Range, Cell as CellRefusal}
use Rattle.fund.specs.declared.SheetRow.{SheetRow}
use Rattle.fund.specs.declared.SheetRow.TheVariants.{Rate as RateRow, Member as MemberRow}
use Rattle.fund.specs.Reading.{read, stopped, rate_in_range, member_in_range}
use Rattle.fund.specs.SheetCells.{rate_width, member_width, rate_row_of, member_row_of}
use Rattle.fund.specs.Sheets.{rows_of, rate_row_in, member_row_in, sheet_rows, read_sheet_rows}
use Rattle.rows.specs.Rows.{line_place}
use Rattle.sheet_reader.specs.Rows.{rows_from}
use Rattle.sheet_reader.proofs.Chunks.{rows_none, rows_next}

-- The rows that are left in a sheet of rates and in one of members.
abbrev pub rates_left : List ℕ → List ℕ → List (Option SheetRow)
rates_left rates members = map rate_row_in (rows_of rate_width rates) ++ map member_row_in (rows_of member_width members)

abbrev pub members_left : List ℕ → List (Option SheetRow)
members_left members = map member_row_in (rows_of member_width members)

pub all_left : (rates members : List ℕ) → sheet_rows rates members ≡ rates_left rates members
unfolding sheet_rows
all_left rates members = refl

module _ (fund : Fund) (rs : List Rate) (ms : List Member) where
  not_taken : (left : List (Option SheetRow)) → rows_from fund rs ms (None ∷ left) ≡ stopped CellRefusal (length rs + length ms + 1)
  unfolding read_sheet_rows
  not_taken left = let z : suc (length rs + length ms) ≡ length rs + length ms + 1 = omega arith in ap (stopped CellRefusal) z

  rate_out : (r : Rate) (left : List (Option SheetRow)) → rate_in_range rs r ≡ false → rows_from fund rs ms (Some (RateRow r) ∷ left) ≡ stopped Range (line_place (length rs) (length ms))
  unfolding read_sheet_rows
  rate_out r left e = rw (e, read_sheet_rows)

  rate_next : (r : Rate) (left : List (Option SheetRow)) → rate_in_range rs r ≡ true → rows_from fund rs ms (Some (RateRow r) ∷ left) ≡ rows_from fund (rs ++ (r ∷ [])) ms left
  unfolding read_sheet_rows
  rate_next r left e =
      let z : suc (line_place (length rs) (length ms)) ≡ line_place (length (rs ++ (r ∷ []))) (length ms) = omega (arith, length-append rs (r ∷ [])) in
      rw (e, read_sheet_rows) (ap (λ n. read_sheet_rows n fund (rs ++ (r ∷ [])) ms left) z)

  member_out : (m : Member) (left : List (Option SheetRow)) → member_in_range ms m ≡ false → rows_from fund rs ms (Some (MemberRow m) ∷ left) ≡ stopped Range (line_place (length rs) (length ms))
  unfolding read_sheet_rows
  member_out m left e = rw (e, read_sheet_rows)

  member_next : (m : Member) (left : List (Option SheetRow)) → member_in_range ms m ≡ true → rows_from fund rs ms (Some (MemberRow m) ∷ left) ≡ rows_from fund rs (ms ++ (m ∷ [])) left
  unfolding read_sheet_rows
  member_next m left e =
      let z : suc (line_place (length rs) (length ms)) ≡ line_place (length rs) (length (ms ++ (m ∷ []))) = omega (arith, length-append ms (m ∷ [])) in
      rw (e, read_sheet_rows) (ap (λ n. read_sheet_rows n fund rs (ms ++ (m ∷ [])) left) z)

  pub rows_end : (members : List ℕ) → length members ≡ 0 → rows_from fund rs ms (members_left members) ≡ read (record { header = fund; rates = rs; members = ms })
  unfolding read_sheet_rows
  rows_end members e = rw (rows_none member_width (omega arith) members e)

  pub rates_end : (rates members : List ℕ) → length rates ≡ 0 → rows_from fund rs ms (rates_left rates members) ≡ rows_from fund rs ms (members_left members)
  rates_end rates members e = rw (rows_none rate_width (omega arith) rates e)

  -- The next row of the rates' sheet.
  module _ (rates row rest members : List ℕ) (cut : rates ≡ row ++ rest) (size : length row ≡ min rate_width (length rates)) (left : 0 < length rates) where
    next_rate : rates_left rates members ≡ rate_row_in row ∷ rates_left rest members
    next_rate = ap (λ (rows : List (List ℕ)). map rate_row_in rows ++ members_left members) (rows_next rate_width (omega arith) rates row rest cut size left)

    pub rate_not_taken : None ≡ rate_row_of row → rows_from fund rs ms (rates_left rates members) ≡ stopped CellRefusal (length rs + length ms + 1)
    unfolding rate_row_in
    rate_not_taken e = ap (rows_from fund rs ms) (next_rate ∙ ap (λ o. option_map RateRow o ∷ rates_left rest members) (sym e)) ∙ not_taken _

    module _ (r : Rate) (e : Some r ≡ rate_row_of row) where
      that : rates_left rates members ≡ Some (RateRow r) ∷ rates_left rest members
      unfolding rate_row_in
      that = next_rate ∙ ap (λ o. option_map RateRow o ∷ rates_left rest members) (sym e)

      pub rate_refused : rate_in_range rs r ≡ false → rows_from fund rs ms (rates_left rates members) ≡ stopped Range (line_place (length rs) (length ms))
      rate_refused f = ap (rows_from fund rs ms) that ∙ rate_out r _ f

      pub rate_added : rate_in_range rs r ≡ true → rows_from fund rs ms (rates_left rates members) ≡ rows_from fund (rs ++ (r ∷ [])) ms (rates_left rest members)
      rate_added f = ap (rows_from fund rs ms) that ∙ rate_next r _ f

  -- The next row of the members' sheet.
  module _ (members row rest : List ℕ) (cut : members ≡ row ++ rest) (size : length row ≡ min member_width (length members)) (left : 0 < length members) where
    next_member : members_left members ≡ member_row_in row ∷ members_left rest
    next_member = ap (map member_row_in) (rows_next member_width (omega arith) members row rest cut size left)

    pub member_not_taken : None ≡ member_row_of row → rows_from fund rs ms (members_left members) ≡ stopped CellRefusal (length rs + length ms + 1)
    unfolding member_row_in
    member_not_taken e = ap (rows_from fund rs ms) (next_member ∙ ap (λ o. option_map MemberRow o ∷ members_left rest) (sym e)) ∙ not_taken _

    module _ (m : Member) (e : Some m ≡ member_row_of row) where
      this : members_left members ≡ Some (MemberRow m) ∷ members_left rest
      unfolding member_row_in
      this = next_member ∙ ap (λ o. option_map MemberRow o ∷ members_left rest) (sym e)

      pub member_refused : member_in_range ms m ≡ false → rows_from fund rs ms (members_left members) ≡ stopped Range (line_place (length rs) (length ms))
      member_refused f = ap (rows_from fund rs ms) this ∙ member_out m _ f

      pub member_added : member_in_range ms m ≡ true → rows_from fund rs ms (members_left members) ≡ rows_from fund rs (ms ++ (m ∷ [])) (members_left rest)
      member_added f = ap (rows_from fund rs ms) this ∙ member_next m _ f
