-- Laws of the rows: each step of the definition `read_rows`, at a line of a file and at the file's end.
use Rattle.std.proofs.Common.{◌≡◌, ℕ, suc, ◌+◌, ◌≤◌, ◌<◌, true, false, List, [], ◌∷◌, ◌++◌, length, refl, ap, ◌∙◌, arith, length-append}
use borrow.Author.Tests.{eq-eqb, ne_eqb}
use lib.ListN.{drop_of_length-le}
use Rattle.fund.specs.declared.Fund.{Fund}
use Rattle.fund.specs.declared.Rate.{Rate}
use Rattle.fund.specs.declared.Member.{Member}
use Rattle.fund.specs.declared.Refusal.TheVariants.{Form, Range}
use Rattle.fund.specs.Lines.{Line as FundLine, lines_from}
use Rattle.fund.specs.Reading.{read, stopped, rate_row, member_row, end_row, other_row, rate_in_range, member_in_range, no_member, at_end, read_rows}
use Rattle.rows.specs.Rows.{line_place}
use Rattle.lines.specs.Lines.{lines_at}
use Rattle.lines.specs.Row.{first_row, RowAt}
use Rattle.lines.proofs.Lines.{line_left}
use Rattle.reader.specs.Rows.{rows_from}

no_member_lem : (ms : List Member) → length ms ≡ 0 → no_member ms ≡ true
unfolding no_member
no_member_lem [] e = refl
no_member_lem (m ∷ ms) e = absurd (omega arith)

some_member : (ms : List Member) → 0 < length ms → no_member ms ≡ false
unfolding no_member
some_member [] h = absurd (omega arith)
some_member (m ∷ ms) h = refl

other : (n : ℕ) (fund : Fund) (rs : List Rate) (ms : List Member) (ls : List FundLine) → first_row ls ≡ other_row → read_rows n fund rs ms ls ≡ stopped Form n
unfolding first_row read_rows
other n fund rs ms [] e = refl
other n fund rs ms (l ∷ ls) e = rw (e, read_rows)

module _ (fund : Fund) (file : List ℕ) (at : ℕ) (rs : List Rate) (ms : List Member) where
  pub rows_other : first_row (lines_at file at) ≡ other_row → rows_from fund file at rs ms ≡ stopped Form (line_place (length rs) (length ms))
  rows_other e = other _ fund rs ms _ e

  module _ (next : ℕ) where
    module _ (r : Rate) (w : RowAt file at (rate_row r) next) where
      pub rows_order : 0 < length ms → rows_from fund file at rs ms ≡ stopped Form (line_place (length rs) (length ms))
      unfolding read_rows
      rows_order h = rw w.first (rw (w.is, read_rows) (rw (some_member ms h, read_rows)))

      module _ (h : length ms ≤ 0) where
        pub rows_rate_out : rate_in_range rs r ≡ false → rows_from fund file at rs ms ≡ stopped Range (line_place (length rs) (length ms))
        unfolding read_rows
        rows_rate_out g = rw w.first (rw (w.is, read_rows) (rw (no_member_lem ms (omega arith), read_rows) (rw (g, read_rows))))

        pub rows_rate : rate_in_range rs r ≡ true → rows_from fund file at rs ms ≡ rows_from fund file next (rs ++ (r ∷ [])) ms
        unfolding read_rows
        rows_rate g =
            let z : suc (line_place (length rs) (length ms)) ≡ line_place (length (rs ++ (r ∷ []))) (length ms) = omega (arith, length-append rs (r ∷ [])) in
            rw w.first (rw (w.is, read_rows) (rw (no_member_lem ms (omega arith), read_rows) (rw (g, read_rows) (ap (λ k. read_rows k fund (rs ++ (r ∷ [])) ms (lines_at file next)) z))))

    module _ (m : Member) (w : RowAt file at (member_row m) next) where
      pub rows_member_out : member_in_range ms m ≡ false → rows_from fund file at rs ms ≡ stopped Range (line_place (length rs) (length ms))
      unfolding read_rows
      rows_member_out g = rw w.first (rw (w.is, read_rows) (rw (g, read_rows)))

      pub rows_member : member_in_range ms m ≡ true → rows_from fund file at rs ms ≡ rows_from fund file next rs (ms ++ (m ∷ []))
      unfolding read_rows
      rows_member g =
          let z : suc (line_place (length rs) (length ms)) ≡ line_place (length rs) (length (ms ++ (m ∷ []))) = omega (arith, length-append ms (m ∷ [])) in
          rw w.first (rw (w.is, read_rows) (rw (g, read_rows) (ap (λ k. read_rows k fund rs (ms ++ (m ∷ [])) (lines_at file next)) z)))

    module _ (k : ℕ) (w : RowAt file at (end_row k) next) where
      pub rows_count : (k ≡ length ms → ⊥) → rows_from fund file at rs ms ≡ stopped Range (line_place (length rs) (length ms))
      unfolding read_rows
      rows_count f = rw w.first (rw (w.is, read_rows) (rw (ne_eqb k (length ms) f, read_rows)))

      module _ (e : k ≡ length ms) where
        ended : rows_from fund file at rs ms ≡ at_end (suc (line_place (length rs) (length ms))) (record { header = fund; rates = rs; members = ms }) (lines_at file next)
        unfolding read_rows
        ended = rw w.first (rw (w.is, read_rows) (rw (eq-eqb k (length ms) e, read_rows)))

        pub rows_more : next < length file → rows_from fund file at rs ms ≡ stopped Form (line_place (length rs) (length ms) + 1)
        unfolding at_end
        rows_more h =
            let z : suc (line_place (length rs) (length ms)) ≡ line_place (length rs) (length ms) + 1 = omega arith in
            ended ∙ rw (line_left file next h).1.1 (ap (stopped Form) z)

        pub rows_end : length file ≤ next → rows_from fund file at rs ms ≡ read (record { header = fund; rates = rs; members = ms })
        unfolding at_end lines_from
        rows_end h = ended ∙ rw (drop_of_length-le file h)
