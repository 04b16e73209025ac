-- Reading asks for the texts of the lines and not for the places where they start (reading_texts). A file without one of its lines has the
-- other lines' texts (texts_without), those behind it one place earlier (text_behind).
use Rattle.std.specs.Prelude.{◌≡◌, refl, Bool, true, false, List, [], ◌∷◌, ◌++◌, map, ℕ, zero, suc, ◌≤◌, eqb, length, get_or, if◌then◌else◌, None, Option, Some}
use Rattle.std.proofs.Common.{sym, ◌∙◌, ap, arith}
use Rattle.fund.specs.declared.Fund.{Fund}
use Rattle.fund.specs.declared.Rate.{Rate}
use Rattle.fund.specs.declared.Member.{Member}
use Rattle.fund.specs.declared.Refusal.TheVariants.{Form, Range}
use Rattle.fund.specs.Lines.{Line, begun, lines_from, lines}
use Rattle.fund.specs.Spelling.{spelled}
use Rattle.fund.specs.Reading.{FundFile, stopped, in_ranges, HeaderLine, header_lines, header_of, Row, rate_row, member_row, end_row, other_row, row_of, rate_in_range, member_in_range, no_member, at_end, read_rows, read_header, reading, file_rows}
use Rattle.laws.specs.PassedLines.{on_pass}

-- a line that starts nowhere
abbrev bare : Line → Line
bare l = record { start = 0; text = l.text; ended = l.ended }

unfoldable pub texts : List ℕ → List Line
texts [] = []
texts (b ∷ bs) = if eqb b 10 then record { start = 0; text = []; ended = true } ∷ texts bs else begun 0 b (texts bs)

begun_bare : (at b : ℕ) (ls : List Line) → map bare (begun at b ls) ≡ begun 0 b (map bare ls)
unfolding begun
begun_bare at b [] = refl
begun_bare at b (l ∷ ls) = refl

texts_are : (at : ℕ) (bs : List ℕ) → map bare (lines_from at bs) ≡ texts bs
unfolding lines_from texts
texts_are at [] = refl
texts_are at (b ∷ bs) = go (eqb b 10) (texts_are (suc at) bs)
  where
    go : (t : Bool) → map bare (lines_from (suc at) bs) ≡ texts bs →
        map bare (if t then record { start = at; text = []; ended = true } ∷ lines_from (suc at) bs else begun at b (lines_from (suc at) bs)) ≡ (if t then record { start = 0; text = []; ended = true } ∷ texts bs else begun 0 b (texts bs))
    go true e = ap (λ ls. record { start = 0; text = []; ended = true } ∷ ls) e
    go false e = begun_bare at b (lines_from (suc at) bs) ∙ ap (begun 0 b) e

-- ---- reading
row_bare : (l : Line) → row_of (bare l) ≡ row_of l
unfolding row_of spelled
row_bare l = refl

spelled_bare : (key : List ℕ) (count : ℕ) (l : Line) → spelled key count (bare l) ≡ spelled key count l
unfolding spelled
spelled_bare key count l = refl

end_bare : (n : ℕ) (file : FundFile) (ls : List Line) → at_end n file (map bare ls) ≡ at_end n file ls
unfolding at_end
end_bare n file [] = refl
end_bare n file (l ∷ ls) = refl

rows_bare : (ls : List Line) (n : ℕ) (header : Fund) (rates : List Rate) (members : List Member) → read_rows n header rates members (map bare ls) ≡ read_rows n header rates members ls
unfolding read_rows
rows_bare [] n header rates members = refl
rows_bare (l ∷ ls) n header rates members = go (row_of l) refl (λ rs ms. rows_bare ls (suc n) header rs ms)
  where
    go : (row : Row) → row_of l ≡ row → ((rs : List Rate) (ms : List Member) → read_rows (suc n) header rs ms (map bare ls) ≡ read_rows (suc n) header rs ms ls) →
        read_rows n header rates members (bare l ∷ map bare ls) ≡ read_rows n header rates members (l ∷ ls)
    go (rate_row r) s ih =
        rw (row_bare l ∙ s, s, read_rows)
        (on_pass (no_member members) (stopped Form n) _ _ (λ _. on_pass (rate_in_range rates r) (stopped Range n) _ _ (λ _. ih (rates ++ (r ∷ [])) members)))
    go (member_row m) s ih =
        rw (row_bare l ∙ s, s, read_rows) (on_pass (member_in_range members m) (stopped Range n) _ _ (λ _. ih rates (members ++ (m ∷ []))))
    go (end_row k) s ih =
        rw (row_bare l ∙ s, s, read_rows) (on_pass (eqb k (length members)) (stopped Range n) _ _ (λ _. end_bare (suc n) (record { header = header; rates = rates; members = members }) ls))
    go other_row s ih = rw (row_bare l ∙ s, s, read_rows)

header_bare : (hs : List HeaderLine) (n : ℕ) (ns : List ℕ) (ls : List Line) → read_header file_rows hs n ns (map bare ls) ≡ read_header file_rows hs n ns ls
unfolding read_header
header_bare [] n ns ls = rows_bare ls n (header_of ns) [] []
header_bare (h ∷ hs) n ns [] = refl
header_bare (h ∷ hs) n ns (l ∷ ls) = go (spelled h.key (length h.ranges) l) refl (λ vs. header_bare hs (suc n) vs ls)
  where
    go : (o : Option (List ℕ)) → spelled h.key (length h.ranges) l ≡ o → ((vs : List ℕ) → read_header file_rows hs (suc n) vs (map bare ls) ≡ read_header file_rows hs (suc n) vs ls) →
        read_header file_rows (h ∷ hs) n ns (bare l ∷ map bare ls) ≡ read_header file_rows (h ∷ hs) n ns (l ∷ ls)
    go None s ih = rw (spelled_bare h.key (length h.ranges) l ∙ s, s, read_header)
    go (Some v) s ih = rw (spelled_bare h.key (length h.ranges) l ∙ s, s, read_header) (on_pass (in_ranges h.ranges v) (stopped Range n) _ _ (λ _. ih (ns ++ v)))

pub reading_texts : (file : List ℕ) → reading file ≡ read_header file_rows header_lines 1 [] (texts file)
unfolding reading lines
reading_texts file = sym (header_bare header_lines 1 [] (lines_from 0 file)) ∙ ap (read_header file_rows header_lines 1 []) (texts_are 0 file)

-- ---- a file without a line
-- What follows the first line feed.
unfoldable pub behind_line : List ℕ → List ℕ
behind_line [] = []
behind_line (b ∷ bs) = if eqb b 10 then bs else behind_line bs

-- The bytes without those of the line of a place, counted from 0, and its line feed.
unfoldable pub without_line : ℕ → List ℕ → List ℕ
without_line zero bs = behind_line bs
without_line (suc k) [] = []
without_line (suc k) (b ∷ bs) = b ∷ (if eqb b 10 then without_line k bs else without_line (suc k) bs)

abbrev pub drop_at : {A : Type 0} → ℕ → List A → List A
drop_at k [] = []
drop_at zero (a ∷ l) = l
drop_at (suc k) (a ∷ l) = a ∷ drop_at k l

begun_first : (b : ℕ) (ls : List Line) → drop_at 0 (begun 0 b ls) ≡ drop_at 0 ls
unfolding begun
begun_first b [] = refl
begun_first b (l ∷ ls) = refl

begun_later : (k b : ℕ) (ls : List Line) → begun 0 b (drop_at (suc k) ls) ≡ drop_at (suc k) (begun 0 b ls)
unfolding begun
begun_later k b [] = refl
begun_later k b (l ∷ ls) = refl

texts_behind : (bs : List ℕ) → texts (behind_line bs) ≡ drop_at 0 (texts bs)
unfolding texts behind_line
texts_behind [] = refl
texts_behind (b ∷ bs) = go (eqb b 10) (texts_behind bs)
  where
    go : (t : Bool) → texts (behind_line bs) ≡ drop_at 0 (texts bs) →
        texts (if t then bs else behind_line bs) ≡ drop_at 0 (if t then record { start = 0; text = []; ended = true } ∷ texts bs else begun 0 b (texts bs))
    go true e = refl
    go false e = e ∙ sym (begun_first b (texts bs))

pub texts_without : (k : ℕ) (bs : List ℕ) → texts (without_line k bs) ≡ drop_at k (texts bs)
unfolding texts without_line
texts_without zero bs = texts_behind bs
texts_without (suc k) [] = refl
texts_without (suc k) (b ∷ bs) = go (eqb b 10) (texts_without k bs) (texts_without (suc k) bs)
  where
    go : (t : Bool) → texts (without_line k bs) ≡ drop_at k (texts bs) → texts (without_line (suc k) bs) ≡ drop_at (suc k) (texts bs) →
        (if t then record { start = 0; text = []; ended = true } ∷ texts (if t then without_line k bs else without_line (suc k) bs) else begun 0 b (texts (if t then without_line k bs else without_line (suc k) bs)))
        ≡ drop_at (suc k) (if t then record { start = 0; text = []; ended = true } ∷ texts bs else begun 0 b (texts bs))
    go true e f = ap (λ ls. record { start = 0; text = []; ended = true } ∷ ls) e
    go false e f = ap (begun 0 b) f ∙ begun_later k b (texts bs)

-- ---- the lines behind a line that is left out
-- The text of the line of a place, counted from 0.
abbrev pub text_at : List ℕ → ℕ → List ℕ
text_at file p = get_or (map (λ (l : Line). l.text) (lines file)) p []

texts_only : (ls : List Line) → map (λ (l : Line). l.text) (map bare ls) ≡ map (λ (l : Line). l.text) ls
texts_only [] = refl
texts_only (l ∷ ls) = ap (λ ts. l.text ∷ ts) (texts_only ls)

text_at_lem : (file : List ℕ) (p : ℕ) → text_at file p ≡ get_or (map (λ (l : Line). l.text) (texts file)) p []
unfolding lines
text_at_lem file p =
    ap (λ ts. get_or ts p []) (sym (texts_only (lines_from 0 file)))
    ∙ ap (λ ls. get_or (map (λ (l : Line). l.text) ls) p []) (texts_are 0 file)

drop_behind : (k p : ℕ) (ls : List Line) → k ≤ p → get_or (map (λ (l : Line). l.text) (drop_at k ls)) p [] ≡ get_or (map (λ (l : Line). l.text) ls) (suc p) []
drop_behind k p [] h = refl
drop_behind zero p (l ∷ ls) h = refl
drop_behind (suc k) zero (l ∷ ls) h = absurd (omega arith)
drop_behind (suc k) (suc p) (l ∷ ls) h = drop_behind k p ls (omega arith)

pub text_behind : (k p : ℕ) (file : List ℕ) → k ≤ p → text_at (without_line k file) p ≡ text_at file (suc p)
text_behind k p file h =
    text_at_lem (without_line k file) p
    ∙ ap (λ ls. get_or (map (λ (l : Line). l.text) ls) p []) (texts_without k file)
    ∙ drop_behind k p (texts file) h
    ∙ sym (text_at_lem file (suc p))
