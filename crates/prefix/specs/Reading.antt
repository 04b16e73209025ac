-- Reading gives the same for the lines of the first n bytes as for all lines, where n is above the bytes of the lines that
-- reading can pass (header_same); so of a file (file_behind) and of a header text (sheets_behind).
use Rattle.std.specs.Prelude.{◌≡◌, Bool, true, false, ℕ, suc, ◌+◌, ◌*◌, ◌≤◌, ◌<◌, eqb, leb, ltb, length, None, Option, Some}
use Rattle.std.proofs.Math.Path.{refl, sym}
use Rattle.std.proofs.Common.{◌∙◌, arith, ltb-true, leb-true, leb-false, length-append}
use mathlib.Core.List.{List, [], ◌∷◌, ◌++◌}
use Rattle.fund.specs.declared.Fund.{Fund}
use Rattle.fund.specs.declared.Rate.{Rate}
use Rattle.fund.specs.declared.Member.{Member}
use Rattle.fund.specs.declared.Refusal.TheVariants.{Form, Range}
use Rattle.fund.specs.declared.SheetRow.{SheetRow}
use Rattle.fund.specs.Limits.{most_rates, most_members}
use Rattle.fund.specs.Base.{bytes}
use Rattle.fund.specs.Lines.{Line}
use Rattle.fund.specs.Spelling.{spelled}
use Rattle.fund.specs.Reading.{FundFile, Reading, stopped, in_ranges, HeaderLine, header_of, Row, rate_row, member_row, end_row, other_row, row_of, rate_in_range, member_in_range, no_member, at_end, read_rows, read_header, file_rows}
use Rattle.fund.specs.Sheets.{read_sheets}
use Rattle.laws.specs.Accepted.{All}
use Rattle.laws.specs.PassedLines.{on_pass}
use Rattle.prefix.specs.Lines.{Cut, over, spent, same, inside}
use Rattle.prefix.specs.Spelling.{most_line, Unspelled, open_line, long_line}

-- by the length of a line
by_length : {A : Type 0} (l : Line) → (length l.text < most_line → A) → (Unspelled l → A) → A
by_length {A} l short long = go (leb most_line (length l.text)) refl
  where
    go : (t : Bool) → leb most_line (length l.text) ≡ t → A
    go true e = long (long_line l (leb-true _ _ e))
    go false e = short (leb-false _ _ e)

-- ---- the end
end_same : (k : ℕ) (file : FundFile) {n : ℕ} {xs ys : List Line} → Cut n xs ys → 0 < n → at_end k file xs ≡ at_end k file ys
unfolding at_end
end_same k file over h = refl
end_same k file (spent e) h = absurd (omega arith)
end_same k file (same l g c) h = refl
end_same k file (inside e g) h = refl

-- ---- the rows
other_row_lem : (l : Line) → Unspelled l → row_of l ≡ other_row
unfolding row_of bytes
other_row_lem l u =
    rw (u (bytes "rate=") 3 (omega arith), row_of) (rw (u (bytes "member=") 5 (omega arith), row_of) (rw (u (bytes "end=") 1 (omega arith), row_of)))

rows_stop : (k : ℕ) (header : Fund) (rates : List Rate) (members : List Member) (l : Line) (ls : List Line) → Unspelled l → read_rows k header rates members (l ∷ ls) ≡ stopped Form k
unfolding read_rows
rows_stop k header rates members l ls u = rw (other_row_lem l u, read_rows)

-- bytes for so many lines, for the `end=` line, and one more
abbrev pub bytes_for : ℕ → ℕ
bytes_for count = most_line * count + suc most_line

-- n bytes are enough for what can follow these rows
record RoomLeft (n : ℕ) (rates : List Rate) (members : List Member) : Type 0 where
  few_rates : length rates ≤ most_rates
  few_members : length members ≤ most_members
  enough : bytes_for (most_rates + most_members) ≤ n + most_line * (length rates + length members)

below : (a b : ℕ) → (ltb a b ≡ false → ⊥) → a < b
below a b h = go (ltb a b) refl
  where
    go : (t : Bool) → ltb a b ≡ t → a < b
    go true e = ltb-true a b e
    go false e = absurd (h e)

false_true : false ≡ true → ⊥
false_true e = let z : ◌≡◌ {A = ℕ} 0 1 = cc in omega arith

more_rates : (n m : ℕ) (rates : List Rate) (members : List Member) (r : Rate) → RoomLeft n rates members → rate_in_range rates r ≡ true → n ≤ m + most_line → RoomLeft m (rates ++ (r ∷ [])) members
unfolding rate_in_range
more_rates n m rates members r k e h =
    let few = below (length rates) most_rates (λ s. false_true (rw (s, rate_in_range) at e)) in
    let more = length-append rates (r ∷ []) in
    record { few_rates = omega arith; few_members = k.few_members; enough = omega arith }

more_members : (n m : ℕ) (rates : List Rate) (members : List Member) (x : Member) → RoomLeft n rates members → member_in_range members x ≡ true → n ≤ m + most_line → RoomLeft m rates (members ++ (x ∷ []))
unfolding member_in_range
more_members n m rates members x k e h =
    let few = below (length members) most_members (λ s. false_true (rw (s, member_in_range) at e)) in
    let more = length-append members (x ∷ []) in
    record { few_rates = k.few_rates; few_members = omega arith; enough = omega arith }

rows_same : (k : ℕ) (header : Fund) (rates : List Rate) (members : List Member) {n : ℕ} {xs ys : List Line} → Cut n xs ys → RoomLeft n rates members → read_rows k header rates members xs ≡ read_rows k header rates members ys
unfolding read_rows
rows_same k header rates members over room = refl
rows_same k header rates members (spent e) room = absurd (omega arith)
rows_same k header rates members (inside {n} {x} {y} {ys} e h) room =
    rows_stop k header rates members x [] (open_line x e) ∙ sym (rows_stop k header rates members y ys (long_line y (omega arith)))
rows_same k header rates members (same {n} {m} {xs} {ys} l h c) room =
    by_length l (λ short. go (row_of l) refl (omega arith) (λ rs ms. rows_same (suc k) header rs ms c))
    (λ u. rows_stop k header rates members l xs u ∙ sym (rows_stop k header rates members l ys u))
  where
    go : (row : Row) → row_of l ≡ row → n ≤ m + most_line → ((rs : List Rate) (ms : List Member) → RoomLeft m rs ms → read_rows (suc k) header rs ms xs ≡ read_rows (suc k) header rs ms ys)
        → read_rows k header rates members (l ∷ xs) ≡ read_rows k header rates members (l ∷ ys)
    go (rate_row r) s g ih =
        rw (s, read_rows)
        (on_pass (no_member members) (stopped Form k) _ _ (λ _.
        on_pass (rate_in_range rates r) (stopped Range k) _ _ (λ t. ih (rates ++ (r ∷ [])) members (more_rates n m rates members r room t g))))
    go (member_row x) s g ih =
        rw (s, read_rows) (on_pass (member_in_range members x) (stopped Range k) _ _ (λ t. ih rates (members ++ (x ∷ [])) (more_members n m rates members x room t g)))
    go (end_row count) s g ih =
        rw (s, read_rows) (on_pass (eqb count (length members)) (stopped Range k) _ _ (λ _. end_same (suc k) _ c (omega arith)))
    go other_row s g ih = rw (s, read_rows)

-- ---- the header
abbrev pub KeysShort : List HeaderLine → Type 0
KeysShort hs = All (λ (h : HeaderLine). length h.key + 8 * length h.ranges ≤ most_line) hs

-- What follows the header is the same for lines that are cut behind enough bytes.
module _ (after : ℕ → Fund → List Line → Reading) (enough : ℕ) (behind : (k : ℕ) (header : Fund) (n : ℕ) (xs ys : List Line) → Cut n xs ys → enough ≤ n → after k header xs ≡ after k header ys) where
  header_stop : (h : HeaderLine) (hs : List HeaderLine) (k : ℕ) (ns : List ℕ) (l : Line) (ls : List Line) → length h.key + 8 * length h.ranges ≤ most_line → Unspelled l → read_header after (h ∷ hs) k ns (l ∷ ls) ≡ stopped Form k
  unfolding read_header
  header_stop h hs k ns l ls short u = rw (u h.key (length h.ranges) short, read_header)

  pub header_same : (hs : List HeaderLine) (k : ℕ) (ns : List ℕ) {n : ℕ} {xs ys : List Line} → KeysShort hs → Cut n xs ys → most_line * length hs + enough ≤ n → most_line < enough →
      read_header after hs k ns xs ≡ read_header after hs k ns ys
  unfolding read_header
  header_same [] k ns {n} {xs} {ys} keys c room more = behind k (header_of ns) n xs ys c (omega arith)
  header_same (h ∷ hs) k ns keys over room more = refl
  header_same (h ∷ hs) k ns keys (spent e) room more = absurd (omega arith)
  header_same (h ∷ hs) k ns keys (inside {n} {x} {y} {ys} e g) room more =
      header_stop h hs k ns x [] keys.0 (open_line x e) ∙ sym (header_stop h hs k ns y ys keys.0 (long_line y (omega arith)))
  header_same (h ∷ hs) k ns keys (same {n} {m} {xs} {ys} l g c) room more =
      by_length l (λ short. go (spelled h.key (length h.ranges) l) refl (λ vs. header_same hs (suc k) vs keys.1 c (omega arith) more))
      (λ u. header_stop h hs k ns l xs keys.0 u ∙ sym (header_stop h hs k ns l ys keys.0 u))
    where
      go : (o : Option (List ℕ)) → spelled h.key (length h.ranges) l ≡ o → ((vs : List ℕ) → read_header after hs (suc k) vs xs ≡ read_header after hs (suc k) vs ys) → read_header after (h ∷ hs) k ns (l ∷ xs) ≡ read_header after (h ∷ hs) k ns (l ∷ ys)
      go None s ih = rw (s, read_header)
      go (Some v) s ih = rw (s, read_header) (on_pass (in_ranges h.ranges v) (stopped Range k) _ _ (λ _. ih (ns ++ v)))

-- ---- what follows the header: the rows of a file, or nothing more of a header text
pub file_behind : (k : ℕ) (header : Fund) (n : ℕ) (xs ys : List Line) → Cut n xs ys → bytes_for (most_rates + most_members) ≤ n → file_rows k header xs ≡ file_rows k header ys
file_behind k header n xs ys c room = rows_same k header [] [] c (record { few_rates = omega arith; few_members = omega arith; enough = omega arith })

pub sheets_behind : (rows : List (Option SheetRow)) (k : ℕ) (header : Fund) (n : ℕ) (xs ys : List Line) → Cut n xs ys → suc most_line ≤ n → read_sheets rows k header xs ≡ read_sheets rows k header ys
unfolding read_sheets
sheets_behind rows k header n xs ys over room = refl
sheets_behind rows k header n xs ys (spent e) room = absurd (omega arith)
sheets_behind rows k header n xs ys (same l g c) room = refl
sheets_behind rows k header n xs ys (inside e g) room = refl
