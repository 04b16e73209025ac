-- The text of a row or of the end, with numbers of at most seven digits, is a line, and that line is read as that row (rate_first, member_first,
-- end_first): the fields of decimal numbers between commas are those numbers.
use Rattle.std.specs.Prelude.{◌≡◌, refl, true, false, List, [], ◌∷◌, ◌++◌, map, ℕ, suc, ◌+◌, ◌≤◌, ◌<◌, eqb, length, Some}
use Rattle.std.proofs.Common.{sym, ◌∙◌, ap, ap₂, append_assoc, arith, leb-true, eq-eqb, ne_eqb}
use Rattle.std.proofs.lemmas.List.{length-map}
use Rattle.fund.specs.declared.Rate.{Rate}
use Rattle.fund.specs.declared.Member.{Member}
use Rattle.fund.specs.Base.{bytes}
use Rattle.fund.specs.Lines.{Line, begun, lines_from}
use Rattle.fund.specs.Spelling.{digits, is_number, value, in_first, fields, all_numbers, numbers, behind, spelled}
use Rattle.fund.specs.Reading.{Row, rate_row, member_row, end_row, row_of}
use Rattle.fund.specs.Listing.{decimal, joined}
use Rattle.fund.specs.Sheets.{rate_text, member_text}
use Rattle.laws.specs.Accepted.{All, all_append}
use Rattle.laws.specs.Ranges.{and-true}
use Rattle.laws.specs.Decimals.{seven_digits, and_both, decimal_spelled}

-- numbers of at most seven digits
abbrev pub Short : List ℕ → Type 0
Short ns = All (λ n. n < seven_digits) ns

abbrev pub ShortRate : Rate → Type 0
ShortRate r = Short (r.age ∷ r.q ∷ r.i ∷ [])

abbrev pub ShortMember : Member → Type 0
ShortMember m = Short (m.age ∷ m.group ∷ m.d ∷ m.e ∷ m.lives ∷ [])

-- numbers in decimal between commas, without a line feed
abbrev commas : ℕ → List ℕ → List ℕ
commas n [] = decimal n
commas n (m ∷ ms) = decimal n ++ (44 ∷ commas m ms)

joined_is : (n : ℕ) (ms : List ℕ) → joined (decimal n) (map decimal ms) ≡ commas n ms ++ (10 ∷ [])
unfolding joined
joined_is n [] = refl
joined_is n (m ∷ ms) = ap (λ t. decimal n ++ (44 ∷ t)) (joined_is m ms) ∙ sym (append_assoc (decimal n) (44 ∷ commas m ms) (10 ∷ []))

-- ---- digits
number_digits : (t : List ℕ) → is_number t ≡ true → digits t ≡ true
unfolding is_number digits
number_digits [] e = refl
number_digits (b ∷ t) e = (and-true _ _ (and-true _ _ e).0).0

digit_first : (b : ℕ) (t : List ℕ) → digits (b ∷ t) ≡ true → (48 ≤ b) × (digits t ≡ true)
unfolding digits
digit_first b t e = let h = and-true _ _ e in (leb-true 48 b (and-true _ _ h.0).0, h.1)

decimal_digits : (n : ℕ) → n < seven_digits → digits (decimal n) ≡ true
decimal_digits n h = number_digits (decimal n) (decimal_spelled n h).is_number_lem

-- ---- the fields of a text
fields_digits : (t : List ℕ) → digits t ≡ true → fields t ≡ t ∷ []
unfolding fields in_first
fields_digits [] e = refl
fields_digits (b ∷ t) e = let h = digit_first b t e in rw (ne_eqb b 44 (λ z. omega (arith, h.0)), fields_digits t h.1)

fields_comma : (t rest : List ℕ) → digits t ≡ true → fields (t ++ (44 ∷ rest)) ≡ t ∷ fields rest
unfolding fields in_first
fields_comma [] rest e = refl
fields_comma (b ∷ t) rest e = let h = digit_first b t e in rw (ne_eqb b 44 (λ z. omega (arith, h.0)), fields_comma t rest h.1)

fields_are : (n : ℕ) (ms : List ℕ) → Short (n ∷ ms) → fields (commas n ms) ≡ map decimal (n ∷ ms)
fields_are n [] h = fields_digits (decimal n) (decimal_digits n h.0)
fields_are n (m ∷ ms) h = fields_comma (decimal n) (commas m ms) (decimal_digits n h.0) ∙ ap (λ ts. decimal n ∷ ts) (fields_are m ms h.1)

all_numbers_lem : (ns : List ℕ) → Short ns → all_numbers (map decimal ns) ≡ true
unfolding all_numbers
all_numbers_lem [] h = refl
all_numbers_lem (n ∷ ns) h = and_both _ _ (decimal_spelled n h.0).is_number_lem (all_numbers_lem ns h.1)

all_values : (ns : List ℕ) → Short ns → map value (map decimal ns) ≡ ns
all_values [] h = refl
all_values (n ∷ ns) h = ap₂ (λ m ms. m ∷ ms) (decimal_spelled n h.0).value_is (all_values ns h.1)

numbers_are : (n : ℕ) (ms : List ℕ) → Short (n ∷ ms) → numbers (suc (length ms)) (commas n ms) ≡ Some (n ∷ ms)
unfolding numbers
numbers_are n ms h =
    rw (fields_are n ms h)
    (rw (eq-eqb (length (map decimal (n ∷ ms))) (suc (length ms)) (length-map (n ∷ ms) decimal), all_numbers_lem (n ∷ ms) h) (ap (λ ns. Some ns) (all_values (n ∷ ms) h)))

behind_key : (key text : List ℕ) → behind key (key ++ text) ≡ Some text
unfolding behind
behind_key [] text = refl
behind_key (k ∷ key) text = rw (eq-eqb k k refl) (behind_key key text)

-- ---- the line of a text
abbrev line_of : List ℕ → ℕ → List ℕ → ℕ → Line
line_of key n ms at = record { start = at; text = key ++ commas n ms; ended = true }

spelled_is : (key : List ℕ) (n : ℕ) (ms : List ℕ) (at : ℕ) → Short (n ∷ ms) → spelled key (suc (length ms)) (line_of key n ms at) ≡ Some (n ∷ ms)
unfolding spelled
spelled_is key n ms at h = rw (behind_key key (commas n ms), spelled) (numbers_are n ms h)

-- no line feed
abbrev NoFeed : List ℕ → Type 0
NoFeed t = All (λ b. eqb b 10 ≡ false) t

no_feed_digits : (t : List ℕ) → digits t ≡ true → NoFeed t
no_feed_digits [] e = tt
no_feed_digits (b ∷ t) e = let h = digit_first b t e in (ne_eqb b 10 (λ z. omega (arith, h.0)), no_feed_digits t h.1)

no_feed_commas : (n : ℕ) (ms : List ℕ) → Short (n ∷ ms) → NoFeed (commas n ms)
no_feed_commas n [] h = no_feed_digits (decimal n) (decimal_digits n h.0)
no_feed_commas n (m ∷ ms) h = all_append (λ b. eqb b 10 ≡ false) (decimal n) (44 ∷ commas m ms) (no_feed_digits (decimal n) (decimal_digits n h.0)) (refl, no_feed_commas m ms h.1)

line_first : (t rest : List ℕ) (at : ℕ) → NoFeed t → lines_from at (t ++ (10 ∷ rest)) ≡ record { start = at; text = t; ended = true } ∷ lines_from (at + suc (length t)) rest
unfolding lines_from begun
line_first [] rest at h = let e : suc at ≡ at + 1 = omega arith in ap (λ k. record { start = at; text = []; ended = true } ∷ lines_from k rest) e
line_first (b ∷ t) rest at h =
    let e : suc at + suc (length t) ≡ at + suc (suc (length t)) = omega arith in
    rw (h.0, line_first t rest (suc at) h.1) (ap (λ k. record { start = at; text = b ∷ t; ended = true } ∷ lines_from k rest) e)

text_first : (key : List ℕ) (n : ℕ) (ms rest : List ℕ) (at : ℕ) → NoFeed key → Short (n ∷ ms) →
    lines_from at ((key ++ joined (decimal n) (map decimal ms)) ++ rest) ≡ line_of key n ms at ∷ lines_from (at + suc (length (key ++ commas n ms))) rest
text_first key n ms rest at k h =
    let e : (key ++ (commas n ms ++ (10 ∷ []))) ++ rest ≡ (key ++ commas n ms) ++ (10 ∷ rest) = simp append_assoc in
    ap (λ t. lines_from at ((key ++ t) ++ rest)) (joined_is n ms)
    ∙ ap (lines_from at) e
    ∙ line_first (key ++ commas n ms) rest at (all_append (λ b. eqb b 10 ≡ false) key (commas n ms) k (no_feed_commas n ms h))

-- ---- rows
-- The text's line comes first, it is read as the row, and the lines of the rest follow it.
pub record First (at : ℕ) (text rest : List ℕ) (row : Row) : Type 0 where
  pub line : Line
  pub next : ℕ
  pub lines_are : lines_from at (text ++ rest) ≡ line ∷ lines_from next rest
  pub row_is : row_of line ≡ row

pub rate_first : (r : Rate) (at : ℕ) (rest : List ℕ) → ShortRate r → First at (rate_text r) rest (rate_row r)
unfolding row_of rate_text bytes
rate_first r at rest h =
    record {
      line = line_of (bytes "rate=") r.age (r.q ∷ r.i ∷ []) at;
      next = _;
      lines_are = text_first (bytes "rate=") r.age (r.q ∷ r.i ∷ []) rest at (refl, (refl, (refl, (refl, (refl, tt))))) h;
      row_is = rw (spelled_is (bytes "rate=") r.age (r.q ∷ r.i ∷ []) at h, row_of);
    }

pub member_first : (m : Member) (at : ℕ) (rest : List ℕ) → ShortMember m → First at (member_text m) rest (member_row m)
unfolding row_of spelled behind member_text bytes
member_first m at rest h =
    record {
      line = line_of (bytes "member=") m.age (m.group ∷ m.d ∷ m.e ∷ m.lives ∷ []) at;
      next = _;
      lines_are = text_first (bytes "member=") m.age (m.group ∷ m.d ∷ m.e ∷ m.lives ∷ []) rest at (refl, (refl, (refl, (refl, (refl, (refl, (refl, tt))))))) h;
      row_is = rw (spelled_is (bytes "member=") m.age (m.group ∷ m.d ∷ m.e ∷ m.lives ∷ []) at h, row_of);
    }

abbrev pub end_text : ℕ → List ℕ
end_text k = bytes "end=" ++ joined (decimal k) []

pub end_first : (k : ℕ) (at : ℕ) (rest : List ℕ) → k < seven_digits → First at (end_text k) rest (end_row k)
unfolding row_of spelled behind bytes
end_first k at rest h =
    record {
      line = line_of (bytes "end=") k [] at;
      next = _;
      lines_are = text_first (bytes "end=") k [] rest at (refl, (refl, (refl, (refl, tt)))) (h, tt);
      row_is = rw (spelled_is (bytes "end=") k [] at (h, tt), row_of);
    }
