-- A line that is spelled right has at most its key's bytes and eight for each number. So a line is not spelled right where it is
-- too long (long_line), or where it lacks its line feed (open_line).
use Rattle.std.specs.Prelude.{◌≡◌, Bool, true, false, ◌&&◌, ℕ, suc, ◌+◌, ◌*◌, ◌≤◌, ◌<◌, eqb, leb, length, if◌then◌else◌, None, Option, Some}
use Rattle.std.proofs.Math.Path.{refl}
use mathlib.Core.List.{List, [], ◌∷◌, map}
use Rattle.std.proofs.Common.{arith, leb-true, eqb-true}
use Rattle.fund.specs.Base.{total}
use Rattle.fund.specs.Lines.{Line}
use Rattle.fund.specs.Spelling.{digits, is_number, value, in_first, fields, all_numbers, numbers, behind, spelled}
use Rattle.laws.specs.Ranges.{and-true}

-- the bytes of fields, each with the comma or the line feed behind it
abbrev width : List (List ℕ) → ℕ
width ts = total (λ (t : List ℕ). suc (length t)) ts

in_first_width : (b : ℕ) (ts : List (List ℕ)) → suc (width ts) ≤ width (in_first b ts)
unfolding in_first total
in_first_width b [] = omega arith
in_first_width b (t ∷ ts) = omega arith

fields_width : (text : List ℕ) → suc (length text) ≤ width (fields text)
unfolding fields total
fields_width [] = omega arith
fields_width (b ∷ text) = go (eqb b 44) (fields_width text)
  where
    go : (t : Bool) → suc (length text) ≤ width (fields text) → suc (suc (length text)) ≤ width (if t then [] ∷ fields text else in_first b (fields text))
    go true h = omega arith
    go false h = omega (arith, in_first_width b (fields text))

is_number_short : (text : List ℕ) → is_number text ≡ true → length text ≤ 7
unfolding is_number
is_number_short [] e = omega arith
is_number_short (b ∷ text) e =
    let h2 = and-true (digits (b ∷ text) && leb (length (b ∷ text)) 7) _ e in
    let h1 = and-true (digits (b ∷ text)) (leb (length (b ∷ text)) 7) h2.0 in
    leb-true (length (b ∷ text)) 7 h1.1

numbers_width : (ts : List (List ℕ)) → all_numbers ts ≡ true → width ts ≤ 8 * length ts
unfolding all_numbers total
numbers_width [] e = omega arith
numbers_width (t ∷ ts) e =
    let h = and-true (is_number t) (all_numbers ts) e in
    omega (arith, is_number_short t h.0, numbers_width ts h.1)

numbers_short : (count : ℕ) (text ns : List ℕ) → numbers count text ≡ Some ns → length text < 8 * count
unfolding numbers
numbers_short count text ns e = go (eqb (length (fields text)) count) refl (all_numbers (fields text)) refl e
  where
    go
        : (b : Bool)
        → eqb (length (fields text)) count ≡ b
        → (c : Bool)
        → all_numbers (fields text) ≡ c
        → (if b && c then Some (map value (fields text)) else None) ≡ Some ns
        → length text < 8 * count
    go true s true h w = omega (arith, eqb-true (length (fields text)) count s, fields_width text, numbers_width (fields text) h)
    go true s false h w = let z : ◌≡◌ {A = ℕ} 0 1 = cc in absurd (omega arith)
    go false s c h w = let z : ◌≡◌ {A = ℕ} 0 1 = cc in absurd (omega arith)

behind_length : (key text rest : List ℕ) → behind key text ≡ Some rest → length text ≤ length key + length rest
unfolding behind
behind_length [] text rest e = let z : text ≡ rest = cc in rw z (omega arith)
behind_length (k ∷ key) [] rest e = omega arith
behind_length (k ∷ key) (b ∷ text) rest e = go (eqb k b) e (behind_length key text rest)
  where
    go : (t : Bool) → (if t then behind key text else None) ≡ Some rest → (behind key text ≡ Some rest → length text ≤ length key + length rest) → suc (length text) ≤ suc (length key) + length rest
    go true w ih = omega (arith, ih w)
    go false w ih = let z : ◌≡◌ {A = ℕ} 0 1 = cc in absurd (omega arith)

module _ (key : List ℕ) (count : ℕ) (l : Line) where
  spelled_open : l.ended ≡ false → spelled key count l ≡ None
  unfolding spelled
  spelled_open e = rw e

  spelled_long : length key + 8 * count ≤ length l.text → spelled key count l ≡ None
  unfolding spelled
  spelled_long long = go l.ended
    where
      numbers_long : (text : List ℕ) → behind key l.text ≡ Some text → (o : Option (List ℕ)) → numbers count text ≡ o → o ≡ None
      numbers_long text s None e = refl
      numbers_long text s (Some ns) e = absurd (omega (arith, behind_length key l.text text s, numbers_short count text ns e))

      behind_long : (o : Option (List ℕ)) → behind key l.text ≡ o → ◌≡◌ {A = Option (List ℕ)} (elim o [ None ↦ None | Some text ↦ numbers count text ]) None
      behind_long None s = refl
      behind_long (Some text) s = numbers_long text s (numbers count text) refl

      go : (b : Bool) → ◌≡◌ {A = Option (List ℕ)} (elim b [ true ↦ elim (behind key l.text) [ None ↦ None | Some text ↦ numbers count text ] | false ↦ None ]) None
      go true = behind_long (behind key l.text) refl
      go false = refl

-- The longest line is `member=` with five numbers of seven digits, and its line feed.
abbrev pub most_line : ℕ
most_line = 47

-- A line that is spelled right for no key and no count of a fund file.
abbrev pub Unspelled : Line → Type 0
Unspelled l = (key : List ℕ) (count : ℕ) → length key + 8 * count ≤ most_line → spelled key count l ≡ None

pub open_line : (l : Line) → l.ended ≡ false → Unspelled l
open_line l e key count h = spelled_open key count l e

pub long_line : (l : Line) → most_line ≤ length l.text → Unspelled l
long_line l long key count h = spelled_long key count l (omega arith)
