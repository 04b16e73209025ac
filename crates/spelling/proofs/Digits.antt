-- Laws of digits: their value place by place, and each way to be no number.
use Rattle.std.proofs.Common.{◌≡◌, ℕ, ◌+◌, ◌-◌, ◌*◌, ◌^◌, ◌≤◌, ◌<◌, Bool, true, false, ◌&&◌, ◌||◌, not, List, [], ◌∷◌, Option, Some, None, length, get_or, drop, refl, arith, eqb, ltb, leb, if◌then◌else◌}
use borrow.Author.Tests.{eq-eqb, ne_eqb, eqb-true, le-leb, lt-leb, leb-true, lt-ltb, le-ltb}
use mathlib.Core.Bool.{and-false}
use native.Mathlib.Nat.{pow-suc, pow-le-pow_right, mul-le-mul_right, lt_of_lt_of_le}
use native.Mathlib.Numerals.{add-one}
use lib.ListN.{drop_of_length-le}
use lib.Seq.{drop-cons}
use Prim.Native.Nat.{suc}
use Rattle.std.specs.Char.{is_ascii_digit}
use Rattle.fund.specs.Spelling.{digits, is_number, value_from, value}
use Rattle.spelling.specs.Text.{value_in, number_in, level_in, is_level}

-- The digits from a place on, behind a number that was read.
unfoldable pub read_on : ℕ → List ℕ → Option ℕ
read_on n s = if digits s && ltb (value_from n s) (2 ^ 64) then Some (value_from n s) else None

pub value_in_lem : (s : List ℕ) → value_in s ≡ read_on 0 s
unfolding value_in read_on value
value_in_lem s = refl

pub read_next : (n : ℕ) (s : List ℕ) (i : ℕ) → i < length s → is_ascii_digit (get_or s i 0) ≡ true → {m : ℕ} → m ≡ n * 10 + (get_or s i 0 - 48) → read_on n (drop i s) ≡ read_on m (drop (i + 1) s)
unfolding read_on digits value_from
read_next n s i h e f = let z : 10 * n ≡ n * 10 = omega arith in rw (f, add-one i, drop-cons s i 0 h, e, value_from, z)

pub read_none : (n : ℕ) (s : List ℕ) (i : ℕ) → i < length s → is_ascii_digit (get_or s i 0) ≡ false → read_on n (drop i s) ≡ None
unfolding read_on digits
read_none n s i h e = rw (drop-cons s i 0 h, e)

pub read_end : (n : ℕ) (s : List ℕ) (i : ℕ) → n < 2 ^ 64 → length s ≤ i → read_on n (drop i s) ≡ Some n
unfolding read_on digits value_from
read_end n s i f h = rw (drop_of_length-le s h, lt-ltb n (2 ^ 64) f)

-- A value never falls behind what was read, so one that does not fit is none.
pub value_least : (n : ℕ) (s : List ℕ) → n ≤ value_from n s
unfolding value_from
value_least n [] = omega arith
value_least n (b ∷ s) = omega (arith, value_least (10 * n + (b - 48)) s)

pub read_wide : (n : ℕ) (s : List ℕ) → 2 ^ 64 ≤ n → read_on n s ≡ None
unfolding read_on
read_wide n s h = rw (le-ltb (value_from n s) (2 ^ 64) (omega (arith, value_least n s)), and-false (digits s))

-- ---- which digits are a number
both_true : (a b : Bool) → (a && b) ≡ true → (a ≡ true) × (b ≡ true)
both_true true true e = (refl, refl)
both_true true false e = cc
both_true false b e = cc

digits_first : (b : ℕ) (s : List ℕ) → digits (b ∷ s) ≡ true → (b ≤ 57) × (digits s ≡ true)
unfolding digits
digits_first b s e = (leb-true b 57 (both_true _ _ (both_true _ _ e).0).1, (both_true _ _ e).1)

below_next : (n b p : ℕ) → b ≤ 57 → (10 * n + (b - 48) + 1) * p ≤ (n + 1) * (p * 10)
below_next n b p h = omega (arith, mul-le-mul_right p (below n b h))
  where
    below : (n b : ℕ) → b ≤ 57 → 10 * n + (b - 48) + 1 ≤ (n + 1) * 10
    below n b h = omega arith

value_below : (n : ℕ) (s : List ℕ) → digits s ≡ true → value_from n s < (n + 1) * 10 ^ length s
unfolding value_from
value_below n [] e = omega arith
value_below n (b ∷ s) e =
    let d = digits_first b s e in
    let w = value_below (10 * n + (b - 48)) s d.1 in
    rw (pow-suc 10 (length s)) (lt_of_lt_of_le w (omega (arith, below_next n b (10 ^ length s) d.0)))

value_fits : (s : List ℕ) → length s ≤ 7 → digits s ≡ true → value s < 2 ^ 64
unfolding value
value_fits s h e = omega (arith, value_below 0 s e, pow-le-pow_right {n = 10} (omega arith) {i = length s} {j = 7} h)

pub number_empty : (s : List ℕ) → length s ≡ 0 → number_in s ≡ None
unfolding number_in is_number
number_empty [] e = refl
number_empty (b ∷ s) e = absurd (omega arith)

pub number_leading : (s : List ℕ) → get_or s 0 0 ≡ 48 → 1 < length s → number_in s ≡ None
unfolding number_in is_number
number_leading [] e h = absurd (omega arith)
number_leading (b ∷ s) e h = rw (eq-eqb b 48 e, ne_eqb (length s) 0 (λ w. omega arith), and-false (digits (b ∷ s) && leb (suc (length s)) 7))

pub number_long : (s : List ℕ) → 7 < length s → number_in s ≡ None
unfolding number_in is_number
number_long [] h = absurd (omega arith)
number_long (b ∷ s) h = rw (lt-leb (suc (length s)) 7 h, and-false (digits (b ∷ s)))

pub number_few : (s : List ℕ) → 0 < length s → length s ≤ 7 → (get_or s 0 0 ≡ 48 → length s ≡ 1) → value_in s ≡ number_in s
unfolding number_in is_number value_in
number_few [] h f z = absurd (omega arith)
number_few (b ∷ s) h f z = go (digits (b ∷ s)) refl
  where
    elim_first : (t : Bool) → eqb b 48 ≡ t → (not t || eqb (length s) 0) ≡ true
    elim_first true e = eq-eqb (length s) 0 (omega (arith, z (eqb-true b 48 e)))
    elim_first false e = refl

    first : (not (eqb b 48) || eqb (length s) 0) ≡ true
    first = elim_first (eqb b 48) refl

    go : (t : Bool) → digits (b ∷ s) ≡ t → value_in (b ∷ s) ≡ number_in (b ∷ s)
    go true e = rw (e, lt-ltb (value (b ∷ s)) (2 ^ 64) (value_fits (b ∷ s) f e), le-leb (suc (length s)) 7 f, first)
    go false e = rw e

-- ---- which are a level
pub level_empty : (s : List ℕ) → length s ≡ 0 → level_in s ≡ None
unfolding level_in is_level
level_empty s e = rw (le-ltb 0 (length s) (omega arith))

pub level_some : (s : List ℕ) → 0 < length s → value_in s ≡ level_in s
unfolding level_in is_level value_in
level_some s h = rw (lt-ltb 0 (length s) h)
