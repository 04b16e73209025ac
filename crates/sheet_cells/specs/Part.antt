-- The one whole number up to 2 ^ 53 that the float of a pattern can equal (`OnlyWhole`), by the exponent's field: 0 below 1023, 2 ^ 53 above 1075,
-- and between them the digits without the 1075 - field lowest. The sign plays no part: what has one equals no whole number but 0.
use Rattle.std.specs.Prelude.{◌≡◌, refl, Bool, true, false, cond, ℕ, zero, suc, ◌+◌, ◌-◌, ◌*◌, ◌/◌, ◌%◌, ◌^◌, ◌≤◌, ◌<◌, T, eqb, leb, Float}
use Rattle.std.proofs.Common.{sym, ap, ◌∙◌, subst, le_trans, le_antisymm, lt_irrefl, lt_of_lt_of_le, zero-lt-suc, mul-one, one-mul, mul_assoc, mul-le-mul_left, mul-le-mul_right, le_of_mul-le-mul_right, mul-div_cancel, mod-lt, le-add_right, arith, lit≤, pow-add, pow_pos, pow_mono, shl_lt}
use Rattle.std.proofs.Math.Nat.{eq_of_mul-eq-mul_right}
use Rattle.std.specs.Float.{nan, inf, fin, Format, binary64}
use Rattle.std.specs.Float.Ieee.{prec, low, hid, ones, odd, of_fields, of_bits, eq}
use Rattle.std.specs.Float.Ieee.Exact.{HasValue, odd_sign}
use Rattle.fund.specs.SheetCells.{of_whole}
use Rattle.sheet_cells.specs.Values.{Is, eq→is, is_one}
use Rattle.sheet_cells.specs.Quotient.{whole_value}
use Rattle.sheet_cells.specs.Patterns.{scaled}

-- x equals no whole number up to 2 ^ 53 but r
abbrev pub OnlyWhole : Float → ℕ → Type 0
OnlyWhole x r = (n : ℕ) → n ≤ 2 ^ 53 → T (eq x (of_whole n)) → n ≡ r

-- ---- what is a / c in size and is n
same_size : (y : Float) (s : Bool) (a c n : ℕ) → HasValue y s a c → Is y n 1 → a ≡ n * c
same_size nan s a c n h i = absurd h
same_size (inf r) s a c n h i = absurd h
same_size (fin r m e) s a c n h i = sym (mul-one a) ∙ is_one (fin r m e) a c n 1 (i.0, h.1) i

fields_size : (f : Format) (s : Bool) (x t n : ℕ) → Is (of_fields f s x t) n 1 → scaled (hid f) x t ≡ n * 2 ^ low f
unfolding of_fields
fields_size f s zero t n i = sym (mul-one t) ∙ same_size (odd (prec f) s t 0 (low f)) s (t * 2 ^ 0) (2 ^ low f) n (odd_sign (prec f) s t 0 (low f)) i
fields_size f s (suc x) t n i = go (eqb (suc x) (ones f)) (eqb t 0) i
  where
    go : (p q : Bool) → Is (cond p (cond q (inf s) nan) (odd (prec f) s (hid f + t) x (low f))) n 1 → (hid f + t) * 2 ^ x ≡ n * 2 ^ low f
    go true true i = absurd i
    go true false i = absurd i
    go false q i = same_size (odd (prec f) s (hid f + t) x (low f)) s ((hid f + t) * 2 ^ x) (2 ^ low f) n (odd_sign (prec f) s (hid f + t) x (low f)) i

bits_size : (b n : ℕ) → n ≤ 2 ^ 53 → T (eq (of_bits binary64 b) (of_whole n)) → scaled (2 ^ 52) (b % 2 ^ 63 / 2 ^ 52) (b % 2 ^ 52) ≡ n * 2 ^ 1074
unfolding of_bits
bits_size b n h t =
    fields_size binary64 (leb (2 ^ 63) b) (b % 2 ^ 63 / 2 ^ 52) (b % 2 ^ 52) n (eq→is (of_bits binary64 b) (of_whole n) n 1 (whole_value n h) t)

-- ---- below 1
with_lead : (t : ℕ) → t < 2 ^ 52 → 2 ^ 52 + t < 2 ^ 53
with_lead t h = omega arith

below_one : (x t : ℕ) → t < 2 ^ 52 → x < 1023 → scaled (2 ^ 52) x t < 2 ^ 1074
below_one zero t T h = lt_of_lt_of_le T (pow_mono {i = 52} {j = 1074} (lit≤ tt))
below_one (suc x) t T h = lt_of_lt_of_le (shl_lt 53 x (with_lead t T)) (pow_mono {i = 53 + x} {j = 1074} (omega arith))

none_of : (a n L : ℕ) → a < L → a ≡ n * L → n ≡ 0
none_of a zero L h e = refl
none_of a (suc n) L h e = absurd (lt_irrefl a (lt_of_lt_of_le h (subst (λ (z : ℕ). z ≤ a) (one-mul L) (subst (λ (z : ℕ). 1 * L ≤ z) (sym e) (mul-le-mul_right L (zero-lt-suc n))))))

pub part_none : (b : ℕ) → b % 2 ^ 63 / 2 ^ 52 < 1023 → OnlyWhole (of_bits binary64 b) 0
part_none b h n N t = none_of (scaled (2 ^ 52) (b % 2 ^ 63 / 2 ^ 52) (b % 2 ^ 52)) n (2 ^ 1074) (below_one (b % 2 ^ 63 / 2 ^ 52) (b % 2 ^ 52) (mod-lt b (pow_pos 52)) h) (bits_size b n N t)

-- ---- from 1 on and below 2 ^ 53
shifted : (x t n : ℕ) → 1023 ≤ x → x ≤ 1075 → scaled (2 ^ 52) x t ≡ n * 2 ^ 1074 → n ≡ (2 ^ 52 + t) / 2 ^ (1075 - x)
shifted zero t n h k e = absurd (omega arith)
shifted (suc x) t n h k e =
    let split : 1074 ≡ 1075 - suc x + x = omega arith in
    let d = 1075 - suc x in
    let same : 2 ^ 52 + t ≡ n * 2 ^ d = eq_of_mul-eq-mul_right (2 ^ x) (pow_pos x) (2 ^ 52 + t) (n * 2 ^ d)
    (e ∙ ap (λ (z : ℕ). n * z) (ap (λ (z : ℕ). 2 ^ z) split ∙ pow-add 2 d x) ∙ sym (mul_assoc n (2 ^ d) (2 ^ x))) in
    sym (ap (λ (z : ℕ). z / 2 ^ d) same ∙ mul-div_cancel n (pow_pos d))

pub part_some : (b : ℕ) → 1023 ≤ b % 2 ^ 63 / 2 ^ 52 → b % 2 ^ 63 / 2 ^ 52 ≤ 1075 → OnlyWhole (of_bits binary64 b) ((2 ^ 52 + b % 2 ^ 52) / 2 ^ (1075 - b % 2 ^ 63 / 2 ^ 52))
part_some b h k n N t = shifted (b % 2 ^ 63 / 2 ^ 52) (b % 2 ^ 52) n h k (bits_size b n N t)

-- ---- from 2 ^ 53 on
beyond : (x t n : ℕ) → 1075 < x → scaled (2 ^ 52) x t ≡ n * 2 ^ 1074 → 2 ^ 53 ≤ n
beyond zero t n h e = absurd (omega arith)
beyond (suc x) t n h e =
    let l : 1075 ≤ x = omega arith in
    le_of_mul-le-mul_right (subst (λ (z : ℕ). 2 ^ 53 * 2 ^ 1074 ≤ z) e
    (le_trans (subst (λ (z : ℕ). z ≤ 2 ^ 52 * 2 ^ x) (sym (pow-add 2 52 1075) ∙ pow-add 2 53 1074) (mul-le-mul_left (2 ^ 52) (pow_mono l)))
    (mul-le-mul_right (2 ^ x) (le-add_right (2 ^ 52) t)))) (pow_pos 1074)

pub part_most : (b : ℕ) → 1075 < b % 2 ^ 63 / 2 ^ 52 → OnlyWhole (of_bits binary64 b) (2 ^ 53)
part_most b h n N t = le_antisymm N (beyond (b % 2 ^ 63 / 2 ^ 52) (b % 2 ^ 52) n h (bits_size b n N t))
