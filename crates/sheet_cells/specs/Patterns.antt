-- What is taken, by a cell's 64 bits: a blank is any NaN (`blank_bits`, `number_bits`); the patterns beside a rate's are no rate's (`above_rate`,
-- `below_rate`); what has a sign, a subnormal and an infinity are never taken (`negative_bits`, `subnormal_bits`, `infinity_bits`); both zeros are 0.
-- The idea: a pattern without a sign is `units` of 2 ^ -1074, and from a pattern to the next these grow by `ulp` of its exponent's field.
use Rattle.std.specs.Prelude.{◌≡◌, refl, ◌⊎◌, Bool, true, false, not, cond, ℕ, zero, suc, ◌+◌, ◌-◌, ◌*◌, ◌/◌, ◌%◌, ◌^◌, ◌≤◌, ◌<◌, T, eqb, leb, ltb, Float, None, Some}
use Rattle.std.proofs.Common.{sym, ap, ◌∙◌, subst, inl, inr, zero-le, le_trans, lt_irrefl, lt_of_lt_of_le, lt_of_not-le, zero-lt-suc, zero-add, zero-mul, mul-one, one-mul, pow-suc, add-mul, mul_assoc, mul_comm, mul-pos, mul-le-mul_left, mul-le-mul_right, mod-eq_of_lt, eq-or-lt_of_le, le-add_right, le_of_lt, arith, lit≤, lit<, eqb→eq, leb→le, ltb→lt, lt→ltb, le→leb, pow-add, pow_pos, pow_mono}
use Rattle.std.proofs.Math.Nat.{eq_of_mul-eq-mul_right}
use Rattle.std.proofs.Math.Dec.{not_T}
use Rattle.std.proofs.Math.Pow.{pow-lt}
use Rattle.std.specs.Float.{nan, inf, fin, Format, binary64}
use Rattle.std.specs.Float.Ieee.{prec, low, hid, ones, top, up, size, odd, of_fields, of_bits, is_nan, of_int, div, eq}
use Rattle.std.specs.Float.Ieee.Bits.{is_true, is_false, cond_no, nan_bits_is, nan_bits_above}
use Rattle.std.specs.Float.Ieee.Fits.{down_pos}
use Rattle.std.specs.Float.Ieee.Exact.{HasValue, odd_sign}
use Rattle.fund.specs.Limits.{most_rate}
use Rattle.fund.specs.SheetCells.{cell_of, quotient, of_whole, whole_of, rate_of}
use Rattle.sheet_cells.specs.Values.{Is, has→is, eq→is, is_one}
use Rattle.sheet_cells.specs.Quotient.{whole_value}
use Rattle.sheet_cells.specs.Taken.{NeverTaken, never_taken, infinite, rate_at, whole_at, whole_none, rate_value, rate_units, rate_most, rate_near}

-- ---- blanks
pub blank_of : (x : Float) → (T (is_nan x) → cell_of x ≡ None) × (T (not (is_nan x)) → cell_of x ≡ Some x)
unfolding cell_of is_nan
blank_of nan = ((λ t. refl), (λ t. absurd t))
blank_of (inf s) = ((λ t. absurd t), (λ t. refl))
blank_of (fin s m p) = ((λ t. absurd t), (λ t. refl))

-- "a blank is any NaN": a pattern above the infinity's, whatever its sign and payload
pub blank_bits : (b : ℕ) → 0x7ff0000000000000 < b % 2 ^ 63 → cell_of (of_bits binary64 b) ≡ None
blank_bits b h =
    let x = of_bits binary64 b in
    (blank_of x).0 (subst T (sym (nan_bits_above binary64 b) ∙ nan_bits_is binary64 b) (lt→ltb 0x7ff0000000000000 (b % 2 ^ 63) h))

-- and every other pattern is a number
pub number_bits : (b : ℕ) → b % 2 ^ 63 ≤ 0x7ff0000000000000 → cell_of (of_bits binary64 b) ≡ Some (of_bits binary64 b)
number_bits b h =
    let x = of_bits binary64 b in
    (blank_of x).1 (subst (λ (t : Bool). T (not t)) (sym (nan_bits_above binary64 b) ∙ nan_bits_is binary64 b)
    (not_T (ltb 0x7ff0000000000000 (b % 2 ^ 63)) (λ t. clash (b % 2 ^ 63) h (ltb→lt 0x7ff0000000000000 (b % 2 ^ 63) t))))
  where
    clash : (r : ℕ) → r ≤ 0x7ff0000000000000 → 0x7ff0000000000000 < r → ⊥
    clash r h k = omega arith

-- ---- the value of a pattern
abbrev pub scaled : ℕ → ℕ → ℕ → ℕ
scaled h zero t = t
scaled h (suc x) t = (h + t) * 2 ^ x

fields_value : (f : Format) (s : Bool) (x t : ℕ) → x < ones f → HasValue (of_fields f s x t) s (scaled (hid f) x t) (2 ^ low f)
unfolding of_fields
fields_value f s zero t h = subst (λ (a : ℕ). HasValue (odd (prec f) s t 0 (low f)) s a (2 ^ low f)) (mul-one t) (odd_sign (prec f) s t 0 (low f))
fields_value f s (suc x) t h =
    subst (λ (y : Float). HasValue y s ((hid f + t) * 2 ^ x) (2 ^ low f))
    (sym (cond_no (eqb (suc x) (ones f)) (cond (eqb t 0) (inf s) nan) (odd (prec f) s (hid f + t) x (low f))
    (not_T (eqb (suc x) (ones f)) (λ e. lt_irrefl (ones f) (subst (λ (z : ℕ). z < ones f) (eqb→eq (suc x) (ones f) e) h)))))
    (odd_sign (prec f) s (hid f + t) x (low f))

unfoldable pub units : ℕ → ℕ
units p = scaled (2 ^ 52) (p / 2 ^ 52) (p % 2 ^ 52)

bits_fields : (f : Format) (p : ℕ) → p < top f → of_bits f p ≡ of_fields f false (p / hid f) (p % hid f)
unfolding of_bits
bits_fields f p h =
    ap (λ (s : Bool). of_fields f s (p % top f / hid f) (p % hid f)) (is_false (leb (top f) p) (not_T (leb (top f) p) (λ t. lt_irrefl p (lt_of_lt_of_le h (leb→le (top f) p t)))))
    ∙ ap (λ (z : ℕ). of_fields f false (z / hid f) (p % hid f)) (mod-eq_of_lt h)

field_small : (p : ℕ) → p < 0x7ff0000000000000 → p / 2 ^ 52 < 2047
field_small p h = omega arith

-- a pattern below the infinity's is `units` of the smallest value
pub bits_value : (p : ℕ) → p < 0x7ff0000000000000 → HasValue (of_bits binary64 p) false (units p) (2 ^ 1074)
unfolding units
bits_value p h =
    subst (λ (y : Float). HasValue y false (scaled (2 ^ 52) (p / 2 ^ 52) (p % 2 ^ 52)) (2 ^ 1074)) (sym (bits_fields binary64 p (le_trans h (lit≤ tt))))
    (fields_value binary64 false (p / 2 ^ 52) (p % 2 ^ 52) (field_small p h))

-- ---- neighbours
same_field : (p : ℕ) → suc (p % 2 ^ 52) < 2 ^ 52 → (suc p / 2 ^ 52 ≡ p / 2 ^ 52) × (suc p % 2 ^ 52 ≡ suc (p % 2 ^ 52))
same_field p h = (omega arith, omega arith)

next_field : (p : ℕ) → 2 ^ 52 ≤ suc (p % 2 ^ 52) → (suc p / 2 ^ 52 ≡ suc (p / 2 ^ 52)) × (suc p % 2 ^ 52 ≡ 0) × (suc (p % 2 ^ 52) ≡ 2 ^ 52)
next_field p h = (omega arith, omega arith, omega arith)

-- from a pattern to the next, by its exponent's field
abbrev pub ulp : ℕ → ℕ
ulp zero = 1
ulp (suc x) = 2 ^ x

scaled_next : (h x t : ℕ) → scaled h x (suc t) ≡ scaled h x t + ulp x
scaled_next h zero t = omega arith
scaled_next h (suc x) t =
    let e : h + suc t ≡ h + t + 1 = omega arith in
    ap (λ (z : ℕ). z * 2 ^ x) e ∙ add-mul (h + t) 1 (2 ^ x) ∙ ap (λ (z : ℕ). (h + t) * 2 ^ x + z) (one-mul (2 ^ x))

scaled_carry : (h x t : ℕ) → suc t ≡ h → scaled h (suc x) 0 ≡ scaled h x t + ulp x
scaled_carry h zero t e = let z : (h + 0) * 1 ≡ h + 0 = mul-one (h + 0) in omega arith
scaled_carry h (suc x) t e =
    let w : (h + 0) * 2 ≡ h + t + 1 = omega arith in
    ap (λ (z : ℕ). (h + 0) * z) (pow-suc 2 x ∙ mul_comm (2 ^ x) 2) ∙ sym (mul_assoc (h + 0) 2 (2 ^ x)) ∙ ap (λ (z : ℕ). z * 2 ^ x) w
    ∙ add-mul (h + t) 1 (2 ^ x) ∙ ap (λ (z : ℕ). (h + t) * 2 ^ x + z) (one-mul (2 ^ x))

-- the fraction is not yet full, or it is
pub full_or_not : (a b : ℕ) → (a < b) ⊎ (b ≤ a)
full_or_not a b = let z : 0 ≤ b - a = zero-le in elim (eq-or-lt_of_le z) [ inl e ↦ inr (omega arith) | inr h ↦ inl (omega arith) ]

pub units_next : (p : ℕ) → units (suc p) ≡ units p + ulp (p / 2 ^ 52)
unfolding units
units_next p = elim (full_or_not (suc (p % 2 ^ 52)) (2 ^ 52)) [ inl l ↦ one (same_field p l) | inr g ↦ carry (next_field p g) ]
  where
    one : (suc p / 2 ^ 52 ≡ p / 2 ^ 52) × (suc p % 2 ^ 52 ≡ suc (p % 2 ^ 52)) → units (suc p) ≡ units p + ulp (p / 2 ^ 52)
    one e =
        ap (λ (x : ℕ). scaled (2 ^ 52) x (suc p % 2 ^ 52)) e.0 ∙ ap (scaled (2 ^ 52) (p / 2 ^ 52)) e.1
        ∙ scaled_next (2 ^ 52) (p / 2 ^ 52) (p % 2 ^ 52)

    carry : (suc p / 2 ^ 52 ≡ suc (p / 2 ^ 52)) × (suc p % 2 ^ 52 ≡ 0) × (suc (p % 2 ^ 52) ≡ 2 ^ 52) → units (suc p) ≡ units p + ulp (p / 2 ^ 52)
    carry e =
        ap (λ (x : ℕ). scaled (2 ^ 52) x (suc p % 2 ^ 52)) e.0 ∙ ap (scaled (2 ^ 52) (suc (p / 2 ^ 52))) e.1
        ∙ scaled_carry (2 ^ 52) (p / 2 ^ 52) (p % 2 ^ 52) e.2

field_low : (h x t : ℕ) → h ≡ 2 ^ 52 → scaled h x t ≤ 2 ^ 1074 → x ≤ 1023
field_low h zero t e l = zero-le
field_low h (suc x) t e l = lt_of_not-le (λ (g : 1023 ≤ x). lt_irrefl (2 ^ 1074) (lt_of_lt_of_le (pow-lt {i = 1074} {j = 1075} (lit< tt)) (le_trans (subst (λ (z : ℕ). z ≤ 2 ^ 52 * 2 ^ x) (sym (pow-add 2 52 1023)) (mul-le-mul_left (2 ^ 52) (pow_mono g)))
    (le_trans (mul-le-mul_right (2 ^ x) (subst (λ (z : ℕ). 2 ^ 52 ≤ z + t) (sym e) (le-add_right (2 ^ 52) t))) l))))

ulp_pos : (x : ℕ) → 0 < ulp x
ulp_pos zero = zero-lt-suc 0
ulp_pos (suc x) = pow_pos x

ulp_small : (x : ℕ) → x ≤ 1023 → ulp x < 2 ^ 1053
ulp_small zero h = pow-lt {i = 0} {j = 1053} (lit< tt)
ulp_small (suc x) h = pow-lt {i = x} {j = 1053} (le_trans h (lit≤ tt))

-- a pattern that is taken as k is as many units as k's quotient
taken_units : (p k : ℕ) → p < 0x7ff0000000000000 → rate_of (of_bits binary64 p) ≡ Some k → (k ≤ most_rate) × (units p ≡ rate_units k) × (p / 2 ^ 52 ≤ 1023)
unfolding units
taken_units p k h t =
    let x = of_bits binary64 p in
    let r = (rate_at x k).0 t in
    let e : units p ≡ rate_units k = eq_of_mul-eq-mul_right (2 ^ 1074) (pow_pos 1074) (units p) (rate_units k)
    (is_one x (units p) (2 ^ 1074) (rate_units k) (2 ^ 1074) (has→is x (units p) (2 ^ 1074) (bits_value p h)) (eq→is x (quotient k 1000000) (rate_units k) (2 ^ 1074) (rate_value k r.0) r.1)) in
    (r.0, e, field_low (2 ^ 52) (p / 2 ^ 52) (p % 2 ^ 52) refl (subst (λ (z : ℕ). z ≤ 2 ^ 1074) (sym e) (rate_most k r.0)))

near_above : (a b u g : ℕ) → a ≡ b + u → 0 < u → u < g → (a < b + g) × (b < a + g) × (a ≡ b → ⊥)
near_above a b u g e h k = (omega arith, omega arith, (λ z. omega arith))

room : (p : ℕ) → p / 2 ^ 52 ≤ 1023 → suc p < 0x7ff0000000000000
room p h = omega arith

-- the pattern above a rate's is no rate's
pub above_rate : (p k : ℕ) → p < 0x7ff0000000000000 → rate_of (of_bits binary64 p) ≡ Some k → rate_of (of_bits binary64 (suc p)) ≡ None
above_rate p k h t =
    let w = taken_units p k h t in
    let u = ulp (p / 2 ^ 52) in
    let n = near_above (units (suc p)) (rate_units k) u (2 ^ 1053) (units_next p ∙ ap (λ (z : ℕ). z + u) w.1) (ulp_pos (p / 2 ^ 52)) (ulp_small (p / 2 ^ 52) w.2) in
    rate_near (of_bits binary64 (suc p)) (units (suc p)) k w.0 (bits_value (suc p) (room p w.2)) n.0 n.1 n.2

-- nor is the one below
field_below : (p : ℕ) → suc p / 2 ^ 52 ≤ 1023 → p / 2 ^ 52 ≤ 1023
field_below p h = omega arith

pub below_rate : (p k : ℕ) → suc p < 0x7ff0000000000000 → rate_of (of_bits binary64 (suc p)) ≡ Some k → rate_of (of_bits binary64 p) ≡ None
below_rate p k h t =
    let w = taken_units (suc p) k h t in
    let u = ulp (p / 2 ^ 52) in
    let n = near_above (rate_units k) (units p) u (2 ^ 1053) (sym w.1 ∙ units_next p) (ulp_pos (p / 2 ^ 52)) (ulp_small (p / 2 ^ 52) (field_below p w.2)) in
    rate_near (of_bits binary64 p) (units p) k w.0 (bits_value p (le_of_lt h)) n.1 n.0 (λ e. n.2 (sym e))

-- ---- a sign: every pattern above minus zero's is a number below 0, minus infinity or a NaN
minus_none : (y : Float) (a c b d : ℕ) → HasValue y true a c → 0 < a → Is y b d → ⊥
minus_none nan a c b d h P i = h
minus_none (inf s) a c b d h P i = h
minus_none (fin s m e) a c b d h P i =
    lt_irrefl 0 (subst (λ (z : ℕ). 0 < z) (sym h.1 ∙ ap (λ (z : ℕ). z * up e * c) (i.0 h.0) ∙ ap (λ (z : ℕ). z * c) (zero-mul (up e)) ∙ zero-mul c) (mul-pos P (down_pos e)))

minus_fields : (f : Format) (x t : ℕ) → 0 < x + t → (a c : ℕ) → Is (of_fields f true x t) a c → ⊥
unfolding of_fields
minus_fields f zero t h a c = minus_none (odd (prec f) true t 0 (low f)) (t * 2 ^ 0) (2 ^ low f) a c (odd_sign (prec f) true t 0 (low f)) (mul-pos (subst (λ (z : ℕ). 0 < z) (zero-add t) h) (pow_pos 0))
minus_fields f (suc x) t h a c = go (eqb (suc x) (ones f)) (eqb t 0)
  where
    go : (p q : Bool) → Is (cond p (cond q (inf true) nan) (odd (prec f) true (hid f + t) x (low f))) a c → ⊥
    go true true i = i
    go true false i = i
    go false q i =
        minus_none (odd (prec f) true (hid f + t) x (low f)) ((hid f + t) * 2 ^ x) (2 ^ low f) a c (odd_sign (prec f) true (hid f + t) x (low f))
        (mul-pos (le_trans (pow_pos (prec f - 1)) (le-add_right (hid f) t)) (pow_pos x)) i

minus_bits : (f : Format) (b : ℕ) → top f ≤ b → of_bits f b ≡ of_fields f true (b % top f / hid f) (b % hid f)
unfolding of_bits
minus_bits f b h = ap (λ (s : Bool). of_fields f s (b % top f / hid f) (b % hid f)) (is_true (leb (top f) b) (le→leb (top f) b h))

some_bit : (b : ℕ) → 2 ^ 63 < b → b < 2 ^ 64 → 0 < b % 2 ^ 63 / 2 ^ 52 + b % 2 ^ 52
some_bit b h k = omega arith

pub negative_bits : (b : ℕ) → 2 ^ 63 < b → b < 2 ^ 64 → NeverTaken (of_bits binary64 b)
negative_bits b h k =
    subst NeverTaken (sym (minus_bits binary64 b (le_of_lt h)))
    (never_taken (of_fields binary64 true (b % 2 ^ 63 / 2 ^ 52) (b % 2 ^ 52)) (minus_fields binary64 (b % 2 ^ 63 / 2 ^ 52) (b % 2 ^ 52) (some_bit b h k)))

-- ---- a subnormal: the exponent's field is 0 and the fraction is not (those with a sign are negative)
small_units : (t : ℕ) → t < 2 ^ 52 → units t ≡ t
unfolding units
small_units t h =
    let x : t / 2 ^ 52 ≡ 0 = omega arith in
    let y : t % 2 ^ 52 ≡ t = omega arith in
    ap (λ (z : ℕ). scaled (2 ^ 52) z (t % 2 ^ 52)) x ∙ y

no_units : rate_units 0 ≡ 0
unfolding size
no_units = refl

tiny : (t n L : ℕ) → 0 < t → t < L → t * 1 ≡ n * L → ⊥
tiny t zero L P h e = lt_irrefl 0 (subst (λ (z : ℕ). 0 < z) (sym (mul-one t) ∙ e ∙ zero-mul L) P)
tiny t (suc n) L P h e = lt_irrefl t (lt_of_lt_of_le h (subst (λ (z : ℕ). z ≤ t) (one-mul L) (subst (λ (z : ℕ). 1 * L ≤ z) (sym e ∙ mul-one t) (mul-le-mul_right L (zero-lt-suc n)))))

pub subnormal_bits : (t : ℕ) → 0 < t → t < 2 ^ 52 → NeverTaken (of_bits binary64 t)
subnormal_bits t P h =
    let x = of_bits binary64 t in
    let v : HasValue x false t (2 ^ 1074) = subst (λ (a : ℕ). HasValue x false a (2 ^ 1074)) (small_units t h) (bits_value t (le_trans h (lit≤ tt))) in
    let n = near_above t (rate_units 0) t (2 ^ 1053) (sym (ap (λ (z : ℕ). z + t) no_units ∙ zero-add t)) P (lt_of_lt_of_le h (pow_mono {i = 52} {j = 1053} (lit≤ tt))) in (
      rate_near x t 0 zero-le v n.0 n.1 n.2,
      (λ most m. whole_none x most (λ k K s.
          tiny t k (2 ^ 1074) P (lt_of_lt_of_le h (pow_mono {i = 52} {j = 1074} (lit≤ tt)))
          (is_one x t (2 ^ 1074) k 1 (has→is x t (2 ^ 1074) v) (eq→is x (of_whole k) k 1 (whole_value k (le_trans K m)) s)))),
    )

-- ---- both zeros are 0, as a rate and as a whole number
abbrev pub TakenAsZero : Float → Type 0
TakenAsZero x = (rate_of x ≡ Some 0) × ((most : ℕ) → most ≤ 2 ^ 53 → whole_of x most ≡ Some 0)

pub plus_zero : TakenAsZero (of_bits binary64 0)
unfolding eq of_bits quotient of_int div
plus_zero = ((rate_at (of_bits binary64 0) 0).1 (lit≤ tt) tt, (λ most m. (whole_at (of_bits binary64 0) most 0 m).1 zero-le tt))

pub minus_zero : TakenAsZero (of_bits binary64 0x8000000000000000)
unfolding eq of_bits quotient of_int div
minus_zero = ((rate_at (of_bits binary64 0x8000000000000000) 0).1 (lit≤ tt) tt, (λ most m. (whole_at (of_bits binary64 0x8000000000000000) most 0 m).1 zero-le tt))

-- ---- the infinity (minus infinity is negative)
pub infinity_bits : NeverTaken (of_bits binary64 0x7ff0000000000000)
unfolding of_bits
infinity_bits = infinite false

-- ---- some rates by their bits: 0.5 is 500,000 millionths and 1 is 1,000,000; 0.1 is 100,000, and so the patterns beside it are none
half : rate_of (of_bits binary64 0x3fe0000000000000) ≡ Some 500000
unfolding eq of_bits quotient of_int div
half = (rate_at (of_bits binary64 0x3fe0000000000000) 500000).1 (lit≤ tt) tt

one : rate_of (of_bits binary64 0x3ff0000000000000) ≡ Some 1000000
unfolding eq of_bits quotient of_int div
one = (rate_at (of_bits binary64 0x3ff0000000000000) 1000000).1 (lit≤ tt) tt

tenth : rate_of (of_bits binary64 0x3fb999999999999a) ≡ Some 100000
unfolding eq of_bits quotient of_int div
tenth = (rate_at (of_bits binary64 0x3fb999999999999a) 100000).1 (lit≤ tt) tt

above_tenth : rate_of (of_bits binary64 0x3fb999999999999b) ≡ None
above_tenth = above_rate 0x3fb999999999999a 100000 (lit< tt) tenth

below_tenth : rate_of (of_bits binary64 0x3fb9999999999999) ≡ None
below_tenth = below_rate 0x3fb9999999999999 100000 (lit< tt) tenth
