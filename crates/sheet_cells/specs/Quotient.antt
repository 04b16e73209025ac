-- The rounded quotient of k by d is so many units of the format's smallest value (`quotient_value`), and the units of two quotients lie apart
-- (`grid_apart`), so k is unique. The idea: between j / d and (j + 1) / d lie two neighbours m / 2 ^ i and (m + 1) / 2 ^ i with 2 ^ i at least
-- 2 * d, which the format holds exactly, and rounding keeps the order (`lib.Ieee.Order.round_mono`). No error bound is needed.
use Rattle.std.specs.Prelude.{◌≡◌, refl, ℕ, suc, ◌+◌, ◌-◌, ◌*◌, ◌/◌, ◌^◌, ◌≤◌, ◌<◌, Bool, true, false, cond, T, eqb}
use Rattle.std.proofs.Common.{sym, ap, ◌∙◌, subst, zero-le, le_trans, le_of_eq, le_of_lt, lt_of_lt_of_le, lt_irrefl, zero-lt-suc, mul-one, zero-mul, add-mul, mul_comm, mul_assoc, mul_left_comm, mul-le-mul_right, mul-pos, div-mul-le_self, div-lt_iff_lt-mul, lt_of_not-le, arith, true≢false, eqb→eq, pow-add, pow_pos, pow_mono, shl_lt}
use lib.Ieee.{Float, nan, inf, fin, Format, binary64, prec, emax, low, up, down, round, div, of_int}
use Rattle.std.specs.Float.Ieee.Digits.{back}
use lib.Ieee.Fits.{down_pos}
use Rattle.std.specs.Float.Ieee.Exact.{HasValue, round_exact}
use Rattle.std.specs.Float.Ieee.Back.{round_whole}
use lib.Ieee.Order.{round_mono}
use Rattle.std.specs.Float.Ieee.Scale.{round_same, round_val, round_under, grid, finite}
use Rattle.fund.specs.SheetCells.{of_whole, quotient}
use Rattle.sheet_cells.specs.Values.{le→cross, between}

-- ---- the quotient of two whole numbers is their fraction, rounded once
not_zero : (n : ℕ) (u b v : ℕ) → 0 < b → 0 < v → n * u * 1 ≡ b * v → (t : Bool) → (T t → n ≡ 0) → {X : Type 0} (x y : X) → cond t x y ≡ y
not_zero n u b v B P e true z x y =
    absurd (lt_irrefl 0 (subst (λ (w : ℕ). 0 < w) (sym e ∙ mul-one (n * u) ∙ ap (λ (w : ℕ). w * u) (z tt) ∙ zero-mul u) (mul-pos B P)))
not_zero n u b v B P e false z x y = refl

first_pos : (n u : ℕ) → 0 < n * u → 0 < n
first_pos n u h = lt_of_not-le (λ g. let z : n ≡ 0 = omega arith in lt_irrefl 0 (subst (λ (w : ℕ). 0 < w) (ap (λ (w : ℕ). w * u) z ∙ zero-mul u) h))

pub div_is : (f : Format) (x y : Float) (a b : ℕ) → 0 < b → HasValue x false a 1 → HasValue y false b 1 → div f x y ≡ round f false a b
unfolding div
div_is f nan y a b B h k = absurd h
div_is f (inf s) y a b B h k = absurd h
div_is f (fin true m e) y a b B h k = absurd (true≢false h.0)
div_is f (fin false m e) nan a b B h k = absurd k
div_is f (fin false m e) (inf s) a b B h k = absurd k
div_is f (fin false m e) (fin true n d) a b B h k = absurd (true≢false k.0)
div_is f (fin false m e) (fin false n d) a b B h k =
    let p : m * up e ≡ a * down e = sym (mul-one (m * up e)) ∙ h.1 in
    let q : n * up d ≡ b * down d = sym (mul-one (n * up d)) ∙ k.1 in
    let r : a * down e * down d * b ≡ a * (b * down d * down e) = simp (mul_assoc, mul_comm, mul_left_comm) in
    not_zero n (up d) b (down d) B (down_pos d) k.1 (eqb n 0) (eqb→eq n 0) _ _
    ∙ round_same f false (m * up e * down d) (n * up d * down e) a b
    (subst (λ (w : ℕ). 0 < w * down e) (sym q) (mul-pos (mul-pos B (down_pos d)) (down_pos e))) B
    (ap (λ (w : ℕ). w * down d * b) p ∙ r ∙ sym (ap (λ (w : ℕ). a * (w * down e)) q))

pub whole_value : (k : ℕ) → k ≤ 2 ^ 53 → HasValue (of_whole k) false k 1
unfolding of_int
whole_value k h = round_whole binary64 false k h

pub quotient_is : (k d : ℕ) → k ≤ 2 ^ 53 → 0 < d → d ≤ 2 ^ 53 → quotient k d ≡ round binary64 false k d
unfolding quotient
quotient_is k d h D l = div_is binary64 (of_whole k) (of_whole d) k d D (whole_value k h) (whole_value d l)

-- ---- a rounded fraction of whole numbers is finite, and `grid` units of the smallest value
has_finite : (x : Float) (s : Bool) (a c : ℕ) → HasValue x s a c → T (finite x)
has_finite nan s a c h = h
has_finite (inf t) s a c h = h
has_finite (fin t m e) s a c h = tt

round_finite : (f : Format) (k d : ℕ) → k ≤ 2 ^ prec f → 0 < d → T (finite (round f false k d))
round_finite f k d h D =
    between (round f false 0 1) (round f false k d) (round f false k 1)
    (has_finite (round f false 0 1) false 0 1 (round_whole f false 0 zero-le)) (has_finite (round f false k 1) false k 1 (round_whole f false k h))
    (round_mono f 0 1 k d (zero-lt-suc 0) D (le_trans (le_of_eq (zero-mul d)) zero-le))
    (round_mono f k d k 1 D (zero-lt-suc 0) (le_trans (le_of_eq (mul-one k)) (le_trans (le_of_eq (sym (mul-one k))) (le_trans (le_of_eq (mul_comm k 1)) (le_trans (mul-le-mul_right k D) (le_of_eq (mul_comm d k)))))))

pub round_value : (f : Format) (k d : ℕ) → k ≤ 2 ^ prec f → 0 < d → HasValue (round f false k d) false (grid f k d) (2 ^ low f)
round_value f k d h D = round_val f k d (round_under f k d (round_finite f k d h D))

pub quotient_value : (k d : ℕ) → k ≤ 2 ^ 53 → 0 < d → d ≤ 2 ^ 53 → HasValue (quotient k d) false (grid binary64 k d) (2 ^ low binary64)
quotient_value k d h D l = subst (λ (z : Float). HasValue z false (grid binary64 k d) (2 ^ low binary64)) (sym (quotient_is k d h D l)) (round_value binary64 k d h D)

-- ---- m / 2 ^ i is a value of the format
room : (f : Format) (i : ℕ) → i ≤ low f → prec f + (low f - i) ≤ low f + suc (emax f)
room f i h = omega (arith, lib.Ieee.Fits.reach f)

pub dyadic : (f : Format) (m i : ℕ) → m < 2 ^ prec f → i ≤ low f → HasValue (round f false m (2 ^ i)) false m (2 ^ i)
dyadic f m i small h =
    let j = low f - i in
    round_exact f false m (2 ^ i) m j (pow_pos i) small (lt_of_lt_of_le (shl_lt (prec f) j small) (pow_mono (room f i h)))
    (ap (λ (x : ℕ). m * 2 ^ x) (sym (back (low f) i h)) ∙ ap (λ (x : ℕ). m * x) (pow-add 2 j i) ∙ sym (mul_assoc m (2 ^ j) (2 ^ i)))

-- ---- the two neighbours, at any scale S of at least 2 * d
module _ (S d j k : ℕ) (D : 0 < d) (wide : 2 * d ≤ S) (less : j < k) where
  lower : j * S ≤ (j * S / d + 1) * d
  lower = le_of_lt ((div-lt_iff_lt-mul D).0 (omega arith))

  upper : (j * S / d + 2) * d ≤ k * S
  upper =
      let a : j * S / d * d ≤ j * S = div-mul-le_self (j * S) d in
      let b : (j + 1) * S ≤ k * S = mul-le-mul_right S (omega arith) in
      let c : (j + 1) * S ≡ j * S + 1 * S = add-mul j 1 S in
      let e : (j * S / d + 2) * d ≡ j * S / d * d + 2 * d = add-mul (j * S / d) 2 d in
      omega arith

-- j / d and k / d round to numbers of units that are at least 2 ^ low / S apart
step : (a b m L S : ℕ) → a * S ≤ (m + 1) * L → (m + 2) * L ≤ b * S → a * S + L ≤ b * S
step a b m L S h k =
    let q : (m + 2) * L ≡ m * L + 2 * L = add-mul m 2 L in
    let r : (m + 1) * L ≡ m * L + 1 * L = add-mul m 1 L in
    omega arith

pub grid_apart : (f : Format) (i d j k : ℕ) → i ≤ low f → 0 < d → 2 * d ≤ 2 ^ i → j < k → k ≤ 2 ^ prec f → j * 2 ^ i / d + 2 < 2 ^ prec f
    → grid f j d * 2 ^ i + 2 ^ low f ≤ grid f k d * 2 ^ i
grid_apart f i d j k I D wide less K small =
    let m = j * 2 ^ i / d in
    let x = round f false j d in
    let y = round f false k d in
    let p = round f false (m + 1) (2 ^ i) in
    let q = round f false (m + 2) (2 ^ i) in
    step (grid f j d) (grid f k d) m (2 ^ low f) (2 ^ i)
    (le→cross x p (grid f j d) (2 ^ low f) (m + 1) (2 ^ i) (round_value f j d (le_trans (le_of_lt less) K) D) (dyadic f (m + 1) i (omega arith) I)
    (round_mono f j d (m + 1) (2 ^ i) D (pow_pos i) (lower (2 ^ i) d j k D wide less)))
    (le→cross q y (m + 2) (2 ^ i) (grid f k d) (2 ^ low f) (dyadic f (m + 2) i small I) (round_value f k d K D)
    (round_mono f (m + 2) (2 ^ i) k d (pow_pos i) D (upper (2 ^ i) d j k D wide less)))

less_of_apart : (a b L S : ℕ) → 0 < L → a * S + L ≤ b * S → a < b
less_of_apart a b L S P h = lt_of_not-le (λ g. let p : b * S ≤ a * S = mul-le-mul_right S g in omega arith)

pub grid_less : (f : Format) (i d j k : ℕ) → i ≤ low f → 0 < d → 2 * d ≤ 2 ^ i → j < k → k ≤ 2 ^ prec f → j * 2 ^ i / d + 2 < 2 ^ prec f → grid f j d < grid f k d
grid_less f i d j k I D wide less K small = less_of_apart (grid f j d) (grid f k d) (2 ^ low f) (2 ^ i) (pow_pos (low f)) (grid_apart f i d j k I D wide less K small)
