-- What a float is taken as. A whole number exactly where it is that number (`whole_at`, `whole_exactly`); a rate exactly where it equals the
-- quotient of some k by 1,000,000 (`rate_at`, `quotient_taken`), and k is unique (`rate_unique`). Two rates' quotients are at least 2 ^ -21 apart
-- (`rate_apart`), and what is nearer to one without being equal to it is not taken (`rate_near`).
use Rattle.std.specs.Prelude.{◌≡◌, refl, Bool, true, false, ℕ, zero, suc, ◌+◌, ◌*◌, ◌^◌, ◌≤◌, ◌<◌, ℤ, T, Float, None, Some}
use Rattle.std.proofs.Common.{sym, subst, le_trans, lt-suc_self, zero-lt-suc, le_of_suc-le-suc, le_of_mul-le-mul_right, add-mul, mul-one, one-mul, lt_irrefl, arith, lit≤, pow_pos}
use Rattle.std.proofs.Math.Nat.{le-suc, eq_of_mul-eq-mul_right}
use Rattle.std.specs.Float.{nan, inf, fin, binary64}
use Rattle.std.specs.Float.Ieee.{round, eq}
use Rattle.std.specs.Float.Ieee.Bits.{is_true}
use Rattle.std.specs.Float.Ieee.Exact.{HasValue}
use Rattle.std.specs.Float.Ieee.Back.{round_whole}
use Rattle.std.specs.Float.Ieee.Order.{round_mono}
use Rattle.std.specs.Float.Ieee.Scale.{grid}
use Rattle.fund.specs.Limits.{most_rate}
use Rattle.fund.specs.SheetCells.{of_whole, quotient, or_else, seek, whole_of, rate_of}
use Rattle.sheet_cells.specs.Values.{Is, has→is, eq→is, is→eq, is_one, le→cross}
use Rattle.sheet_cells.specs.Quotient.{whole_value, round_value, quotient_value, grid_apart}
use Rattle.sheet_cells.specs.Ascending.{wholes, millionths, few, term_unique, found, seek_none}

-- what is found is below the bound and passes the test
sought : (p : ℕ → Bool) (n k : ℕ) → seek p n ≡ Some k → (k < n) × T (p k)
unfolding seek or_else
sought p zero k e = let z : ◌≡◌ {A = ℕ} 0 1 = cc in absurd (clash z)
  where
    clash : ◌≡◌ {A = ℕ} 0 1 → ⊥
    clash z = omega arith
sought p (suc n) k e = go (p n) refl (sought p n k) e
  where
    go : (b : Bool) → p n ≡ b → (seek p n ≡ Some k → (k < n) × T (p k)) → or_else b n (seek p n) ≡ Some k → (k < suc n) × T (p k)
    go true z ih e = let i : n ≡ k = cc in (subst (λ (j : ℕ). j < suc n) i (lt-suc_self n), subst (λ (j : ℕ). T (p j)) i (subst T (sym z) tt))
    go false z ih e = let r = ih e in (le_trans r.0 (le-suc n), r.1)

-- ---- whole numbers
-- x equals the float of n where x is n exactly, and only there (`Is x a c`: x is the fraction a / c; minus zero is 0)
pub whole_exactly : (x : Float) (n : ℕ) → n ≤ 2 ^ 53 → (T (eq x (of_whole n)) → Is x n 1) × (Is x n 1 → T (eq x (of_whole n)))
whole_exactly x n h = (eq→is x (of_whole n) n 1 (whole_value n h), (λ i. is→eq x (of_whole n) n 1 n 1 (zero-lt-suc 0) (zero-lt-suc 0) i (whole_value n h) refl))

-- x is taken as n exactly where n is in range and x equals it
pub whole_at : (x : Float) (most n : ℕ) → most ≤ 2 ^ 53 → (whole_of x most ≡ Some n → (n ≤ most) × T (eq x (of_whole n))) × (n ≤ most → T (eq x (of_whole n)) → whole_of x most ≡ Some n)
unfolding whole_of
whole_at x most n m = (
  (λ e. let r = sought (λ (j : ℕ). eq x (of_whole j)) (suc most) n e in (le_of_suc-le-suc r.0, r.1)),
  (λ h t. sym (found of_whole most (wholes most m) x n h (is_true (eq x (of_whole n)) t))),
)

-- what equals no number that is sought is not taken
pub whole_none : (x : Float) (most : ℕ) → ((n : ℕ) → n ≤ most → T (eq x (of_whole n)) → ⊥) → whole_of x most ≡ None
unfolding whole_of
whole_none x most h = seek_none (λ (n : ℕ). eq x (of_whole n)) (suc most) (λ n l. h n (le_of_suc-le-suc l))

-- ---- rates
-- x is taken as k exactly where k is in range and x equals the quotient of k by 1,000,000
pub rate_at : (x : Float) (k : ℕ) → (rate_of x ≡ Some k → (k ≤ most_rate) × T (eq x (quotient k 1000000))) × (k ≤ most_rate → T (eq x (quotient k 1000000)) → rate_of x ≡ Some k)
unfolding rate_of
rate_at x k = (
  (λ e. let r = sought (λ (j : ℕ). eq x (quotient j 1000000)) (suc most_rate) k e in (le_of_suc-le-suc r.0, r.1)),
  (λ h t. sym (found (λ (j : ℕ). quotient j 1000000) most_rate millionths x k h (is_true (eq x (quotient k 1000000)) t))),
)

-- "k is unique"
pub rate_unique : (x : Float) (j k : ℕ) → j ≤ most_rate → k ≤ most_rate → T (eq x (quotient j 1000000)) → T (eq x (quotient k 1000000)) → j ≡ k
rate_unique = term_unique (λ (i : ℕ). quotient i 1000000) most_rate millionths

itself : (k : ℕ) → k ≤ most_rate → T (eq (quotient k 1000000) (quotient k 1000000))
itself k K =
    let l = millionths in
    let x = quotient k 1000000 in
    let v = l.value k K in
    is→eq x x (l.g k) l.D (l.g k) l.D l.above l.above (has→is x (l.g k) l.D v) v refl

-- each of the 1,000,001 quotients is taken, with its own k
pub quotient_taken : (k : ℕ) → k ≤ most_rate → rate_of (quotient k 1000000) ≡ Some k
quotient_taken k K = (rate_at (quotient k 1000000) k).1 K (itself k K)

-- and no two of them are equal
pub quotient_unique : (j k : ℕ) → j ≤ most_rate → k ≤ most_rate → T (eq (quotient j 1000000) (quotient k 1000000)) → j ≡ k
quotient_unique j k J K t = rate_unique (quotient j 1000000) j k J K (itself j J) t

-- what equals no quotient is not taken
pub rate_none : (x : Float) → ((k : ℕ) → k ≤ most_rate → T (eq x (quotient k 1000000)) → ⊥) → rate_of x ≡ None
unfolding rate_of
rate_none x h = seek_none (λ (k : ℕ). eq x (quotient k 1000000)) (suc most_rate) (λ k l. h k (le_of_suc-le-suc l))

-- ---- how far apart rates are, in units of 2 ^ -1074, the smallest value of binary64
-- a rate's quotient is so many units
abbrev pub rate_units : ℕ → ℕ
rate_units k = grid binary64 k 1000000

pub rate_value : (k : ℕ) → k ≤ most_rate → HasValue (quotient k 1000000) false (rate_units k) (2 ^ 1074)
rate_value k K = quotient_value k 1000000 (le_trans K (lit≤ tt)) (zero-lt-suc 999999) (lit≤ tt)

gap : (a b S G : ℕ) → 0 < S → a * S + G * S ≤ b * S → a + G ≤ b
gap a b S G P h = le_of_mul-le-mul_right (subst (λ (z : ℕ). z ≤ b * S) (sym (add-mul a G S)) h) P

-- two rates' quotients are at least 2 ^ 1053 units apart, which is 2 ^ -21
pub rate_apart : (j k : ℕ) → j < k → k ≤ most_rate → rate_units j + 2 ^ 1053 ≤ rate_units k
rate_apart j k h K =
    gap (rate_units j) (rate_units k) (2 ^ 21) (2 ^ 1053) (pow_pos 21)
    (grid_apart binary64 21 1000000 j k (lit≤ tt) (zero-lt-suc 999999) (lit≤ tt) h (le_trans K (lit≤ tt)) (few j 1000000 most_rate (le_trans h K) (lit≤ tt)))

between : (a b c g : ℕ) → a ≡ b → b + g ≤ c → c < a + g → ⊥
between a b c g e h k = omega arith

order : (j k : ℕ) → (j ≡ k → ⊥) → (j < k → ⊥) → (k < j → ⊥) → ⊥
order j k n l m = omega arith

-- what is nearer than that to a rate's quotient, and not equal to it, is not taken
pub rate_near : (x : Float) (a k : ℕ) → k ≤ most_rate → HasValue x false a (2 ^ 1074) → a < rate_units k + 2 ^ 1053 → rate_units k < a + 2 ^ 1053 → (a ≡ rate_units k → ⊥) → rate_of x ≡ None
rate_near x a k K v above below other = rate_none x none
  where
    none : (j : ℕ) → j ≤ most_rate → T (eq x (quotient j 1000000)) → ⊥
    none j J s =
        let e : a ≡ rate_units j = eq_of_mul-eq-mul_right (2 ^ 1074) (pow_pos 1074) a (rate_units j)
        (is_one x a (2 ^ 1074) (rate_units j) (2 ^ 1074) (has→is x a (2 ^ 1074) v) (eq→is x (quotient j 1000000) (rate_units j) (2 ^ 1074) (rate_value j J) s)) in
        order j k (λ i. other (subst (λ (z : ℕ). a ≡ rate_units z) i e)) (λ l. between a (rate_units j) (rate_units k) (2 ^ 1053) e (rate_apart j k l K) below)
        (λ l. between (rate_units k) (rate_units k) a (2 ^ 1053) refl (subst (λ (z : ℕ). rate_units k + 2 ^ 1053 ≤ z) (sym e) (rate_apart k j l J)) above)

-- no rate is above 1
pub rate_most : (k : ℕ) → k ≤ most_rate → rate_units k ≤ 2 ^ 1074
rate_most k K =
    subst (λ (z : ℕ). z ≤ 2 ^ 1074) (mul-one (rate_units k)) (subst (λ (z : ℕ). rate_units k * 1 ≤ z) (one-mul (2 ^ 1074))
    (le→cross (round binary64 false k 1000000) (round binary64 false 1 1) (rate_units k) (2 ^ 1074) 1 1
    (round_value binary64 k 1000000 (le_trans K (lit≤ tt)) (zero-lt-suc 999999)) (round_whole binary64 false 1 (lit≤ tt))
    (round_mono binary64 k 1000000 1 1 (zero-lt-suc 999999) (zero-lt-suc 0) (subst (λ (z : ℕ). z ≤ 1 * 1000000) (sym (mul-one k)) (subst (λ (z : ℕ). k ≤ z) (sym (one-mul 1000000)) K)))))

-- ---- never taken
-- not as a rate, and as no whole number of any range up to 2 ^ 53
abbrev pub NeverTaken : Float → Type 0
NeverTaken x = (rate_of x ≡ None) × ((most : ℕ) → most ≤ 2 ^ 53 → whole_of x most ≡ None)

-- so what is no fraction from 0 on is never taken: a NaN, an infinity, a number below 0
pub never_taken : (x : Float) → ((a c : ℕ) → Is x a c → ⊥) → NeverTaken x
never_taken x h = (
  rate_none x (λ k K t. h (rate_units k) (2 ^ 1074) (eq→is x (quotient k 1000000) (rate_units k) (2 ^ 1074) (rate_value k K) t)),
  (λ most m. whole_none x most (λ n N t. h n 1 (eq→is x (of_whole n) n 1 (whole_value n (le_trans N m)) t))),
)

pub not_a_number : NeverTaken nan
not_a_number = never_taken nan (λ a c h. h)

pub infinite : (s : Bool) → NeverTaken (inf s)
infinite s = never_taken (inf s) (λ a c h. h)

pub negative : (m : ℕ) (e : ℤ) → 0 < m → NeverTaken (fin true m e)
negative m e h = never_taken (fin true m e) (λ a c i. lt_irrefl 0 (subst (λ (z : ℕ). 0 < z) (i.0 refl) h))
