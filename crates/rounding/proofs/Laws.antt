-- The laws of the two roundings, for any divisor. Each rounding is the one whole number between two bounds,
-- and the other laws follow from these bounds. The laws for whole numbers with a sign go by the sign.
use mathlib.Core.Path.{◌≡◌, refl, sym, ◌∙◌, ap, subst}
use mathlib.Core.Bool.{Bool, true, false, not, cond}
use Prim.Native.Nat.{ℕ, zero, suc, ◌+◌, ◌-◌, ◌*◌, ◌/◌, ◌<◌, ◌≤◌, suc-le-suc}
use native.Mathlib.Nat as N
use native.Mathlib.Omega.{arith}
use lib.Dec.{T, ltb, ltb→lt, nltb→le, le→leb, leb→le}
use lib.IntN.{ℤ, pos, negsuc, neg_ℤ, nat_abs, ◌-ℤ◌, ◌*ℤ◌, neg_ℤ-neg_ℤ, neg_ℤ-+ℤ, pos-ne-negsuc}
use lib.Signed.{◌≤ℤ◌}
use Rattle.rounding.specs.Rounding.{near, nearest, up}

-- ---- the nearest of a quotient that is not negative

pub near_low : (a b : ℕ) → 2 * b * near a b ≤ 2 * a + b
unfolding near
near_low a b = N.mul-div-le (2 * a + b) (2 * b)

pub near_high : (a b : ℕ) → 0 < b → 2 * a < 2 * b * near a b + b
unfolding near
near_high a b h =
    let k : 0 < 2 * b = omega arith in
    let g : 2 * a + b < 2 * b * ((2 * a + b) / (2 * b) + 1) = N.lt-mul-div-succ (2 * a + b) k in
    omega arith

pub near_unique : (a b k : ℕ) → 2 * b * k ≤ 2 * a + b → 2 * a < 2 * b * k + b → near a b ≡ k
unfolding near
near_unique a b k h g = N.div-eq_of_lt-le (2 * b) (omega arith) (omega arith)

pub near_mono : (a a' b : ℕ) → 0 < b → a ≤ a' → near a b ≤ near a' b
unfolding near
near_mono a a' b h g =
    let z : 0 < 2 * b = omega arith in
    (N.le-div_iff_mul-le z).1 (omega (arith, N.div-mul-le_self (2 * a + b) (2 * b)))

pub near_mul : (a b : ℕ) → 0 < b → near (b * a) b ≡ a
near_mul a b h = near_unique (b * a) b a (omega arith) (omega arith)

pub near_above : (a b k : ℕ) → 0 < b → b * k ≤ a → k ≤ near a b
near_above a b k h g = rw (near_mul k b h) at (near_mono (b * k) a b h g)

pub near_below : (a b k : ℕ) → 0 < b → a ≤ b * k → near a b ≤ k
near_below a b k h g = rw (near_mul k b h) at (near_mono a (b * k) b h g)

pub near_zero : (b : ℕ) → 0 < b → near 0 b ≡ 0
near_zero b h = near_unique 0 b 0 (omega arith) (omega arith)

-- A division by 0 is 0.
pub near_by_zero : (a : ℕ) → near a 0 ≡ 0
unfolding near
near_by_zero a = N.div-zero (2 * a + 0)

-- ---- the nearest of any quotient

pub nearest_pos : (a b : ℕ) → nearest (pos a) b ≡ pos (near a b)
unfolding nearest
nearest_pos a b = refl

pub nearest_zero : (b : ℕ) → 0 < b → nearest (pos 0) b ≡ pos 0
nearest_zero b h = nearest_pos 0 b ∙ ap pos (near_zero b h)

pub nearest_neg : (a : ℤ) (b : ℕ) → 0 < b → nearest (neg_ℤ a) b ≡ neg_ℤ (nearest a b)
unfolding nearest
nearest_neg (pos zero) b h = ap pos (near_zero b h) ∙ ap (λ x. neg_ℤ (pos x)) (sym (near_zero b h))
nearest_neg (pos (suc a)) b h = refl
nearest_neg (negsuc a) b h = sym (neg_ℤ-neg_ℤ (pos (near (suc a) b)))

nat_abs_neg : (a : ℤ) → nat_abs (neg_ℤ a) ≡ nat_abs a
nat_abs_neg (pos zero) = refl
nat_abs_neg (pos (suc a)) = refl
nat_abs_neg (negsuc a) = refl

pub nearest_nat_abs : (a : ℤ) (b : ℕ) → nat_abs (nearest a b) ≡ near (nat_abs a) b
unfolding nearest
nearest_nat_abs (pos a) b = refl
nearest_nat_abs (negsuc a) b = nat_abs_neg (pos (near (suc a) b))

pub nearest_mul : (a : ℤ) (b : ℕ) → 0 < b → nearest (pos b *ℤ a) b ≡ a
unfolding nearest
nearest_mul (pos a) b h = ap pos (near_mul a b h)
nearest_mul (negsuc a) b h = nearest_neg (pos (b * suc a)) b h ∙ ap (λ x. neg_ℤ (pos x)) (near_mul (suc a) b h)

-- Two numbers of which neither is more than b above the other.
difference : (x y b : ℕ) → x ≤ y + b → y ≤ x + b → nat_abs (pos x -ℤ pos y) ≤ b
difference x zero b h g = omega arith
difference x (suc y) b h g = go (ltb x (suc y)) (nltb→le x (suc y)) (ltb→lt x (suc y))
  where
    go : (t : Bool) → (T (not t) → suc y ≤ x) → (T t → x < suc y) → nat_abs (cond t (negsuc (suc y - suc x)) (pos (x - suc y))) ≤ b
    go true f k = let l : x < suc y = k tt in omega arith
    go false f k = let l : suc y ≤ x = f tt in omega arith

mul_neg : (x y : ℕ) → pos x *ℤ neg_ℤ (pos y) ≡ neg_ℤ (pos (x * y))
mul_neg x zero = rw N.mul-zero
mul_neg x (suc y) = refl

-- Both signs changed, a difference is as large as it was.
difference_neg : (x y z : ℕ) → nat_abs (pos x *ℤ neg_ℤ (pos y) -ℤ neg_ℤ (pos z)) ≡ nat_abs (pos (x * y) -ℤ pos z)
difference_neg x y z =
    ap (λ m. nat_abs (m -ℤ neg_ℤ (pos z))) (mul_neg x y)
    ∙ ap nat_abs (sym (neg_ℤ-+ℤ (pos (x * y)) (neg_ℤ (pos z))))
    ∙ nat_abs_neg (pos (x * y) -ℤ pos z)

within : (a b : ℕ) → 0 < b → nat_abs (pos (2 * b * near a b) -ℤ pos (2 * a)) ≤ b
within a b h = difference (2 * b * near a b) (2 * a) b (near_low a b) (omega (arith, near_high a b h))

pub nearest_within : (a : ℤ) (b : ℕ) → 0 < b → nat_abs (pos (2 * b) *ℤ nearest a b -ℤ pos 2 *ℤ a) ≤ b
unfolding nearest
nearest_within (pos a) b h = within a b h
nearest_within (negsuc a) b h =
    subst (λ x. x ≤ b) (sym (difference_neg (2 * b) (near (suc a) b) (2 * suc a))) (within (suc a) b h)

own_neg : (n : ℕ) → neg_ℤ (pos n) ≡ pos n → n ≡ 0
own_neg zero e = refl
own_neg (suc n) e = absurd (pos-ne-negsuc (suc n) n (sym e))

-- The only number with these bounds that is not on the other side of zero.
pub nearest_unique : (a k : ℤ) (b : ℕ) →
    2 * b * nat_abs k ≤ 2 * nat_abs a + b →
    2 * nat_abs a < 2 * b * nat_abs k + b →
    a *ℤ k ≡ pos (nat_abs a * nat_abs k) →
    nearest a b ≡ k
unfolding nearest
nearest_unique (pos a) (pos k) b h g s = ap pos (near_unique a b k h g)
nearest_unique (negsuc a) (negsuc k) b h g s = ap (λ x. neg_ℤ (pos x)) (near_unique (suc a) b (suc k) h g)
nearest_unique (pos a) (negsuc k) b h g s =
    let z : a * suc k ≡ 0 = own_neg (a * suc k) s in
    let l : a ≡ 0 = omega arith in
    absurd (let f : ⊥ = omega arith in f)
nearest_unique (negsuc a) (pos k) b h g s =
    let z : suc a * k ≡ 0 = own_neg (suc a * k) s in
    let l : k ≡ 0 = omega arith in
    ap (λ x. neg_ℤ (pos x)) (near_unique (suc a) b k h g ∙ l) ∙ ap pos (sym l)

pub neg_below : (x y : ℕ) → neg_ℤ (pos x) ≤ℤ pos y
neg_below zero y = record { le = le→leb 0 y (omega arith) }
neg_below (suc x) y = record { le = tt }

neg_mono : (x y : ℕ) → x ≤ y → neg_ℤ (pos y) ≤ℤ neg_ℤ (pos x)
neg_mono zero y h = neg_below y 0
neg_mono (suc x) zero h = absurd (N.not-suc-le-zero h)
neg_mono (suc x) (suc y) h = record { le = le→leb x y (N.le_of_suc-le-suc h) }

pub nearest_mono : (a a' : ℤ) (b : ℕ) → 0 < b → a ≤ℤ a' → nearest a b ≤ℤ nearest a' b
unfolding nearest
nearest_mono (pos a) (pos a') b h g = record { le = le→leb (near a b) (near a' b) (near_mono a a' b h (leb→le a a' g.le)) }
nearest_mono (pos a) (negsuc a') b h g = absurd g.le
nearest_mono (negsuc a) (pos a') b h g = neg_below (near (suc a) b) (near a' b)
nearest_mono (negsuc a) (negsuc a') b h g =
    neg_mono (near (suc a') b) (near (suc a) b) (near_mono (suc a') (suc a) b h (suc-le-suc (leb→le a' a g.le)))

-- ---- up

pub up_low : (a b : ℕ) → 0 < b → a ≤ b * up a b
unfolding up
up_low a b h = omega (arith, N.lt-mul-div-succ (a + (b - 1)) h)

pub up_high : (a b : ℕ) → 0 < b → b * up a b < a + b
unfolding up
up_high a b h = omega (arith, N.mul-div-le (a + (b - 1)) b)

pub up_unique : (a b k : ℕ) → a ≤ b * k → b * k < a + b → up a b ≡ k
unfolding up
up_unique a b k h g = N.div-eq_of_lt-le b (omega arith) (omega arith)

pub up_least : (a b k : ℕ) → 0 < b → a ≤ b * k → up a b ≤ k
up_least a b k h g =
    N.le_of_suc-le-suc (N.lt_of_mul-lt-mul_left b (omega (arith, up_high a b h, N.mul-suc b k)))

pub up_mono : (a a' b : ℕ) → 0 < b → a ≤ a' → up a b ≤ up a' b
up_mono a a' b h g = up_least a b (up a' b) h (N.le_trans g (up_low a' b h))

pub up_mul : (a b : ℕ) → 0 < b → up (b * a) b ≡ a
up_mul a b h = up_unique (b * a) b a (omega arith) (omega arith)

pub up_above : (a b k : ℕ) → 0 < b → b * k ≤ a → k ≤ up a b
up_above a b k h g = rw (up_mul k b h) at (up_mono (b * k) a b h g)

pub up_zero : (b : ℕ) → 0 < b → up 0 b ≡ 0
up_zero b h = up_unique 0 b 0 (omega arith) (omega arith)

pub up_by_zero : (a : ℕ) → up a 0 ≡ 0
unfolding up
up_by_zero a = N.div-zero (a + (0 - 1))
