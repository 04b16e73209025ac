-- A weight at a place: δ d is 1 at d and 0 elsewhere, place d a is the weight a at d. A product with δ d moves a series by d
-- (δ_product). A placed weight is not negative, adds to at most itself, and its transform is d a at d (θ_place).
use Rattle.std.specs.Prelude.{◌≡◌, refl, Bool, true, false, cond, ℕ, zero, suc, ◌+◌ as ◌+ⁿ◌, ◌*◌ as ◌*ⁿ◌, ◌<◌, T, eqb}
use Rattle.std.proofs.Common.{sym, ◌∙◌, ap, ap₂, arith, eqb→eq}
use Rattle.std.proofs.Math.Dec.{eqb-zero-suc, eqb-suc-zero, eqb-suc-suc}
use Rattle.algebra.specs.Laws as L
use Rattle.algebra.specs.SeriesRing as SR
use Rattle.algebra.specs.Solver.{ring2, ring3, 𝟎, ◌⊗◌, ◌:=◌}
use Rattle.algebra.specs.Q.{ℚ, ℚ_ring, zero_q, one_q, ◌+ℚ◌, ◌*ℚ◌, ◌≤ℚ◌, ≤_refl, ≤_trans, ≤_of_eq, ≤_mul_left, one_nn, mul_nn}
use Rattle.algebra.specs.Embedding.{nat, nat_zero, nat_mul}
use Rattle.algebra.specs.Quotient.{over, over_ok}
use Rattle.algebra.specs.RationalSum.{sum, sum_ext, sum_mul, sum_first}
use Rattle.algebra.specs.PowerSeries.{Ser, ◌⋆◌, θ, one_s, product_ext, product_scale}
use Rattle.algebra.specs.SeriesOrder.{NonNeg, sum_one_le}

abbrev pub δ : ℕ → Ser
δ zero zero = one_q
δ zero (suc k) = zero_q
δ (suc d) zero = zero_q
δ (suc d) (suc k) = δ d k

abbrev pub place : ℕ → ℚ → Ser
place d a k = a *ℚ δ d k

-- g moved by d, 0 below
abbrev pub shift : ℕ → Ser → Ser
shift zero g k = g k
shift (suc d) g zero = zero_q
shift (suc d) g (suc k) = shift d g k

pub δ_cond : (d k : ℕ) → δ d k ≡ cond (eqb d k) one_q zero_q
δ_cond zero zero = refl
δ_cond zero (suc k) = sym (ap (λ b. cond b one_q zero_q) (eqb-zero-suc k))
δ_cond (suc d) zero = sym (ap (λ b. cond b one_q zero_q) (eqb-suc-zero d))
δ_cond (suc d) (suc k) = δ_cond d k ∙ sym (ap (λ b. cond b one_q zero_q) (eqb-suc-suc d k))

pub one_δ : (k : ℕ) → one_s k ≡ δ 0 k
one_δ zero = refl
one_δ (suc k) = refl

-- ---- products
pub δ_product : (d : ℕ) (g : Ser) (k : ℕ) → (δ d ⋆ g) k ≡ shift d g k
δ_product zero g k = product_ext k (δ zero) one_s g g (λ j l. sym (one_δ j)) (λ j l. refl) ∙ SR.one_product ℚ_ring k g
δ_product (suc d) g zero = L.zero-mul ℚ_ring (g 0)
δ_product (suc d) g (suc k) = ap₂ ◌+ℚ◌ (L.zero-mul ℚ_ring (g (suc k))) (δ_product d g k) ∙ L.zero-add ℚ_ring (shift d g k)

pub place_product : (d : ℕ) (a : ℚ) (g : Ser) (k : ℕ) → (place d a ⋆ g) k ≡ a *ℚ shift d g k
place_product d a g k = product_scale k a (δ d) g ∙ ap (λ x. a *ℚ x) (δ_product d g k)

pub shift_δ : (d s k : ℕ) → shift d (δ s) k ≡ δ (d +ⁿ s) k
shift_δ zero s k = ap (λ x. δ x k) e
  where
    e : s ≡ 0 +ⁿ s
    e = omega arith
shift_δ (suc d) s zero = ap (λ x. δ x 0) e
  where
    e : suc (d +ⁿ s) ≡ suc d +ⁿ s
    e = omega arith
shift_δ (suc d) s (suc k) = shift_δ d s k ∙ ap (λ x. δ x (suc k)) e
  where
    e : suc (d +ⁿ s) ≡ suc d +ⁿ s
    e = omega arith

-- ---- sums
δ_nn : (d : ℕ) → NonNeg (δ d)
δ_nn zero zero = one_nn
δ_nn zero (suc k) = ≤_refl zero_q
δ_nn (suc d) zero = ≤_refl zero_q
δ_nn (suc d) (suc k) = δ_nn d k

δ_sum : (d n : ℕ) → sum n (δ d) ≤ℚ one_q
δ_sum zero n = ≤_trans (≤_of_eq (sum_ext n (δ 0) one_s (λ k l. sym (one_δ k)))) (sum_one_le n)
δ_sum (suc d) zero = one_nn
δ_sum (suc d) (suc n) = ≤_trans (≤_of_eq (sum_first n (δ (suc d)) ∙ L.zero-add ℚ_ring (sum n (δ d)))) (δ_sum d n)

pub place_nn : (d : ℕ) (a : ℚ) → zero_q ≤ℚ a → NonNeg (place d a)
place_nn d a h x = mul_nn h (δ_nn d x)

pub place_sum : (d : ℕ) (a : ℚ) → zero_q ≤ℚ a → (n : ℕ) → sum n (place d a) ≤ℚ a
place_sum d a h n = ≤_trans (≤_of_eq (sum_mul n a (δ d))) (≤_trans (≤_mul_left a h (δ_sum d n)) (≤_of_eq (ℚ_ring.mul-one a)))

-- nothing stands at 0 where the weight is 0 or the place is not
pub place_zero : (d : ℕ) (a : ℚ) → (d ≡ 0 → a ≡ zero_q) → place d a 0 ≡ zero_q
place_zero zero a h = ap (λ x. x *ℚ one_q) (h refl) ∙ L.zero-mul ℚ_ring one_q
place_zero (suc d) a h = L.mul-zero ℚ_ring a

-- ---- the transform
pub θ_place : (d : ℕ) (a : ℚ) (k : ℕ) → θ (place d a) k ≡ cond (eqb d k) (nat d *ℚ a) zero_q
θ_place d a k = ap (λ y. nat k *ℚ (a *ℚ y)) (δ_cond d k) ∙ go (eqb d k) (eqb→eq d k)
  where
    go : (b : Bool) → (T b → d ≡ k) → nat k *ℚ (a *ℚ cond b one_q zero_q) ≡ cond b (nat d *ℚ a) zero_q
    go true h = ap (λ y. nat k *ℚ y) (ℚ_ring.mul-one a) ∙ ap (λ y. nat y *ℚ a) (sym (h tt))
    go false h = ring2 ℚ_ring (λ k a. k ⊗ (a ⊗ 𝟎) := 𝟎) tt (nat k) a

-- a weight of u units, of U to one
pub θ_place_units : (U d u : ℕ) → 0 < U → (k : ℕ) → nat U *ℚ θ (place d (over (nat u) U)) k ≡ nat (cond (eqb d k) (u *ⁿ d) 0)
θ_place_units U d u h k = ap (λ y. nat U *ℚ y) (θ_place d (over (nat u) U) k) ∙ go (eqb d k)
  where
    go : (b : Bool) → nat U *ℚ cond b (nat d *ℚ over (nat u) U) zero_q ≡ nat (cond b (u *ⁿ d) 0)
    go true = ring3 ℚ_ring (λ u d o. u ⊗ (d ⊗ o) := (u ⊗ o) ⊗ d) tt (nat U) (nat d) (over (nat u) U)
        ∙ ap (λ y. y *ℚ nat d) (over_ok (nat u) U h) ∙ sym (nat_mul u d)
    go false = L.mul-zero ℚ_ring (nat U) ∙ sym nat_zero
