-- Series without negative places (NonNeg), and sums of products: the sum of a product is at most the product of the sums
-- (sum_product) and at least that of shorter ones (product_sum_ge), the sum of a power at most the power of the sum (sum_pow); the absolute value of a product (product_abs).
use Rattle.std.specs.Prelude.{◌≡◌, ℕ, zero, suc, ◌+◌ as ◌+ⁿ◌, ◌≤◌ as ◌≤ⁿ◌}
use Rattle.std.proofs.Common.{sym, ◌∙◌, ap, suc-add, arith}
use Rattle.algebra.specs.Laws as L
use Rattle.algebra.specs.Solver.{𝟎, ◌⊕◌, ◌⊗◌, ◌:=◌, ring1, ring3, ring4}
use Rattle.algebra.specs.Q.{ℚ, ℚ_ring, zero_q, one_q, ◌+ℚ◌, ◌*ℚ◌, ◌≤ℚ◌, abs, ≤_refl, ≤_trans, ≤_of_eq, ≤_add, ≤_mul_left, ≤_mul_right}
use Rattle.algebra.specs.Q.{mul_mono, one_nn, add_nn, mul_nn, abs_nn, abs_add, abs_mul}
use Rattle.algebra.specs.RationalSum.{sum, sum_add, sum_mul, sum_first, sum_zero, sum_nn, sum_grow}
use Rattle.algebra.specs.Power.{pow_q, pow_q_nn}
use Rattle.algebra.specs.PowerSeries.{Ser, ◌⋆◌, one_s, pow}

abbrev pub NonNeg : Ser → Type 0
NonNeg P = (x : ℕ) → zero_q ≤ℚ P x

pub product_nn : (n : ℕ) (P Q : Ser) → NonNeg P → NonNeg Q → zero_q ≤ℚ (P ⋆ Q) n
product_nn zero P Q h k = mul_nn (h 0) (k 0)
product_nn (suc n) P Q h k = add_nn (mul_nn (h 0) (k (suc n))) (product_nn n (λ k. P (suc k)) Q (λ x. h (suc x)) k)

pub one_series_nn : NonNeg one_s
one_series_nn zero = one_nn
one_series_nn (suc n) = ≤_refl zero_q

pub pow_nn : (n : ℕ) (P : Ser) → NonNeg P → NonNeg (pow P n)
pow_nn zero P h x = one_series_nn x
pow_nn (suc n) P h x = product_nn x P (pow P n) h (pow_nn n P h)

pub product_mono : (n : ℕ) (P P' Q : Ser) → ((k : ℕ) → k ≤ⁿ n → P k ≤ℚ P' k) → NonNeg Q → (P ⋆ Q) n ≤ℚ (P' ⋆ Q) n
product_mono zero P P' Q h k = ≤_mul_right (Q 0) (k 0) (h 0 (omega arith))
product_mono (suc n) P P' Q h k = ≤_add (≤_mul_right (Q (suc n)) (k (suc n)) (h 0 (omega arith)))
    (product_mono n (λ k. P (suc k)) (λ k. P' (suc k)) Q (λ x l. h (suc x) (omega arith)) k)

-- ---- sums
-- the first factor's first place split off
sum_product_first : (n : ℕ) (P Q : Ser) → sum (suc n) (P ⋆ Q) ≡ P 0 *ℚ sum (suc n) Q +ℚ sum n ((λ x. P (suc x)) ⋆ Q)
sum_product_first n P Q =
    sum_first n (P ⋆ Q)
    ∙ ap (λ x. P 0 *ℚ Q 0 +ℚ x) (sum_add n (λ x. P 0 *ℚ Q' x) (P' ⋆ Q) ∙ ap (λ x. x +ℚ sum n (P' ⋆ Q)) (sum_mul n (P 0) Q'))
    ∙ ring4 ℚ_ring (λ p q s t. p ⊗ q ⊕ (p ⊗ s ⊕ t) := p ⊗ (q ⊕ s) ⊕ t) tt (P 0) (Q 0) (sum n Q') (sum n (P' ⋆ Q))
    ∙ ap (λ x. P 0 *ℚ x +ℚ sum n (P' ⋆ Q)) (sym (sum_first n Q))
  where
    P' : Ser
    P' = λ x. P (suc x)

    Q' : Ser
    Q' = λ x. Q (suc x)

-- the first place of a sum times a number
sum_first_mul : (n : ℕ) (P : Ser) (q : ℚ) → sum (suc n) P *ℚ q ≡ P 0 *ℚ q +ℚ sum n (λ x. P (suc x)) *ℚ q
sum_first_mul n P q = ap (λ x. x *ℚ q) (sum_first n P) ∙ ring3 ℚ_ring (λ p s q. (p ⊕ s) ⊗ q := p ⊗ q ⊕ s ⊗ q) tt (P 0) (sum n (λ x. P (suc x))) q

pub sum_product : (n : ℕ) (P Q : Ser) → NonNeg P → NonNeg Q → sum n (P ⋆ Q) ≤ℚ sum n P *ℚ sum n Q
sum_product zero P Q h k = ≤_of_eq (ring1 ℚ_ring (λ a. 𝟎 := 𝟎 ⊗ 𝟎) tt zero_q)
sum_product (suc n) P Q h k = ≤_trans (≤_of_eq (sum_product_first n P Q))
    (≤_trans (≤_add (≤_refl (P 0 *ℚ sum (suc n) Q)) (others (sum_product n P' Q (λ x. h (suc x)) k))) (≤_of_eq (sym (sum_first_mul n P (sum (suc n) Q)))))
  where
    P' : Ser
    P' = λ x. P (suc x)

    others : sum n (P' ⋆ Q) ≤ℚ sum n P' *ℚ sum n Q → sum n (P' ⋆ Q) ≤ℚ sum n P' *ℚ sum (suc n) Q
    others ih = ≤_trans ih (≤_mul_left (sum n P') (sum_nn n P' (λ x. h (suc x))) (sum_grow n (suc n) Q k (omega arith)))

-- and at least the product of two sums that are together as long
pub product_sum_ge : (a b : ℕ) (P Q : Ser) → NonNeg P → NonNeg Q → sum a P *ℚ sum b Q ≤ℚ sum (a +ⁿ b) (P ⋆ Q)
product_sum_ge zero b P Q h k = ≤_trans (≤_of_eq (L.zero-mul ℚ_ring (sum b Q))) (sum_nn (0 +ⁿ b) (P ⋆ Q) (λ x. product_nn x P Q h k))
product_sum_ge (suc a) b P Q h k =
    ≤_trans (≤_of_eq (sum_first_mul a P (sum b Q)))
    (≤_trans (≤_add (≤_mul_left (P 0) (h 0) (sum_grow b (suc (a +ⁿ b)) Q k (omega arith))) (product_sum_ge a b (λ x. P (suc x)) Q (λ x. h (suc x)) k))
    (≤_of_eq (sym (sum_product_first (a +ⁿ b) P Q) ∙ ap (λ n. sum n (P ⋆ Q)) (sym (suc-add a b)))))

pub sum_one : (n : ℕ) → sum (suc n) one_s ≡ one_q
sum_one n = sum_first n one_s ∙ ap (λ x. one_q +ℚ x) (sum_zero n) ∙ ℚ_ring.add-zero one_q

pub sum_one_le : (n : ℕ) → sum n one_s ≤ℚ one_q
sum_one_le n = ≤_trans (sum_grow n (suc n) one_s one_series_nn (omega arith)) (≤_of_eq (sum_one n))

-- the sum of zⁿ is at most ρⁿ
pub sum_pow : (z : Ser) (ρ : ℚ) → NonNeg z → zero_q ≤ℚ ρ → (X : ℕ) → sum X z ≤ℚ ρ → (n : ℕ) → sum X (pow z n) ≤ℚ pow_q ρ n
sum_pow z ρ h p X s zero = sum_one_le X
sum_pow z ρ h p X s (suc n) = ≤_trans (sum_product X z (pow z n) h (pow_nn n z h))
    (mul_mono (sum_nn X z h) (pow_q_nn ρ p n) s (sum_pow z ρ h p X s n))

-- ---- absolute values
abbrev pub abs_s : Ser → Ser
abs_s P = λ x. abs (P x)

pub abs_series_nn : (P : Ser) → NonNeg (abs_s P)
abs_series_nn P x = abs_nn (P x)

pub product_abs : (n : ℕ) (P Q : Ser) → abs ((P ⋆ Q) n) ≤ℚ (abs_s P ⋆ abs_s Q) n
product_abs zero P Q = ≤_of_eq (abs_mul (P 0) (Q 0))
product_abs (suc n) P Q = ≤_trans (abs_add (P 0 *ℚ Q (suc n)) (((λ k. P (suc k)) ⋆ Q) n))
    (≤_add (≤_of_eq (abs_mul (P 0) (Q (suc n)))) (product_abs n (λ k. P (suc k)) Q))
