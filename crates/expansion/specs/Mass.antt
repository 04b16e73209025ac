-- The mass of the exact distribution: each member's own distribution has no negative place and adds to at most 1 (Share), and so has
-- their product; hence Σ |P x| ≤ |s| Σ λⁿ / n! (distribution_mass).
use Rattle.std.specs.Prelude.{◌≡◌, List, [], ◌∷◌, ℕ}
use Rattle.std.proofs.Common.{sym, ◌∙◌, ap}
use Rattle.algebra.specs.Q.{ℚ, ℚ_ring, zero_q, one_q, ◌+ℚ◌, ◌*ℚ◌, ◌≤ℚ◌, abs, ≤_trans, ≤_of_eq, ≤_add, ≤_mul_left, mul_mono, one_nn, add_nn}
use Rattle.algebra.specs.Q.{mul_nn, abs_nn, abs_of_nn, abs_mul}
use Rattle.algebra.specs.RationalSum.{sum, sum_ext, sum_add, sum_mul, sum_nn}
use Rattle.algebra.specs.PowerSeries.{Ser, ◌⋆◌, ◌⊞◌, one_s, const_product}
use Rattle.algebra.specs.SeriesOrder.{NonNeg, product_nn, one_series_nn, sum_product, sum_one_le, abs_s}
use Rattle.expansion.specs.Member.{Member, All, own, own_product, distribution}
use Rattle.expansion.specs.Poisson.{poisson, poisson_nn, poisson_sum}
use Rattle.expansion.specs.Exponential.{exp_term}

pub record Share (m : Member) : Type 0 where
  pub z_nn : (x : ℕ) → zero_q ≤ℚ m.z x
  pub z_sum : (n : ℕ) → sum n m.z ≤ℚ m.ρ
  pub c_nn : zero_q ≤ℚ m.c
  pub c_le : m.c *ℚ (one_q +ℚ m.ρ) ≤ℚ one_q

own_nn : (m : Member) → Share m → NonNeg (own m)
own_nn m h x = ≤_trans (mul_nn h.c_nn (add_nn (one_series_nn x) (h.z_nn x))) (≤_of_eq (sym (const_product m.c (one_s ⊞ m.z) x)))

own_sum : (m : Member) → Share m → (X : ℕ) → sum X (own m) ≤ℚ one_q
own_sum m h X = ≤_trans (≤_of_eq e) (≤_trans (≤_mul_left m.c h.c_nn (≤_add (sum_one_le X) (h.z_sum X))) h.c_le)
  where
    e : sum X (own m) ≡ m.c *ℚ (sum X one_s +ℚ sum X m.z)
    e = sum_ext X (own m) (λ x. m.c *ℚ (one_s x +ℚ m.z x)) (λ x _. const_product m.c (one_s ⊞ m.z) x)
        ∙ sum_mul X m.c (one_s ⊞ m.z) ∙ ap (λ y. m.c *ℚ y) (sum_add X one_s m.z)

pub own_product_nn : (ms : List Member) → All Share ms → NonNeg (own_product ms)
own_product_nn [] h x = one_series_nn x
own_product_nn (m ∷ ms) h x = product_nn x (own m) (own_product ms) (own_nn m h.0) (own_product_nn ms h.1)

pub own_product_sum : (ms : List Member) → All Share ms → (X : ℕ) → sum X (own_product ms) ≤ℚ one_q
own_product_sum [] h X = sum_one_le X
own_product_sum (m ∷ ms) h X = ≤_trans (sum_product X (own m) (own_product ms) (own_nn m h.0) (own_product_nn ms h.1))
    (≤_trans (mul_mono (sum_nn X (own m) (own_nn m h.0)) one_nn (own_sum m h.0 X) (own_product_sum ms h.1 X))
    (≤_of_eq (ℚ_ring.mul-one one_q)))

pub distribution_mass : (s : ℚ) (W : Ser) (ƛ : ℚ) (ms : List Member) → All Share ms → W 0 ≡ zero_q → NonNeg W → zero_q ≤ℚ ƛ → (X : ℕ) →
    sum X W ≤ℚ ƛ →
    sum X (abs_s (distribution s (poisson W) ms)) ≤ℚ abs s *ℚ sum X (exp_term ƛ)
distribution_mass s W ƛ ms h z w p X k =
    ≤_trans (≤_of_eq (sum_ext X (abs_s (distribution s Q ms)) (λ x. abs s *ℚ (Q ⋆ R) x) (λ x _. abs_place x) ∙ sum_mul X (abs s) (Q ⋆ R)))
    (≤_mul_left (abs s) (abs_nn s) (≤_trans (sum_product X Q R Q_nn R_nn)
    (≤_trans (≤_mul_left (sum X Q) (sum_nn X Q Q_nn) (own_product_sum ms h X))
    (≤_trans (≤_of_eq (ℚ_ring.mul-one (sum X Q))) (poisson_sum W ƛ z w p X k)))))
  where
    Q : Ser
    Q = poisson W

    R : Ser
    R = own_product ms

    Q_nn : NonNeg Q
    Q_nn = poisson_nn W w

    R_nn : NonNeg R
    R_nn = own_product_nn ms h

    abs_place : (x : ℕ) → abs (distribution s Q ms x) ≡ abs s *ℚ (Q ⋆ R) x
    abs_place x = ap abs (const_product s (Q ⋆ R) x) ∙ abs_mul s ((Q ⋆ R) x)
        ∙ ap (λ y. abs s *ℚ y) (abs_of_nn ((Q ⋆ R) x) (product_nn x Q R Q_nn R_nn))
