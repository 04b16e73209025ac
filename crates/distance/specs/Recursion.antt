-- The bound of the recursion, for any transform and any start. If D is within H of U T, U units to one, and f(0) within R(0) of
-- U F(0), then f is within R of U F, where x F(x) is the sum of T(k) F(x-k) (recursion_close). Strong induction on x: one product is
-- off by a half and its two rounded bounds (product_close), and the rounded quotient by another half.
use Rattle.std.specs.Prelude.{◌≡◌, ℕ, zero, suc, ◌<◌, ◌+◌ as ◌+ⁿ◌, ◌*◌ as ◌*ⁿ◌, ◌-◌ as ◌∸◌, ◌≤◌ as ◌≤ⁿ◌, ℤ, nat_abs, ◌*ℤ◌}
use Rattle.std.proofs.Common.{sym, ◌∙◌, ap, ap₂, subst, arith}
use Rattle.algebra.specs.Solver.{◌⊕◌, ◌⊗◌, ⊖◌, ◌⊝◌, ◌:=◌, ring2, ring3}
use Rattle.algebra.specs.Q.{ℚ, ℚ_ring, neg_q, ◌+ℚ◌, ◌-ℚ◌, ◌*ℚ◌, ◌≤ℚ◌, abs, ≤_refl, ≤_trans, ≤_of_eq, ≤_add, mul_mono, abs_nn, abs_neg, abs_subst, abs_add_le, product_distance}
use Rattle.algebra.specs.Embedding.{ofℤ, nat, ofℤ_mul, nat_add, nat_mul, nat_nn, abs_ofℤ}
use Rattle.algebra.specs.Quotient.{half_q}
use Rattle.algebra.specs.RationalSum.{sum, sum_n, sum_z, sum_ext, sum_const, sum_add, sum_mul, sum_close, nat_sum, ofℤ_sum}
use Rattle.rounding.specs.Rounding.{nearest, up}
use Rattle.fund.specs.Transform.{unit}
use Rattle.distance.specs.Errors.{U, unit_pos, nearest_step, up_le, halves_up}

-- ---- one product, of d within h and f within r
-- what the two rounded bounds add up to
abbrev spread : ℤ → ℕ → ℤ → ℕ → ℕ
spread d h f r = up (nat_abs d *ⁿ r) unit +ⁿ up (h *ⁿ (nat_abs f +ⁿ r)) unit

-- |y| ≤ |f| + r
abs_far : (f : ℤ) (r : ℕ) (y : ℚ) → abs (ofℤ f -ℚ y) ≤ℚ nat r → abs y ≤ℚ nat (nat_abs f +ⁿ r)
abs_far f r y h =
    abs_subst (ring2 ℚ_ring (λ f y. f ⊕ ⊖ (f ⊝ y) := y) tt (ofℤ f) y)
    (≤_trans (abs_add_le (ofℤ f) (neg_q (ofℤ f -ℚ y)) (nat (nat_abs f)) (nat r) (≤_of_eq (abs_ofℤ f))
    (≤_trans (≤_of_eq (abs_neg (ofℤ f -ℚ y))) h)) (≤_of_eq (sym (nat_add (nat_abs f) r))))

-- a product of two bounded factors, divided by the unit and rounded up
up_product : (a b : ℚ) (m n : ℕ) → abs a ≤ℚ nat m → abs b ≤ℚ nat n → abs a *ℚ abs b ≤ℚ U *ℚ nat (up (m *ⁿ n) unit)
up_product a b m n h k = ≤_trans (mul_mono (abs_nn a) (nat_nn n) h k) (≤_trans (≤_of_eq (sym (nat_mul m n))) (up_le (m *ⁿ n) unit unit_pos))

product_close : (d : ℤ) (h : ℕ) (f : ℤ) (r : ℕ) (t y : ℚ) → abs (ofℤ d -ℚ U *ℚ t) ≤ℚ nat h → abs (ofℤ f -ℚ U *ℚ y) ≤ℚ nat r →
    abs (ofℤ (nearest (d *ℤ f) unit) -ℚ U *ℚ (t *ℚ y)) ≤ℚ half_q +ℚ nat (spread d h f r)
product_close d h f r t y hd hf =
    nearest_step (d *ℤ f) unit unit_pos (U *ℚ (t *ℚ y)) (nat (spread d h f r))
    (abs_subst (ap₂ ◌-ℚ◌ (sym (ofℤ_mul d f)) (ring3 ℚ_ring (λ u t y. (u ⊗ t) ⊗ (u ⊗ y) := u ⊗ (u ⊗ (t ⊗ y))) tt U t y))
    (≤_trans (product_distance (ofℤ d) (ofℤ f) (U *ℚ t) (U *ℚ y))
    (≤_trans (≤_add (up_product (ofℤ d) (ofℤ f -ℚ U *ℚ y) (nat_abs d) r (≤_of_eq (abs_ofℤ d)) hf)
    (up_product (ofℤ d -ℚ U *ℚ t) (U *ℚ y) h (nat_abs f +ⁿ r) hd (abs_far f r (U *ℚ y) hf)))
    (≤_of_eq (sym (ℚ_ring.distrib U (nat (up (nat_abs d *ⁿ r) unit)) (nat (up (h *ⁿ (nat_abs f +ⁿ r)) unit)))
    ∙ ap (λ x. U *ℚ x) (sym (nat_add (up (nat_abs d *ⁿ r) unit) (up (h *ⁿ (nat_abs f +ⁿ r)) unit))))))))

-- ---- the recursion up to X: f(m+1) and R(m+1) from those before them
pub record Steps (X : ℕ) (D : ℕ → ℤ) (H : ℕ → ℕ) (f : ℕ → ℤ) (R : ℕ → ℕ) : Type 0 where
  pub f_step : (m : ℕ) → m < X → f (suc m) ≡ nearest (sum_z (suc m) (λ k. nearest (D (suc k) *ℤ f (m ∸ k)) unit)) (suc m)
  pub R_step : (m : ℕ) → m < X → R (suc m) ≡ up (sum_n (suc m) (λ k.
      up (nat_abs (D (suc k)) *ⁿ R (m ∸ k)) unit +ⁿ up (H (suc k) *ⁿ (nat_abs (f (m ∸ k)) +ⁿ R (m ∸ k))) unit)) (suc m) +ⁿ 1

module _ (X : ℕ) (D : ℕ → ℤ) (H : ℕ → ℕ) (f : ℕ → ℤ) (R : ℕ → ℕ) (steps : Steps X D H f R) (T F : ℕ → ℚ)
    (D-close : (k : ℕ) → 0 < k → k ≤ⁿ X → abs (ofℤ (D k) -ℚ U *ℚ T k) ≤ℚ nat (H k))
    (f-close : abs (ofℤ (f 0) -ℚ U *ℚ F 0) ≤ℚ nat (R 0))
    (F_step : (x : ℕ) → x ≤ⁿ X → nat x *ℚ F x ≡ sum x (λ k. T (suc k) *ℚ F (x ∸ suc k))) where
  abbrev Close : ℕ → Type 0
  Close x = abs (ofℤ (f x) -ℚ U *ℚ F x) ≤ℚ nat (R x)

  -- the sum of the rounded products at m + 1
  abbrev products : ℕ → ℤ
  products m = sum_z (suc m) (λ k. nearest (D (suc k) *ℤ f (m ∸ k)) unit)

  abbrev spreads : ℕ → ℕ
  spreads m = sum_n (suc m) (λ k. spread (D (suc k)) (H (suc k)) (f (m ∸ k)) (R (m ∸ k)))

  products_close : (m : ℕ) → m < X → ((y : ℕ) → y ≤ⁿ m → Close y) →
      abs (ofℤ (products m) -ℚ nat (suc m) *ℚ (U *ℚ F (suc m))) ≤ℚ nat (suc m) *ℚ half_q +ℚ nat (spreads m)
  products_close m l before =
      ≤_trans (abs_subst (ap₂ ◌-ℚ◌ (sym (ofℤ_sum (suc m) (λ k. nearest (D (suc k) *ℤ f (m ∸ k)) unit))) exact)
      (sum_close (suc m) (λ k. ofℤ (nearest (D (suc k) *ℤ f (m ∸ k)) unit)) (λ k. U *ℚ (T (suc k) *ℚ F (m ∸ k)))
      (λ k. half_q +ℚ nat (spread (D (suc k)) (H (suc k)) (f (m ∸ k)) (R (m ∸ k))))
      (λ k g. product_close (D (suc k)) (H (suc k)) (f (m ∸ k)) (R (m ∸ k)) (T (suc k)) (F (m ∸ k))
      (D-close (suc k) (omega arith) (omega arith)) (before (m ∸ k) (omega arith)))))
      (≤_of_eq (sum_add (suc m) (λ k. half_q) (λ k. nat (spread (D (suc k)) (H (suc k)) (f (m ∸ k)) (R (m ∸ k))))
      ∙ ap₂ ◌+ℚ◌ (sum_const (suc m) half_q) (sym (nat_sum (suc m) (λ k. spread (D (suc k)) (H (suc k)) (f (m ∸ k)) (R (m ∸ k)))))))
    where
      place : (k : ℕ) → m ∸ k ≡ suc m ∸ suc k
      place k = omega arith

      exact : sum (suc m) (λ k. U *ℚ (T (suc k) *ℚ F (m ∸ k))) ≡ nat (suc m) *ℚ (U *ℚ F (suc m))
      exact = sum_mul (suc m) U (λ k. T (suc k) *ℚ F (m ∸ k))
          ∙ ap (λ s. U *ℚ s) (sum_ext (suc m) (λ k. T (suc k) *ℚ F (m ∸ k)) (λ k. T (suc k) *ℚ F (suc m ∸ suc k))
          (λ k g. ap (λ i. T (suc k) *ℚ F i) (place k)) ∙ sym (F_step (suc m) (omega arith)))
          ∙ ring3 ℚ_ring (λ u x f. u ⊗ (x ⊗ f) := x ⊗ (u ⊗ f)) tt U (nat (suc m)) (F (suc m))

  -- one place from those before it
  step_close : (m : ℕ) → m < X → ((y : ℕ) → y ≤ⁿ m → Close y) → Close (suc m)
  step_close m l before =
      subst (λ r. abs (ofℤ (f (suc m)) -ℚ U *ℚ F (suc m)) ≤ℚ nat r) (sym (steps.R_step m l))
      (subst (λ g. abs (ofℤ g -ℚ U *ℚ F (suc m)) ≤ℚ nat (w +ⁿ 1)) (sym (steps.f_step m l))
      (≤_trans (nearest_step (products m) (suc m) (omega arith) (U *ℚ F (suc m)) (half_q +ℚ nat w) numerator) (≤_of_eq (halves_up w))))
    where
      w : ℕ
      w = up (spreads m) (suc m)

      numerator : abs (ofℤ (products m) -ℚ nat (suc m) *ℚ (U *ℚ F (suc m))) ≤ℚ nat (suc m) *ℚ (half_q +ℚ nat w)
      numerator = ≤_trans (products_close m l before)
          (≤_trans (≤_add (≤_refl (nat (suc m) *ℚ half_q)) (up_le (spreads m) (suc m) (omega arith)))
          (≤_of_eq (sym (ℚ_ring.distrib (nat (suc m)) half_q (nat w)))))

  pub recursion_close : (x : ℕ) → x ≤ⁿ X → abs (ofℤ (f x) -ℚ U *ℚ F x) ≤ℚ nat (R x)
  recursion_close x l = below x x (omega arith) l
    where
      below : (b x : ℕ) → x ≤ⁿ b → x ≤ⁿ X → Close x
      below zero zero g l = f-close
      below zero (suc m) g l = absurd (omega arith)
      below (suc b) zero g l = f-close
      below (suc b) (suc m) g l = step_close m (omega arith) (λ y k. below b y (omega arith) (omega arith))
