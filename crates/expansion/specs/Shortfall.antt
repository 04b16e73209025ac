-- What a distribution P falls short of M by is P ⋆ N at M, for N k = k (shortfall_sum). Where G falls short of each k by at least k - μ,
-- and the weights W reach λ with first moment at most m, poisson W ⋆ G falls short of M by at least (M - μ - m) Σ λⁿ / n! (shortfall_low).
use Rattle.std.specs.Prelude.{◌≡◌}
use Rattle.std.proofs.Math.Path.{sym, ap}
use Rattle.std.proofs.Common.{◌∙◌, ap₂}
use Prim.Native.Nat.{ℕ, suc, ◌<◌, ◌+◌ as ◌+ⁿ◌, ◌-◌ as ◌∸◌}
use native.Mathlib.Omega.{arith}
use Rattle.algebra.specs.Laws as L
use Rattle.algebra.specs.Series as S
use Rattle.algebra.specs.Solver.{ring3, 𝟎, ◌⊕◌, ◌⊗◌, ◌⊝◌, ◌:=◌}
use Rattle.algebra.specs.Linear.{lin3, lin5, ◌≼◌, ◌⋅◌, rest, ◌∣◌, ◌⊢◌}
use Rattle.algebra.specs.Q.{ℚ, ℚ_ring, ℚ_ord, zero_q, ◌+ℚ◌, ◌-ℚ◌, ◌*ℚ◌, ◌≤ℚ◌, ≤_refl, ≤_trans, ≤_of_eq, ≤_add, ≤_mul_left, ≤_mul_right, mul_nn}
use Rattle.algebra.specs.Embedding.{nat, nat_zero, nat_sub, nat_nn, nat_le}
use Rattle.algebra.specs.RationalSum.{sum, sum_ext, sum_add, sum_mul, sum_zero, sum_split, sum_mono, sum_nn}
use Rattle.algebra.specs.PowerSeries.{Ser, ◌⋆◌, θ, product_sum}
use Rattle.algebra.specs.SeriesOrder.{NonNeg, sum_product}
use Rattle.expansion.specs.Poisson.{poisson, poisson_θ, poisson_nn}
use Rattle.expansion.specs.PoissonMass.{far, poisson_reach}
use Rattle.expansion.specs.Exponential.{exp_sum}

abbrev pub shortfall : Ser → Ser
shortfall P = P ⋆ nat

pub shortfall_sum : (P : Ser) (M : ℕ) → shortfall P M ≡ sum M (λ x. nat (M ∸ x) *ℚ P x)
shortfall_sum P M =
    product_sum M P nat
    ∙ ap₂ ◌+ℚ◌ (sum_ext M (λ x. P x *ℚ nat (M ∸ x)) (λ x. nat (M ∸ x) *ℚ P x) (λ x l. ℚ_ring.mul_comm (P x) (nat (M ∸ x))))
    (ap (λ k. P M *ℚ nat k) e ∙ ap (λ y. P M *ℚ y) nat_zero ∙ L.mul-zero ℚ_ring (P M))
    ∙ ℚ_ring.add-zero (sum M (λ x. nat (M ∸ x) *ℚ P x))
  where
    e : M ∸ M ≡ 0
    e = omega arith

module _ (W G : Ser) (μ m : ℚ) (W_zero : W 0 ≡ zero_q) (W_nn : NonNeg W) (moment : (n : ℕ) → sum n (θ W) ≤ℚ m)
    (own : (k : ℕ) → nat k -ℚ μ ≤ℚ shortfall G k) (μ-nn : zero_q ≤ℚ μ) (M : ℕ) where
  abbrev Q : Ser
  Q = poisson W

  abbrev c : ℚ
  c = nat M -ℚ μ

  -- what group 2's claims y leave of M, less μ
  term : ℕ → ℚ
  term y = Q y *ℚ (c -ℚ nat y)

  up_to_M : sum (suc M) term ≤ℚ shortfall (Q ⋆ G) M
  unfolding term
  up_to_M = ≤_trans (sum_mono (suc M) term (λ y. Q y *ℚ shortfall G (M ∸ y)) each)
      (≤_of_eq (sym (product_sum M Q (shortfall G)) ∙ sym (S.product_assoc ℚ_ring M Q G nat)))
    where
      each : (y : ℕ) → y < suc M → Q y *ℚ (c -ℚ nat y) ≤ℚ Q y *ℚ shortfall G (M ∸ y)
      each y l = ≤_mul_left (Q y) (poisson_nn W W_nn y) (≤_trans (≤_of_eq (ring3 ℚ_ring (λ m u y. m ⊝ u ⊝ y := m ⊝ y ⊝ u) tt (nat M) μ (nat y)
          ∙ ap (λ x. x -ℚ μ) (sym (nat_sub M y (omega arith))))) (own (M ∸ y)))

  past_M : (Y : ℕ) → M < Y → sum Y term ≤ℚ sum (suc M) term
  unfolding term
  past_M Y l = ≤_trans (≤_of_eq (ap (λ n. sum n term) e ∙ sum_split (suc M) (Y ∸ suc M) term))
      (≤_trans (≤_add (≤_refl (sum (suc M) term)) (≤_trans (sum_mono (Y ∸ suc M) (λ k. term (suc M +ⁿ k)) (λ k. zero_q) each) (≤_of_eq (sum_zero (Y ∸ suc M)))))
      (≤_of_eq (ℚ_ring.add-zero (sum (suc M) term))))
    where
      e : Y ≡ suc M +ⁿ (Y ∸ suc M)
      e = omega arith

      each : (k : ℕ) → k < Y ∸ suc M → term (suc M +ⁿ k) ≤ℚ zero_q
      each k h = ≤_trans (≤_mul_left (Q (suc M +ⁿ k)) (poisson_nn W W_nn (suc M +ⁿ k))
          (lin3 ℚ_ring ℚ_ord (λ m u y. 1 ⋅ m ≼ y ∣ 1 ⋅ 𝟎 ≼ u ∣ rest 0 ⊢ m ⊝ u ⊝ y ≼ 𝟎) tt (nat M) μ (nat (suc M +ⁿ k)) (nat_le (omega arith), (μ-nn, tt))))
          (≤_of_eq (L.mul-zero ℚ_ring (Q (suc M +ⁿ k))))

  -- the first moment
  all_terms : (Y : ℕ) → (c -ℚ m) *ℚ sum Y Q ≤ℚ sum Y term
  unfolding term
  all_terms Y = lin5 ℚ_ring ℚ_ord (λ c m s t x. 1 ⋅ t ≼ m ⊗ s ∣ 1 ⋅ c ⊗ s ≼ x ⊕ t ∣ rest 0 ⊢ (c ⊝ m) ⊗ s ≼ x) tt c m (sum Y Q) (sum Y (θ Q)) (sum Y term)
      (first, (≤_of_eq (sym both), tt))
    where
      first : sum Y (θ Q) ≤ℚ m *ℚ sum Y Q
      first = ≤_trans (≤_of_eq (ap (sum Y) (poisson_θ W W_zero)))
          (≤_trans (sum_product Y (θ W) Q (λ x. mul_nn (nat_nn x) (W_nn x)) (poisson_nn W W_nn)) (≤_mul_right (sum Y Q) (sum_nn Y Q (poisson_nn W W_nn)) (moment Y)))

      both : sum Y term +ℚ sum Y (θ Q) ≡ c *ℚ sum Y Q
      both = sym (sum_add Y term (θ Q))
          ∙ sum_ext Y (λ y. term y +ℚ θ Q y) (λ y. c *ℚ Q y) (λ y l. ring3 ℚ_ring (λ q c y. q ⊗ (c ⊝ y) ⊕ y ⊗ q := c ⊗ q) tt (Q y) c (nat y))
          ∙ sum_mul Y c Q

  pub shortfall_low : (ƛ : ℚ) (B K : ℕ) → zero_q ≤ℚ ƛ → ƛ ≤ℚ sum B W → M < B → zero_q ≤ℚ c -ℚ m → (c -ℚ m) *ℚ exp_sum K ƛ ≤ℚ shortfall (Q ⋆ G) M
  shortfall_low ƛ B K ƛ_nn reach l t-nn =
      ≤_trans (≤_mul_left (c -ℚ m) t-nn (poisson_reach W ƛ B W_zero W_nn ƛ_nn reach K Y (omega arith) (omega arith)))
      (≤_trans (all_terms Y) (≤_trans (past_M Y (omega arith)) up_to_M))
    where
      Y : ℕ
      Y = far B K +ⁿ B
