-- The exponential's sums: exp_term y n = yⁿ / n! and exp_sum K y, its terms 0 to K. Past K each term is at most an eighth of the one
-- before where 8 y ≤ K + 1, so every longer sum is at most 8/7 of exp_sum K y (exp_sum_le).
use Rattle.std.specs.Prelude.{◌≡◌, ℕ, zero, suc, ◌≤◌ as ◌≤ⁿ◌, pos}
use Rattle.std.proofs.Common.{◌∙◌, ap, arith}
use Rattle.algebra.specs.Solver.{con, 𝟎, ◌⊕◌, ◌⊗◌, ◌:=◌, ring2, ring3, ring5}
use Rattle.algebra.specs.Linear.{lin2, lin4, ◌≼◌, ◌⋅◌, rest, ◌∣◌, ◌⊢◌}
use Rattle.algebra.specs.Q.{ℚ, ℚ_ring, ℚ_ord, neg_q, zero_q, one_q, ◌+ℚ◌, ◌*ℚ◌, ◌≤ℚ◌, ≤_trans, ≤_of_eq, ≤_mul_left, mul_nn, ≤_add_nn}
use Rattle.algebra.specs.Embedding.{nat, nat_nn, nat_le}
use Rattle.algebra.specs.Quotient.{inv, inv_nn, inv_cancel}
use Rattle.algebra.specs.RationalSum.{sum, sum_nn, sum_grow}
use Rattle.algebra.specs.Power.{pow_q, pow_q_nn, sgn, pow_q_neg, ifact, ifact_nn}
use Rattle.algebra.specs.SeriesOrder.{NonNeg}

abbrev pub exp_term : ℚ → ℕ → ℚ
exp_term y n = ifact n *ℚ pow_q y n

abbrev pub exp_sum : ℕ → ℚ → ℚ
exp_sum K y = sum (suc K) (exp_term y)

pub exp_term_nn : (y : ℚ) → zero_q ≤ℚ y → NonNeg (exp_term y)
exp_term_nn y h n = mul_nn (ifact_nn n) (pow_q_nn y h n)

pub exp_term_zero : (y : ℚ) → exp_term y 0 ≡ one_q
exp_term_zero y = ℚ_ring.mul-one one_q

pub exp_term_suc : (y : ℚ) (n : ℕ) → nat (suc n) *ℚ exp_term y (suc n) ≡ exp_term y n *ℚ y
exp_term_suc y n = ring5 ℚ_ring (λ m i f y p. m ⊗ ((i ⊗ f) ⊗ (y ⊗ p)) := i ⊗ (m ⊗ ((f ⊗ p) ⊗ y))) tt (nat (suc n)) (inv n) (ifact n) y (pow_q y n)
    ∙ inv_cancel n (exp_term y n *ℚ y)

-- at 0 only the first term is not 0
pub exp_term_none : (n : ℕ) → exp_term zero_q (suc n) ≡ zero_q
exp_term_none n = ring2 ℚ_ring (λ f p. f ⊗ (𝟎 ⊗ p) := 𝟎) tt (ifact (suc n)) (pow_q zero_q n)

pub exp_term_neg : (y : ℚ) (n : ℕ) → exp_term (neg_q y) n ≡ sgn n *ℚ exp_term y n
exp_term_neg y n = ap (λ x. ifact n *ℚ x) (pow_q_neg y n) ∙ ring3 ℚ_ring (λ f s p. f ⊗ (s ⊗ p) := s ⊗ (f ⊗ p)) tt (ifact n) (sgn n) (pow_q y n)

-- K + d, with suc outside
abbrev past : ℕ → ℕ → ℕ
past K zero = K
past K (suc d) = suc (past K d)

past_ge : (K d : ℕ) → (K ≤ⁿ past K d) × (d ≤ⁿ past K d)
past_ge K zero = (omega arith, omega arith)
past_ge K (suc d) = let h : (K ≤ⁿ past K d) × (d ≤ⁿ past K d) = past_ge K d in (omega arith, omega arith)

module _ (K : ℕ) (y : ℚ) (y-nn : zero_q ≤ℚ y) (y-le : nat 8 *ℚ y ≤ℚ nat (suc K)) where
  eighth : (n : ℕ) → K ≤ⁿ n → nat 8 *ℚ exp_term y (suc n) ≤ℚ exp_term y n
  eighth n l =
      ≤_trans (≤_of_eq (ring5 ℚ_ring (λ b i f y p. b ⊗ ((i ⊗ f) ⊗ (y ⊗ p)) := (i ⊗ (f ⊗ p)) ⊗ (b ⊗ y))
      tt (nat 8) (inv n) (ifact n) y (pow_q y n)))
      (≤_trans (≤_mul_left (inv n *ℚ exp_term y n) (mul_nn (inv_nn n) (exp_term_nn y y-nn n)) (≤_trans y-le (nat_le (omega arith))))
      (≤_of_eq (ring3 ℚ_ring (λ i e m. (i ⊗ e) ⊗ m := i ⊗ (m ⊗ e)) tt (inv n) (exp_term y n) (nat (suc n)) ∙ inv_cancel n (exp_term y n))))

  sum_past : (d : ℕ) → nat 7 *ℚ exp_sum (past K d) y +ℚ exp_term y (past K d) ≤ℚ nat 8 *ℚ exp_sum K y
  sum_past zero = lin2 ℚ_ring ℚ_ord (λ s e. 1 ⋅ 𝟎 ≼ s ∣ rest 0 ⊢ con (pos 7) ⊗ (s ⊕ e) ⊕ e ≼ con (pos 8) ⊗ (s ⊕ e)) tt
      (sum K (exp_term y)) (exp_term y K) (sum_nn K (exp_term y) (exp_term_nn y y-nn), tt)
  sum_past (suc d) = lin4 ℚ_ring ℚ_ord (λ s e f k. 1 ⋅ con (pos 8) ⊗ f ≼ e ∣ 1 ⋅ con (pos 7) ⊗ s ⊕ e ≼ con (pos 8) ⊗ k ∣ rest 0
      ⊢ con (pos 7) ⊗ (s ⊕ f) ⊕ f ≼ con (pos 8) ⊗ k) tt
      (exp_sum (past K d) y) (exp_term y (past K d)) (exp_term y (suc (past K d))) (exp_sum K y)
      (eighth (past K d) (past_ge K d).0, (sum_past d, tt))

  pub exp_sum_le : (X : ℕ) → nat 7 *ℚ exp_sum X y ≤ℚ nat 8 *ℚ exp_sum K y
  exp_sum_le X =
      ≤_trans (≤_mul_left (nat 7) (nat_nn 7) (sum_grow (suc X) (suc (past K X)) (exp_term y) (exp_term_nn y y-nn)
      (omega (arith, (past_ge K X).1))))
      (≤_trans (≤_add_nn (exp_term_nn y y-nn (past K X))) (sum_past X))
