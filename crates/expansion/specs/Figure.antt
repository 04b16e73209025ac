-- The truncation figure: whole numbers w(n) in units of 1 / U that start at U and never fall below the exact (q + i) / p of the one
-- before are at least U ρⁿ, so a whole number m with m (p - q - i) (r + 1) ≥ w(r + 1) p makes e = m / U big enough for a cut
-- at order r (figure_big), and the member Good (figure_good).
use Rattle.std.specs.Prelude.{◌≡◌, ℕ, zero, suc, ◌<◌, ◌≤◌ as ◌≤ⁿ◌, ◌+◌ as ◌+ⁿ◌, ◌*◌ as ◌*ⁿ◌}
use Rattle.std.proofs.Common.{sym, ◌∙◌, ap, ap₂, arith}
use Rattle.algebra.specs.Solver.{◌⊝◌, ring2, ring3, ring4, 𝟏, ◌⊕◌, ◌⊗◌, ◌:=◌}
use Rattle.algebra.specs.Q.{ℚ, ℚ_ring, zero_q, one_q, ◌-ℚ◌, ◌*ℚ◌, ◌≤ℚ◌, ≤_trans, ≤_of_eq, ≤_mul_left}
use Rattle.algebra.specs.Embedding.{nat, nat_add, nat_mul, nat_nn, nat_le}
use Rattle.algebra.specs.Quotient.{over, over_ok, over_nn, cancel}
use Rattle.algebra.specs.Power.{pow_q}
use Rattle.expansion.specs.Remainder.{Good}
use Rattle.expansion.specs.FoldedMember.{Folded, odds_sum, member, member_good}

module _ (U q i p : ℕ) (U_pos : 0 < U) (p_pos : 0 < p) (w : ℕ → ℕ) (w-zero : w 0 ≡ U)
    (w-step : (n : ℕ) → w n *ⁿ (q +ⁿ i) ≤ⁿ p *ⁿ w (suc n)) where
  abbrev ρ : ℚ
  ρ = odds_sum q i p

  -- p ρ = q + i
  p_ρ : nat p *ℚ ρ ≡ nat (q +ⁿ i)
  p_ρ = over_ok (nat (q +ⁿ i)) p p_pos

  ρ_nn : zero_q ≤ℚ ρ
  ρ_nn = over_nn (nat (q +ⁿ i)) p (nat_nn (q +ⁿ i))

  -- ρ w(n) ≤ w(n + 1)
  w_ratio : (n : ℕ) → ρ *ℚ nat (w n) ≤ℚ nat (w (suc n))
  w_ratio n = cancel p p_pos (≤_trans (≤_of_eq e) (≤_trans (nat_le (w-step n)) (≤_of_eq (nat_mul p (w (suc n))))))
    where
      e : nat p *ℚ (ρ *ℚ nat (w n)) ≡ nat (w n *ⁿ (q +ⁿ i))
      e = ring3 ℚ_ring (λ p r w. p ⊗ (r ⊗ w) := w ⊗ (p ⊗ r)) tt (nat p) ρ (nat (w n)) ∙ ap (λ x. nat (w n) *ℚ x) p_ρ
          ∙ sym (nat_mul (w n) (q +ⁿ i))

  pub w_big : (n : ℕ) → nat U *ℚ pow_q ρ n ≤ℚ nat (w n)
  w_big zero = ≤_of_eq (ℚ_ring.mul-one (nat U) ∙ ap nat (sym w-zero))
  w_big (suc n) = ≤_trans (≤_of_eq (ring3 ℚ_ring (λ u r p. u ⊗ (r ⊗ p) := r ⊗ (u ⊗ p)) tt (nat U) ρ (pow_q ρ n)))
      (≤_trans (≤_mul_left ρ ρ_nn (w_big n)) (w_ratio n))

  module _ (r m h : ℕ) (h-rest : h +ⁿ (q +ⁿ i) ≡ p) (m-big : w (suc r) *ⁿ p ≤ⁿ m *ⁿ (h *ⁿ suc r)) where
    -- p - q - i = p (1 - ρ)
    h_is : nat h ≡ nat p *ℚ (one_q -ℚ ρ)
    h_is = ring2 ℚ_ring (λ h s. h := (h ⊕ s) ⊝ s) tt (nat h) (nat (q +ⁿ i)) ∙ ap₂ ◌-ℚ◌ (sym (nat_add h (q +ⁿ i)) ∙ ap nat h-rest) (sym p_ρ)
        ∙ ring2 ℚ_ring (λ p r. p ⊝ p ⊗ r := p ⊗ (𝟏 ⊝ r)) tt (nat p) ρ

    w_le : nat (w (suc r)) ≤ℚ nat m *ℚ (nat (suc r) *ℚ (one_q -ℚ ρ))
    w_le = cancel p p_pos (≤_trans (≤_of_eq (ℚ_ring.mul_comm (nat p) (nat (w (suc r))) ∙ sym (nat_mul (w (suc r)) p)))
        (≤_trans (nat_le m-big) (≤_of_eq e)))
      where
        e : nat (m *ⁿ (h *ⁿ suc r)) ≡ nat p *ℚ (nat m *ℚ (nat (suc r) *ℚ (one_q -ℚ ρ)))
        e = nat_mul m (h *ⁿ suc r) ∙ ap (λ x. nat m *ℚ x) (nat_mul h (suc r) ∙ ap (λ x. x *ℚ nat (suc r)) h_is)
            ∙ ring4 ℚ_ring (λ m p u n. m ⊗ (p ⊗ u ⊗ n) := p ⊗ (m ⊗ (n ⊗ u))) tt (nat m) (nat p) (one_q -ℚ ρ) (nat (suc r))

    pub figure_big : pow_q ρ (suc r) ≤ℚ over (nat m) U *ℚ (nat (suc r) *ℚ (one_q -ℚ ρ))
    figure_big = cancel U U_pos (≤_trans (w_big (suc r)) (≤_trans w_le (≤_of_eq e)))
      where
        e : nat m *ℚ (nat (suc r) *ℚ (one_q -ℚ ρ)) ≡ nat U *ℚ (over (nat m) U *ℚ (nat (suc r) *ℚ (one_q -ℚ ρ)))
        e = ap (λ x. x *ℚ (nat (suc r) *ℚ (one_q -ℚ ρ))) (sym (over_ok (nat m) U U_pos))
            ∙ ℚ_ring.mul_assoc (nat U) (over (nat m) U) (nat (suc r) *ℚ (one_q -ℚ ρ))

pub figure_good : (U q i p M d e : ℕ) → 0 < U → Folded q i p M d e → (w : ℕ → ℕ) → w 0 ≡ U → ((n : ℕ) → w n *ⁿ (q +ⁿ i) ≤ⁿ p *ⁿ w (suc n)) →
    (r m h : ℕ) → h +ⁿ (q +ⁿ i) ≡ p → w (suc r) *ⁿ p ≤ⁿ m *ⁿ (h *ⁿ suc r) → Good r (member q i p M d e (over (nat m) U))
figure_good U q i p M d e U_pos folded w z s r m h h-rest k = member_good q i p M d e folded (over (nat m) U) r
    (figure_big U q i p U_pos p_pos w z s r m h h-rest k)
  where
    p_pos : 0 < p
    p_pos = let h : q +ⁿ i < p = folded.half in omega arith
