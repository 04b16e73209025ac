-- The compound Poisson part from below: with weights that reach λ below B, the n-th power reaches λⁿ below n B + 1, so the sum of
-- poisson W is at least Σ λⁿ / n! for n to K once it is as long as the K-th power (poisson_reach).
use Rattle.std.specs.Prelude.{◌≡◌, ℕ, zero, suc, ◌<◌, ◌+◌ as ◌+ⁿ◌, ◌≤◌ as ◌≤ⁿ◌}
use Rattle.std.proofs.Common.{sym, ◌∙◌, arith}
use Rattle.algebra.specs.Q.{ℚ, zero_q, ◌*ℚ◌, ◌≤ℚ◌, ≤_trans, ≤_of_eq, ≤_mul_left, mul_mono, mul_nn}
use Rattle.algebra.specs.RationalSum.{sum, sum_ext, sum_mul, sum_swap, sum_mono, sum_nn, sum_grow}
use Rattle.algebra.specs.Power.{pow_q, ifact, ifact_nn}
use Rattle.algebra.specs.PowerSeries.{Ser, pow}
use Rattle.algebra.specs.SeriesOrder.{NonNeg, pow_nn, product_sum_ge, sum_one}
use Rattle.expansion.specs.Poisson.{exp_s, poisson, exp_poisson}
use Rattle.expansion.specs.Exponential.{exp_sum}

-- n B + 1: how far the n-th power of weights below B goes
abbrev pub far : ℕ → ℕ → ℕ
far B zero = 1
far B (suc n) = B +ⁿ far B n

far_le : (B n K : ℕ) → n ≤ⁿ K → far B n ≤ⁿ far B K
far_le B zero zero l = omega arith
far_le B zero (suc K) l = let h = far_le B zero K (omega arith) in omega arith
far_le B (suc n) zero l = absurd (omega arith)
far_le B (suc n) (suc K) l = let h = far_le B n K (omega arith) in omega arith

far_long : (B K : ℕ) → 0 < B → suc K ≤ⁿ far B K
far_long B zero l = omega arith
far_long B (suc K) l = let h = far_long B K l in omega arith

module _ (W : Ser) (ƛ : ℚ) (B : ℕ) (W_zero : W 0 ≡ zero_q) (W_nn : NonNeg W) (ƛ_nn : zero_q ≤ℚ ƛ) (reach : ƛ ≤ℚ sum B W) where
  pow_reach : (n : ℕ) → pow_q ƛ n ≤ℚ sum (far B n) (pow W n)
  pow_reach zero = ≤_of_eq (sym (sum_one 0))
  pow_reach (suc n) = ≤_trans (mul_mono ƛ_nn (sum_nn (far B n) (pow W n) (pow_nn n W W_nn)) reach (pow_reach n))
      (product_sum_ge B (far B n) W (pow W n) W_nn (pow_nn n W W_nn))

  pub poisson_reach : (K Y : ℕ) → 0 < B → far B K ≤ⁿ Y → exp_sum K ƛ ≤ℚ sum Y (poisson W)
  poisson_reach K Y b l =
      ≤_trans (sum_mono (suc K) (λ n. ifact n *ℚ pow_q ƛ n) (λ n. sum Y (term n)) each)
      (≤_trans (sum_grow (suc K) Y (λ n. sum Y (term n)) (λ n. sum_nn Y (term n) (term_nn n)) (omega (arith, far_long B K b)))
      (≤_of_eq (sum_swap Y Y term ∙ sum_ext Y (exp_s W Y) (poisson W) (λ x h. exp_poisson W W_zero Y x h))))
    where
      term : ℕ → ℕ → ℚ
      term n x = ifact n *ℚ pow W n x

      term_nn : (n x : ℕ) → zero_q ≤ℚ term n x
      term_nn n x = mul_nn (ifact_nn n) (pow_nn n W W_nn x)

      each : (n : ℕ) → n < suc K → ifact n *ℚ pow_q ƛ n ≤ℚ sum Y (term n)
      each n h = ≤_trans (≤_mul_left (ifact n) (ifact_nn n) (≤_trans (pow_reach n) (sum_grow (far B n) Y (pow W n) (pow_nn n W W_nn) (omega (arith, far_le B n K (omega arith))))))
          (≤_of_eq (sym (sum_mul Y (ifact n) (pow W n))))
