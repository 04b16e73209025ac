-- The expansion's distance: for weights W that add to at most λ ≤ 8, and 7 ε ≤ 3, the mass of the exact distribution P is at most 8/7
-- (mass), and the recursion F with the cut transform has Σ_{x ≤ X} |F x - P x| ≤ 2 ε (total), so at each place too (each). Stated for
-- any number of terms K of the alternating sum with the computed test; mass_63, total_63 and each_63 are the case K = 63.
use Rattle.std.specs.Prelude.{◌≡◌, List, ℕ, suc, ◌≤◌ as ◌≤ⁿ◌, ◌-◌ as ◌∸◌, pos}
use Rattle.std.proofs.Common.{sym, ◌∙◌, ap, arith}
use Rattle.algebra.specs.Solver.{◌⊝◌, ring3, 𝟏, con, ◌⊗◌, ◌:=◌}
use Rattle.algebra.specs.Linear.{lin2, ◌≼◌, ◌⋅◌, rest, ◌∣◌, ◌⊢◌}
use Rattle.algebra.specs.Q.{ℚ, ℚ_ring, ℚ_ord, neg_q, zero_q, one_q, ◌-ℚ◌, ◌*ℚ◌, ◌≤ℚ◌, abs, ≤_trans, ≤_of_eq, ≤_mul_left, abs_nn, abs_of_nn}
use Rattle.algebra.specs.Q.{abs_mul}
use Rattle.algebra.specs.Embedding.{nat, nat_mul, nat_nn, nat_le}
use Rattle.algebra.specs.Quotient.{over, over_ok, cancel}
use Rattle.algebra.specs.RationalSum.{sum, sum_nn, sum_term}
use Rattle.algebra.specs.PowerSeries.{Ser, θ, θ_zero}
use Rattle.algebra.specs.SeriesOrder.{NonNeg, abs_s}
use Rattle.expansion.specs.Member.{Member, All, transform, distribution}
use Rattle.expansion.specs.Remainder.{Good, errors}
use Rattle.expansion.specs.Truncation.{truncation}
use Rattle.expansion.specs.Poisson.{poisson, poisson_θ}
use Rattle.expansion.specs.Exponential.{exp_term, exp_sum, exp_term_nn, exp_sum_le}
use Rattle.expansion.specs.ExponentialProduct.{Test, exp_product, test_63}
use Rattle.expansion.specs.Mass.{Share, distribution_mass}

-- the compound Poisson part: its weights, and a bound of their sum
pub record Group (W : Ser) (ƛ : ℚ) : Type 0 where
  pub W_zero : W 0 ≡ zero_q
  pub W_nn : (x : ℕ) → zero_q ≤ℚ W x
  pub W_sum : (n : ℕ) → sum n W ≤ℚ ƛ
  pub ƛ_le : ƛ ≤ℚ nat 8

-- the exact distribution
abbrev pub exact_series : ℕ → ℚ → Ser → List Member → Ser
exact_series K ƛ W ms = distribution (exp_sum K (neg_q ƛ)) (poisson W) ms

-- F is the recursion with the transform cut at order r, up to X, with the exact start
pub record Recursion (K : ℕ) (ƛ : ℚ) (W : Ser) (ms : List Member) (X r : ℕ) (F : Ser) : Type 0 where
  pub start : F 0 ≡ exact_series K ƛ W ms 0
  pub step : (x : ℕ) → x ≤ⁿ X → nat x *ℚ F x ≡ sum x (λ k. transform r ms W (suc k) *ℚ F (x ∸ suc k))

module _ (K : ℕ) (big : 64 ≤ⁿ suc K) (test : Test K) (ms : List Member) (share : All Share ms)
    (W : Ser) (ƛ : ℚ) (group : Group W ƛ) (X : ℕ) where
  abbrev P : Ser
  P = exact_series K ƛ W ms

  ƛ_nn : zero_q ≤ℚ ƛ
  ƛ_nn = group.W_sum 0

  pub mass : sum (suc X) (abs_s P) ≤ℚ over (nat 8) 7
  mass = cancel 7 (omega arith) (≤_trans seven (≤_of_eq (sym (over_ok (nat 8) 7 (omega arith)))))
    where
      s : ℚ
      s = exp_sum K (neg_q ƛ)

      e : ℚ
      e = exp_sum K ƛ

      eights : nat 8 *ℚ ƛ ≤ℚ nat (suc K)
      eights = ≤_trans (≤_mul_left (nat 8) (nat_nn 8) group.ƛ_le) (≤_trans (≤_of_eq (sym (nat_mul 8 8))) (nat_le big))

      e_nn : zero_q ≤ℚ e
      e_nn = sum_nn (suc K) (exp_term ƛ) (exp_term_nn ƛ ƛ_nn)

      bounds : (zero_q ≤ℚ s *ℚ e) × (s *ℚ e ≤ℚ one_q)
      bounds = exp_product K test ƛ ƛ_nn group.ƛ_le

      se : abs s *ℚ e ≤ℚ one_q
      se = ≤_trans (≤_of_eq (ap (λ x. abs s *ℚ x) (sym (abs_of_nn e e_nn)) ∙ sym (abs_mul s e) ∙ abs_of_nn (s *ℚ e) bounds.0)) bounds.1

      seven : nat 7 *ℚ sum (suc X) (abs_s P) ≤ℚ nat 8
      seven =
          ≤_trans (≤_mul_left (nat 7) (nat_nn 7) (distribution_mass s W ƛ ms share group.W_zero group.W_nn ƛ_nn (suc X)
          (group.W_sum (suc X))))
          (≤_trans (≤_of_eq (ring3 ℚ_ring (λ a s x. a ⊗ (s ⊗ x) := s ⊗ (a ⊗ x)) tt (nat 7) (abs s) (exp_sum X ƛ)))
          (≤_trans (≤_mul_left (abs s) (abs_nn s) (exp_sum_le K ƛ ƛ_nn eights X))
          (≤_trans (≤_of_eq (ring3 ℚ_ring (λ a s x. s ⊗ (a ⊗ x) := a ⊗ (s ⊗ x)) tt (nat 8) (abs s) e))
          (≤_trans (≤_mul_left (nat 8) (nat_nn 8) se) (≤_of_eq (ℚ_ring.mul-one (nat 8)))))))

  module _ (r : ℕ) (good : All (Good r) ms) (F : Ser) (recursion : Recursion K ƛ W ms X r F)
      (ε : ℚ) (ε-le : errors ms ≤ℚ ε) (ε-small : nat 7 *ℚ ε ≤ℚ nat 3) where
    abbrev distance : Ser
    distance = λ x. abs (F x -ℚ P x)

    distance_nn : NonNeg distance
    distance_nn x = abs_nn (F x -ℚ P x)

    pub total : sum (suc X) distance ≤ℚ nat 2 *ℚ ε
    total = cancel 4 (omega arith) (≤_trans four (≤_of_eq (ap (λ x. x *ℚ ε) (nat_mul 4 2) ∙ ℚ_ring.mul_assoc (nat 4) (nat 2) ε)))
      where
        D : ℚ
        D = sum (suc X) distance

        κ : ℚ
        κ = over (nat 8) 7

        ε_one : ε ≤ℚ one_q
        ε_one = cancel 7 (omega arith) (≤_trans ε-small (≤_trans (nat_le (omega arith)) (≤_of_eq (sym (ℚ_ring.mul-one (nat 7))))))

        cut : (one_q -ℚ ε) *ℚ D ≤ℚ κ *ℚ ε
        cut = truncation r X ms good (exp_sum K (neg_q ƛ)) (poisson W) (θ W) (θ_zero W) (poisson_θ W group.W_zero) F
            recursion.start recursion.step ε κ ε-le ε_one mass

        seven : nat 7 *ℚ ((one_q -ℚ ε) *ℚ D) ≤ℚ nat 8 *ℚ ε
        seven = ≤_trans (≤_mul_left (nat 7) (nat_nn 7) cut)
            (≤_of_eq (sym (ℚ_ring.mul_assoc (nat 7) κ ε) ∙ ap (λ x. x *ℚ ε) (over_ok (nat 8) 7 (omega arith))))

        four : nat 4 *ℚ D ≤ℚ nat 8 *ℚ ε
        four = lin2 ℚ_ring ℚ_ord (λ d e. 1 ⋅ d ⊗ (con (pos 7) ⊗ e) ≼ d ⊗ con (pos 3)
            ∣ 1 ⋅ con (pos 7) ⊗ ((𝟏 ⊝ e) ⊗ d) ≼ con (pos 8) ⊗ e ∣ rest 0 ⊢ con (pos 4) ⊗ d ≼ con (pos 8) ⊗ e) tt
            D ε (≤_mul_left D (sum_nn (suc X) distance distance_nn) ε-small, (seven, tt))

    pub each : (x : ℕ) → x ≤ⁿ X → abs (F x -ℚ P x) ≤ℚ nat 2 *ℚ ε
    each x l = ≤_trans (sum_term (suc X) x distance distance_nn (omega arith)) total

-- ---- 63 terms
pub mass_63 : (ms : List Member) → All Share ms → (W : Ser) (ƛ : ℚ) → Group W ƛ → (X : ℕ) →
    sum (suc X) (abs_s (exact_series 63 ƛ W ms)) ≤ℚ over (nat 8) 7
mass_63 = mass 63 (omega arith) test_63

pub total_63 : (ms : List Member) → All Share ms → (W : Ser) (ƛ : ℚ) → Group W ƛ → (X r : ℕ) → All (Good r) ms → (F : Ser) →
    Recursion 63 ƛ W ms X r F →
    (ε : ℚ) → errors ms ≤ℚ ε → nat 7 *ℚ ε ≤ℚ nat 3 → sum (suc X) (λ x. abs (F x -ℚ exact_series 63 ƛ W ms x)) ≤ℚ nat 2 *ℚ ε
total_63 = total 63 (omega arith) test_63

pub each_63 : (ms : List Member) → All Share ms → (W : Ser) (ƛ : ℚ) → Group W ƛ → (X r : ℕ) → All (Good r) ms → (F : Ser) →
    Recursion 63 ƛ W ms X r F →
    (ε : ℚ) → errors ms ≤ℚ ε → nat 7 *ℚ ε ≤ℚ nat 3 → (x : ℕ) → x ≤ⁿ X → abs (F x -ℚ exact_series 63 ƛ W ms x) ≤ℚ nat 2 *ℚ ε
each_63 = each 63 (omega arith) test_63
