-- The recursion with each logarithm cut at order r, against the exact distribution P: with ε the sum of the members' e and κ the
-- mass of P, (1 - ε) Σ_{x ≤ X} |F x - P x| ≤ κ ε (truncation). The exact recursion has its logarithms cut at r + X.
use Rattle.std.specs.Prelude.{◌≡◌, List, ℕ, suc, ◌≤◌ as ◌≤ⁿ◌, ◌+◌ as ◌+ⁿ◌, ◌-◌ as ◌∸◌}
use Rattle.std.proofs.Common.{sym, ◌∙◌, ap, ap₂, subst, arith}
use Rattle.algebra.specs.Laws as L
use Rattle.algebra.specs.Solver.{◌⊝◌, ring3, ◌⊕◌, ◌:=◌}
use Rattle.algebra.specs.Q.{ℚ, ℚ_ring, zero_q, one_q, ◌+ℚ◌, ◌-ℚ◌, ◌*ℚ◌, ◌≤ℚ◌, abs, ≤_trans}
use Rattle.algebra.specs.Embedding.{nat}
use Rattle.algebra.specs.RationalSum.{sum}
use Rattle.algebra.specs.PowerSeries.{Ser, 𝕊, ◌⋆◌, ◌⊞◌, minus, θ, θ_zero, θ_add, Upto}
use Rattle.algebra.specs.SeriesOrder.{abs_s}
use Rattle.expansion.specs.Solution.{recursion_upto}
use Rattle.expansion.specs.Member.{Member, All, logs, distribution, distribution_upto}
use Rattle.expansion.specs.Remainder.{Good, remainders, majorants, errors, none_at_zero, logs_split, remainders_le, majorants_le}
use Rattle.expansion.specs.Perturbation.{perturbed_distance}

module _ (r X : ℕ) (ms : List Member) (good : All (Good r) ms) (s : ℚ) (Q B : Ser) (B-zero : B 0 ≡ zero_q) (Q-eq : θ Q ≡ B ⋆ Q) where
  abbrev P : Ser
  P = distribution s Q ms

  -- what the cut leaves out up to X, the exact transform and the cut one
  abbrev t : Ser
  t = remainders r X ms

  abbrev A : Ser
  A = θ (logs (r +ⁿ X) ms) ⊞ B

  abbrev A' : Ser
  A' = θ (logs r ms) ⊞ B

  A_zero : A 0 ≡ zero_q
  A_zero = ap₂ ◌+ℚ◌ (θ_zero (logs (r +ⁿ X) ms)) B-zero ∙ L.zero-add ℚ_ring zero_q

  A'_zero : A' 0 ≡ zero_q
  A'_zero = ap₂ ◌+ℚ◌ (θ_zero (logs r ms)) B-zero ∙ L.zero-add ℚ_ring zero_q

  A'_is : A' ≡ A ⊞ minus (θ t)
  A'_is = ring3 𝕊 (λ l c b. l ⊕ b := ((l ⊕ c) ⊕ b) ⊝ c) tt (θ (logs r ms)) (θ t) B
      ∙ ap (λ x. (x ⊞ B) ⊞ minus (θ t)) (sym (ap θ (logs_split r X ms) ∙ θ_add (logs r ms) t))

  P_eq : Upto X (θ P) (A ⋆ P)
  P_eq x l = distribution_upto (r +ⁿ X) s Q B ms (none_at_zero r ms good) (λ y _. ap (λ q. q y) Q-eq) x (omega arith)

  pub truncation : (F : Ser) → F 0 ≡ P 0 → ((x : ℕ) → x ≤ⁿ X → nat x *ℚ F x ≡ sum x (λ k. A' (suc k) *ℚ F (x ∸ suc k))) →
      (ε κ : ℚ) → errors ms ≤ℚ ε → ε ≤ℚ one_q → sum (suc X) (abs_s P) ≤ℚ κ → (one_q -ℚ ε) *ℚ sum (suc X) (λ x. abs (F x -ℚ P x)) ≤ℚ κ *ℚ ε
  truncation F z h ε κ e e₁ k = perturbed_distance t (majorants r X ms) (remainders_le r X ms good) X A P F A_zero P_eq z
      (subst (λ a. Upto X (θ F) (a ⋆ F)) A'_is (recursion_upto X A' F A'_zero h)) ε κ (≤_trans (majorants_le r X ms good (suc X)) e) e₁ k
