-- Power series over a commutative ring, as sequences, and their Cauchy product, by recursion on the place, without subtraction:
-- commutative, associative, distributive, product_sum (it is the sum over k ≤ n of P k * Q (n - k)), and leibniz.
use Rattle.std.specs.Prelude.{◌≡◌, refl, ℕ, zero, suc, ◌≤◌, ◌-◌ as ◌∸◌, pos}
use Rattle.std.proofs.Common.{sym, ◌∙◌, ap, ap₂, arith}
use Rattle.algebra.specs.Ring.{CRing}
use Rattle.algebra.specs.Laws as L
use Rattle.algebra.specs.Solver.{con, 𝟏, ◌⊕◌, ◌⊗◌, ◌:=◌, nat, nat_suc, ring2, ring4, ring5, ring6}
use Rattle.algebra.specs.Sum as S

module _ (R : CRing) where
  infixl 6 ◌+◌
  infixl 7 ◌*◌
  open R use {Carrier, add as ◌+◌, mul as ◌*◌, add_comm, mul_assoc, mul_comm}

  abbrev pub Ser : Type 0
  Ser = ℕ → Carrier

  abbrev pub tail : Ser → Ser
  tail P n = P (suc n)

  -- the Cauchy product, by recursion on the index, with no subtraction
  abbrev pub product : Ser → Ser → Ser
  product P Q zero = P 0 * Q 0
  product P Q (suc n) = P 0 * Q (suc n) + product (λ k. P (suc k)) Q n

  -- it is the sum over k ≤ n of P k * Q (n - k)
  pub product_sum : (n : ℕ) (P Q : Ser) → product P Q n ≡ S.sum R (suc n) (λ k. P k * Q (n ∸ k))
  product_sum zero P Q = sym (L.zero-add R (P 0 * Q 0))
  product_sum (suc n) P Q =
      ap (λ x. P 0 * Q (suc n) + x) (product_sum n (tail P) Q
      ∙ S.sum_ext R (suc n) (λ k. P (suc k) * Q (n ∸ k)) (λ k. P (suc k) * Q (suc n ∸ suc k)) (λ k l. ap (λ x. P (suc k) * Q x) (e₂ k)))
      ∙ ap (λ x. P 0 * Q x + S.sum R (suc n) (λ k. P (suc k) * Q (suc n ∸ suc k))) e₁
      ∙ sym (S.sum_first R (suc n) (λ k. P k * Q (suc n ∸ k)))
    where
      e₁ : suc n ≡ suc n ∸ 0
      e₁ = omega arith

      e₂ : (k : ℕ) → n ∸ k ≡ suc n ∸ suc k
      e₂ k = omega arith

  pub product_add : (n : ℕ) (P P' Q : Ser) → product (λ k. P k + P' k) Q n ≡ product P Q n + product P' Q n
  product_add zero P P' Q = L.distrib' R (P 0) (P' 0) (Q 0)
  product_add (suc n) P P' Q =
      ap (λ x. (P 0 + P' 0) * Q (suc n) + x) (product_add n (tail P) (tail P') Q)
      ∙ ring5 R (λ p p' q x y. (p ⊕ p') ⊗ q ⊕ (x ⊕ y) := p ⊗ q ⊕ x ⊕ (p' ⊗ q ⊕ y))
      tt (P 0) (P' 0) (Q (suc n)) (product (tail P) Q n) (product (tail P') Q n)

  pub product_scale : (n : ℕ) (c : Carrier) (P Q : Ser) → product (λ k. c * P k) Q n ≡ c * product P Q n
  product_scale zero c P Q = mul_assoc c (P 0) (Q 0)
  product_scale (suc n) c P Q =
      ap (λ x. c * P 0 * Q (suc n) + x) (product_scale n c (tail P) Q)
      ∙ ring4 R (λ c p q x. c ⊗ p ⊗ q ⊕ c ⊗ x := c ⊗ (p ⊗ q ⊕ x)) tt c (P 0) (Q (suc n)) (product (tail P) Q n)

  pub product_assoc : (n : ℕ) (P Q T : Ser) → product (product P Q) T n ≡ product P (product Q T) n
  product_assoc zero P Q T = mul_assoc (P 0) (Q 0) (T 0)
  product_assoc (suc n) P Q T =
      ap (λ x. P 0 * Q 0 * T (suc n) + x)
      (product_add n (λ k. P 0 * Q (suc k)) (product (tail P) Q) T
      ∙ ap₂ ◌+◌ (product_scale n (P 0) (tail Q) T) (product_assoc n (tail P) Q T))
      ∙ ring5 R (λ p q t x y. p ⊗ q ⊗ t ⊕ (p ⊗ x ⊕ y) := p ⊗ (q ⊗ t ⊕ x) ⊕ y)
      tt (P 0) (Q 0) (T (suc n)) (product (tail Q) T n) (product (tail P) (product Q T) n)

  -- the last summand split off
  pub product_last : (n : ℕ) (P Q : Ser) → product P Q (suc n) ≡ P (suc n) * Q 0 + product P (tail Q) n
  product_last zero P Q = add_comm (P 0 * Q 1) (P 1 * Q 0)
  product_last (suc n) P Q =
      ap (λ x. P 0 * Q (suc (suc n)) + x) (product_last n (tail P) Q)
      ∙ L.add_left_comm R (P 0 * Q (suc (suc n))) (P (suc (suc n)) * Q 0) (product (tail P) (tail Q) n)

  pub product_comm : (n : ℕ) (P Q : Ser) → product P Q n ≡ product Q P n
  product_comm zero P Q = mul_comm (P 0) (Q 0)
  product_comm (suc n) P Q =
      ap₂ ◌+◌ (mul_comm (P 0) (Q (suc n))) (product_comm n (tail P) Q)
      ∙ sym (product_last n Q P)

  pub product_ext : (n : ℕ) (P P' Q Q' : Ser) → ((k : ℕ) → k ≤ n → P k ≡ P' k) → ((k : ℕ) → k ≤ n → Q k ≡ Q' k) →
      product P Q n ≡ product P' Q' n
  product_ext zero P P' Q Q' h g = ap₂ ◌*◌ (h 0 (omega arith)) (g 0 (omega arith))
  product_ext (suc n) P P' Q Q' h g = ap₂ ◌+◌ (ap₂ ◌*◌ (h 0 (omega arith)) (g (suc n) (omega arith)))
      (product_ext n (tail P) (tail P') Q Q' (λ k l. h (suc k) (omega arith)) (λ k l. g k (omega arith)))

  -- Leibniz: n (P Q)_n = (θP Q)_n + (P θQ)_n, with (θP)_n = n P_n
  abbrev pub theta : Ser → Ser
  theta P n = nat R n * P n

  theta_tail : (P : Ser) (k : ℕ) → nat R (suc k) * P (suc k) ≡ nat R k * P (suc k) + P (suc k)
  theta_tail P k = ap (λ x. x * P (suc k)) (nat_suc R k) ∙ ring2 R (λ a p. (a ⊕ 𝟏) ⊗ p := a ⊗ p ⊕ p) tt (nat R k) (P (suc k))

  pub leibniz : (n : ℕ) (P Q : Ser) → nat R n * product P Q n ≡ product (theta P) Q n + product P (theta Q) n
  leibniz zero P Q = ring2 R (λ p q. con (pos 0) ⊗ (p ⊗ q) := con (pos 0) ⊗ p ⊗ q ⊕ p ⊗ (con (pos 0) ⊗ q)) tt (P 0) (Q 0)
  leibniz (suc n) P Q =
      ap (λ x. x * (P 0 * Q (suc n) + c)) (nat_suc R n)
      ∙ ring4 R (λ m p q c. (m ⊕ 𝟏) ⊗ (p ⊗ q ⊕ c) := (m ⊕ 𝟏) ⊗ (p ⊗ q) ⊕ (m ⊗ c ⊕ c)) tt (nat R n) (P 0) (Q (suc n)) c
      ∙ ap₂ (λ x y. x * (P 0 * Q (suc n)) + (y + c)) (sym (nat_suc R n)) (leibniz n (tail P) Q)
      ∙ ring6 R (λ m p q a b c. m ⊗ (p ⊗ q) ⊕ ((a ⊕ b) ⊕ c) := (con (pos 0) ⊗ p ⊗ q ⊕ (a ⊕ c)) ⊕ (p ⊗ (m ⊗ q) ⊕ b))
      tt (nat R (suc n)) (P 0) (Q (suc n)) (product (theta (tail P)) Q n) (product (tail P) (theta Q) n) c
      ∙ ap (λ x. (nat R 0 * P 0 * Q (suc n) + x) + (P 0 * (nat R (suc n) * Q (suc n)) + product (tail P) (theta Q) n))
      (sym (product_add n (theta (tail P)) (tail P) Q)
      ∙ product_ext n (λ k. theta (tail P) k + tail P k) (λ k. theta P (suc k)) Q Q (λ k l. sym (theta_tail P k)) (λ k l. refl))
    where
      c : Carrier
      c = product (tail P) Q n
