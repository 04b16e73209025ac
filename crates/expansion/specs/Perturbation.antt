-- A change of the transform: P obeys θP = A ⋆ P and F obeys θF = (A - θt) ⋆ F, both up to X, with the same start. Then F = P ⋆ G with
-- θG = -θt ⋆ G, and with |t| ≤ τ and ε at least the sum of τ: (1 - ε) Σ |F - P| ≤ ε Σ |P| (perturbed_distance).
use Rattle.std.specs.Prelude.{◌≡◌, refl, ℕ, zero, suc, ◌<◌, ◌≤◌ as ◌≤ⁿ◌}
use Rattle.std.proofs.Common.{sym, ◌∙◌, ap, ap₂, arith}
use Rattle.algebra.specs.Laws as L
use Rattle.algebra.specs.Solver.{◌⊝◌, ring1, ring2, ring3, ring4, 𝟎, 𝟏, ◌⊕◌, ◌⊗◌, ◌:=◌}
use Rattle.algebra.specs.Linear.{lin4, ◌≼◌, ◌⋅◌, rest, ◌∣◌, ◌⊢◌}
use Rattle.algebra.specs.Q.{ℚ, ℚ_ring, ℚ_ord, neg_q, zero_q, one_q, ◌+ℚ◌, ◌-ℚ◌, ◌*ℚ◌, ◌≤ℚ◌, abs, ≤_refl, ≤_trans, ≤_of_eq, ≤_mul_left}
use Rattle.algebra.specs.Q.{≤_mul_right, mul_nn, sub_nn, ≤_nn_add, abs_nn, abs_of_nn, abs_neg, abs_scale, abs_zero_le, abs_add_le}
use Rattle.algebra.specs.Q.{abs_subst}
use Rattle.algebra.specs.Embedding.{nat, nat_nn, nat_le}
use Rattle.algebra.specs.Quotient.{inv, inv_nn, inv_cancel}
use Rattle.algebra.specs.RationalSum.{sum, sum_add, sum_mono, sum_nn}
use Rattle.algebra.specs.PowerSeries.{Ser, 𝕊, ◌⋆◌, ◌⊞◌, minus, θ, one_s, product_scale, θ_zero, θ_mul, Upto, upto_of_eq, upto_trans}
use Rattle.algebra.specs.PowerSeries.{upto_add, upto_mul}
use Rattle.algebra.specs.SeriesOrder.{NonNeg, one_series_nn, product_mono, sum_product, sum_one, abs_s, abs_series_nn, product_abs}
use Rattle.expansion.specs.Solution.{solution, solution_zero, solution_suc, solution_θ, solution_unique}

module _ (t τ : Ser) (small : (k : ℕ) → abs (t k) ≤ℚ τ k) where
  abbrev Y : Ser
  Y = minus (θ t)

  -- G 0 = 1, x G x = - Σ k t_k G (x - k)
  abbrev G : Ser
  G = solution Y one_q

  abbrev E : Ser
  E = G ⊞ minus one_s

  τ_nn : NonNeg τ
  τ_nn x = ≤_trans (abs_nn (t x)) (small x)

  Y_zero : Y 0 ≡ zero_q
  Y_zero = ap neg_q (θ_zero t) ∙ L.neg_zero ℚ_ring

  Y_le : (n k : ℕ) → k ≤ⁿ n → abs (Y k) ≤ℚ nat n *ℚ τ k
  Y_le n k l = ≤_trans (≤_of_eq (abs_neg (nat k *ℚ t k) ∙ abs_scale (nat k) (t k) (nat_nn k)))
      (≤_trans (≤_mul_left (nat k) (nat_nn k) (small k)) (≤_mul_right (τ k) (τ_nn k) (nat_le l)))

  -- |G x| ≤ Σ τ_k |G (x - k)|, because k ≤ x
  G_le : (n : ℕ) → abs (G (suc n)) ≤ℚ (τ ⋆ abs_s G) (suc n)
  G_le n =
      ≤_trans (≤_of_eq (ap abs (solution_suc Y one_q n) ∙ abs_scale (inv n) ((Y' ⋆ G) n) (inv_nn n)))
      (≤_trans (≤_mul_left (inv n) (inv_nn n) (≤_trans (product_abs n Y' G)
      (product_mono n (abs_s Y') (λ k. nat (suc n) *ℚ τ' k) (abs_s G) (λ k l. Y_le (suc n) (suc k) (omega arith)) (abs_series_nn G))))
      (≤_trans (≤_of_eq (ap (λ x. inv n *ℚ x) (product_scale n (nat (suc n)) τ' (abs_s G)) ∙ inv_cancel n ((τ' ⋆ abs_s G) n)))
      (≤_nn_add (mul_nn (τ_nn 0) (abs_nn (G (suc n)))))))
    where
      Y' : Ser
      Y' = λ k. Y (suc k)

      τ' : Ser
      τ' = λ k. τ (suc k)

  E_le : (n : ℕ) → abs (E n) ≤ℚ (τ ⋆ abs_s G) n
  E_le zero = abs_subst (sym (ap (λ x. x -ℚ one_q) (solution_zero Y one_q) ∙ ℚ_ring.add_neg one_q)) (abs_zero_le (mul_nn (τ_nn 0) (abs_nn (G 0))))
  E_le (suc n) = abs_subst (ring1 ℚ_ring (λ a. a := a ⊝ 𝟎) tt (G (suc n))) (G_le n)

  G_split : (n : ℕ) → abs (G n) ≤ℚ one_s n +ℚ abs (E n)
  G_split n = abs_subst (ring2 ℚ_ring (λ g o. o ⊕ (g ⊝ o) := g) tt (G n) (one_s n))
      (abs_add_le (one_s n) (E n) (one_s n) (abs (E n)) (≤_of_eq (abs_of_nn (one_s n) (one_series_nn n))) (≤_refl (abs (E n))))

  -- (1 - ε) Σ |E| ≤ ε
  E_sum : (X : ℕ) (ε : ℚ) → sum (suc X) τ ≤ℚ ε → (one_q -ℚ ε) *ℚ sum (suc X) (abs_s E) ≤ℚ ε
  E_sum X ε h = lin4 ℚ_ring ℚ_ord (λ ε d ed es. 1 ⋅ d ≼ es ∣ 1 ⋅ es ≼ ε ⊗ (𝟏 ⊕ d) ∣ rest 0 ⊢ (𝟏 ⊝ ε) ⊗ d ≼ ε) tt ε D (ε *ℚ D) (ε *ℚ S)
      (D_le, (≤_mul_left ε ε_nn S_le, tt))
    where
      D : ℚ
      D = sum (suc X) (abs_s E)

      S : ℚ
      S = sum (suc X) (abs_s G)

      ε_nn : zero_q ≤ℚ ε
      ε_nn = ≤_trans (sum_nn (suc X) τ τ_nn) h

      D_le : D ≤ℚ ε *ℚ S
      D_le = ≤_trans (sum_mono (suc X) (abs_s E) (τ ⋆ abs_s G) (λ k l. E_le k))
          (≤_trans (sum_product (suc X) τ (abs_s G) τ_nn (abs_series_nn G)) (≤_mul_right S (sum_nn (suc X) (abs_s G) (abs_series_nn G)) h))

      S_le : S ≤ℚ one_q +ℚ D
      S_le = ≤_trans (sum_mono (suc X) (abs_s G) (one_s ⊞ abs_s E) (λ k l. G_split k))
          (≤_of_eq (sum_add (suc X) one_s (abs_s E) ∙ ap (λ x. x +ℚ D) (sum_one X)))

  module _ (X : ℕ) (A P F : Ser) (A_zero : A 0 ≡ zero_q) (P_eq : Upto X (θ P) (A ⋆ P))
      (F-zero : F 0 ≡ P 0) (F-eq : Upto X (θ F) ((A ⊞ Y) ⋆ F)) where
    PG_eq : Upto X (θ (P ⋆ G)) ((A ⊞ Y) ⋆ (P ⋆ G))
    PG_eq = upto_trans (upto_of_eq X (θ_mul P G))
        (upto_trans (upto_add (upto_mul X (θ P) (A ⋆ P) G G P_eq (λ x l. refl)) (upto_of_eq X (ap (λ x. P ⋆ x) (solution_θ Y one_q Y_zero))))
        (upto_of_eq X (ring4 𝕊 (λ a p y g. (a ⊗ p) ⊗ g ⊕ p ⊗ (y ⊗ g) := (a ⊕ y) ⊗ (p ⊗ g)) tt A P Y G)))

    F_is : Upto X F (P ⋆ G)
    F_is = solution_unique X (A ⊞ Y) F (P ⋆ G) (ap₂ ◌+ℚ◌ A_zero Y_zero ∙ L.zero-add ℚ_ring zero_q)
        (F-zero ∙ sym (ap (λ x. P 0 *ℚ x) (solution_zero Y one_q) ∙ ℚ_ring.mul-one (P 0))) F-eq PG_eq

    difference : (x : ℕ) → x < suc X → abs (F x -ℚ P x) ≤ℚ (abs_s P ⋆ abs_s E) x
    difference x l = abs_subst (sym (ap (λ y. y -ℚ P x) (F_is x (omega arith))
        ∙ ap (λ s. s x) (ring2 𝕊 (λ p g. p ⊗ g ⊝ p := p ⊗ (g ⊝ 𝟏)) tt P G))) (product_abs x P E)

    pub perturbed_distance : (ε κ : ℚ) → sum (suc X) τ ≤ℚ ε → ε ≤ℚ one_q → sum (suc X) (abs_s P) ≤ℚ κ →
        (one_q -ℚ ε) *ℚ sum (suc X) (λ x. abs (F x -ℚ P x)) ≤ℚ κ *ℚ ε
    perturbed_distance ε κ h h₁ k =
        ≤_trans (≤_mul_left (one_q -ℚ ε) (sub_nn h₁) (≤_trans (sum_mono (suc X) (λ x. abs (F x -ℚ P x)) (abs_s P ⋆ abs_s E) difference)
        (≤_trans (sum_product (suc X) (abs_s P) (abs_s E) (abs_series_nn P) (abs_series_nn E))
        (≤_mul_right D (sum_nn (suc X) (abs_s E) (abs_series_nn E)) k))))
        (≤_trans (≤_of_eq (ring3 ℚ_ring (λ u k d. u ⊗ (k ⊗ d) := k ⊗ (u ⊗ d)) tt (one_q -ℚ ε) κ D))
        (≤_mul_left κ (≤_trans (sum_nn (suc X) (abs_s P) (abs_series_nn P)) k) (E_sum X ε h)))
      where
        D : ℚ
        D = sum (suc X) (abs_s E)
