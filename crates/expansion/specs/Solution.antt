-- The sequence F with F 0 = c and x F x = Σ_{k=1..x} A k F (x - k), which is θF = A ⋆ F where A 0 = 0: there is one (solution,
-- solution_θ, solution_step), and only one (solution_unique).
use Rattle.std.specs.Prelude.{◌≡◌, refl, ℕ, zero, suc, ◌<◌, ◌≤◌ as ◌≤ⁿ◌, ◌-◌ as ◌∸◌}
use Rattle.std.proofs.Common.{sym, ◌∙◌, ap, arith}
use Rattle.std.proofs.Math.Path.{fun_ext}
use Rattle.algebra.specs.Laws as L
use Rattle.algebra.specs.History as H
use Rattle.algebra.specs.Solver.{ring2, ring3, 𝟎, ◌⊕◌, ◌⊗◌, ◌:=◌}
use Rattle.algebra.specs.Q.{ℚ, ℚ_ring, zero_q, ◌+ℚ◌, ◌*ℚ◌}
use Rattle.algebra.specs.Embedding.{nat}
use Rattle.algebra.specs.Quotient.{inv, inv_cancel}
use Rattle.algebra.specs.RationalSum.{sum, sum_first}
use Rattle.algebra.specs.PowerSeries.{Ser, ◌⋆◌, θ, product_sum, product_ext, θ_zero, Upto}

abbrev tail : Ser → Ser
tail A = λ k. A (suc k)

-- ---- one step
-- where A 0 = 0, F at the last place does not stand on the right
drop_first : (A F : Ser) (n : ℕ) → A 0 ≡ zero_q → (A ⋆ F) (suc n) ≡ (tail A ⋆ F) n
drop_first A F n z = ap (λ x. x *ℚ F (suc n) +ℚ (tail A ⋆ F) n) z ∙ ring2 ℚ_ring (λ f y. 𝟎 ⊗ f ⊕ y := y) tt (F (suc n)) ((tail A ⋆ F) n)

step_sum_lem : (A F : Ser) → A 0 ≡ zero_q → (x : ℕ) → (A ⋆ F) x ≡ sum x (λ k. A (suc k) *ℚ F (x ∸ suc k))
step_sum_lem A F z x =
    product_sum x A F
    ∙ sum_first x (λ k. A k *ℚ F (x ∸ k))
    ∙ ap (λ y. y *ℚ F (x ∸ 0) +ℚ others) z
    ∙ ring2 ℚ_ring (λ a b. 𝟎 ⊗ a ⊕ b := b) tt (F (x ∸ 0)) others
  where
    others : ℚ
    others = sum x (λ k. A (suc k) *ℚ F (x ∸ suc k))

-- the recursion as a product
pub recursion_upto : (X : ℕ) (A F : Ser) → A 0 ≡ zero_q →
    ((x : ℕ) → x ≤ⁿ X → nat x *ℚ F x ≡ sum x (λ k. A (suc k) *ℚ F (x ∸ suc k))) → Upto X (θ F) (A ⋆ F)
recursion_upto X A F z h x l = h x l ∙ sym (step_sum_lem A F z x)

-- ---- there is one
abbrev pub next : Ser → ℚ → ℕ → Ser → ℚ
next A c zero f = c
next A c (suc n) f = inv n *ℚ (tail A ⋆ f) n

pub solution : Ser → ℚ → Ser
solution A c = H.seq zero_q (next A c)

next_local : (A : Ser) (c : ℚ) (n : ℕ) (f g : Ser) → ((k : ℕ) → k < n → f k ≡ g k) → next A c n f ≡ next A c n g
next_local A c zero f g h = refl
next_local A c (suc n) f g h = ap (λ x. inv n *ℚ x) (product_ext n (tail A) (tail A) f g (λ k l. refl) (λ k l. h k (omega arith)))

pub solution_zero : (A : Ser) (c : ℚ) → solution A c 0 ≡ c
unfolding solution
solution_zero A c = H.seq_step zero_q (next A c) (next_local A c) 0

pub solution_suc : (A : Ser) (c : ℚ) (n : ℕ) → solution A c (suc n) ≡ inv n *ℚ (tail A ⋆ solution A c) n
unfolding solution
solution_suc A c n = H.seq_step zero_q (next A c) (next_local A c) (suc n)

pub solution_θ : (A : Ser) (c : ℚ) → A 0 ≡ zero_q → θ (solution A c) ≡ A ⋆ solution A c
solution_θ A c z = fun_ext go
  where
    F : Ser
    F = solution A c

    go : (n : ℕ) → θ F n ≡ (A ⋆ F) n
    go zero = θ_zero F ∙ sym (ap (λ x. x *ℚ F 0) z ∙ L.zero-mul ℚ_ring (F 0))
    go (suc n) = ap (λ x. nat (suc n) *ℚ x) (solution_suc A c n)
        ∙ ring3 ℚ_ring (λ m i y. m ⊗ (i ⊗ y) := i ⊗ (m ⊗ y)) tt (nat (suc n)) (inv n) ((tail A ⋆ F) n)
        ∙ inv_cancel n ((tail A ⋆ F) n) ∙ sym (drop_first A F n z)

pub solution_step : (A : Ser) (c : ℚ) → A 0 ≡ zero_q → (x : ℕ) → nat x *ℚ solution A c x ≡ sum x (λ k. A (suc k) *ℚ solution A c (x ∸ suc k))
solution_step A c z x = ap (λ s. s x) (solution_θ A c z) ∙ step_sum_lem A (solution A c) z x

-- ---- and only one
one_step : (A F : Ser) (n : ℕ) → A 0 ≡ zero_q → θ F (suc n) ≡ (A ⋆ F) (suc n) → F (suc n) ≡ inv n *ℚ (tail A ⋆ F) n
one_step A F n z h = sym (inv_cancel n (F (suc n))) ∙ ap (λ x. inv n *ℚ x) (h ∙ drop_first A F n z)

pub solution_unique : (X : ℕ) (A F G : Ser) → A 0 ≡ zero_q → F 0 ≡ G 0 → Upto X (θ F) (A ⋆ F) → Upto X (θ G) (A ⋆ G) → Upto X F G
solution_unique X A F G z e f g x l = go x x (omega arith) l
  where
    go : (n x : ℕ) → x ≤ⁿ n → x ≤ⁿ X → F x ≡ G x
    go zero zero k l = e
    go zero (suc x) k l = absurd (none k)
      where
        none : suc x ≤ⁿ 0 → ⊥
        none k = omega arith
    go (suc n) zero k l = e
    go (suc n) (suc x) k l = one_step A F x z (f (suc x) l)
        ∙ ap (λ y. inv x *ℚ y) (product_ext x (tail A) (tail A) F G (λ k l. refl) (λ y m. go n y (omega arith) (omega arith)))
        ∙ sym (one_step A G x z (g (suc x) l))
