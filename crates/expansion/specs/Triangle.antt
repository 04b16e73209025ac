-- The exact triangle of a member with rates q and i, and p for neither: V(0, 0) = 1, V(n, l) = (q V(n-1, l-1) + i V(n-1, l)) / p (rows_q).
-- It is 0 for l > n (rows_q_beyond), for q = 0 unless l = 0 (rows_q_no_q), and for i = 0 unless l = n (rows_q_no_i).
use Rattle.std.specs.Prelude.{◌≡◌, refl, ℕ, zero, suc, ◌<◌, ◌+◌ as ◌+ⁿ◌, ◌*◌ as ◌*ⁿ◌, ◌-◌ as ◌∸◌}
use Rattle.std.proofs.Common.{◌∙◌, ap, ap₂, arith}
use Rattle.algebra.specs.Laws as L
use Rattle.algebra.specs.Solver.{ring5, ◌⊕◌, ◌⊗◌, ◌:=◌}
use Rattle.algebra.specs.Q.{ℚ, ℚ_ring, zero_q, one_q, ◌+ℚ◌, ◌*ℚ◌}
use Rattle.algebra.specs.Embedding.{nat, nat_zero}
use Rattle.algebra.specs.Quotient.{inv, over, over_zero}

-- the neighbour on the left, 0 where there is none
abbrev pub left_q : (ℕ → ℚ) → ℕ → ℚ
left_q v zero = zero_q
left_q v (suc l) = v l

unfoldable pub rows_q : ℕ → ℕ → ℕ → ℕ → ℕ → ℚ
rows_q q i p zero zero = one_q
rows_q q i p zero (suc l) = zero_q
rows_q q i p (suc n) l = over (nat q *ℚ left_q (rows_q q i p n) l +ℚ nat i *ℚ rows_q q i p n l) p

-- the place of the term (n, l)
abbrev pub term_place : ℕ → ℕ → ℕ → ℕ → ℕ
term_place d e n l = d *ⁿ l +ⁿ e *ⁿ (n ∸ l)

pub rows_q_split : (q i p n l : ℕ) → rows_q q i p (suc n) l ≡ over (nat q) p *ℚ left_q (rows_q q i p n) l +ℚ over (nat i) p *ℚ rows_q q i p n l
unfolding rows_q over
rows_q_split q i p n l = ring5 ℚ_ring (λ q i x y v. (q ⊗ x ⊕ i ⊗ y) ⊗ v := q ⊗ v ⊗ x ⊕ i ⊗ v ⊗ y)
    tt (nat q) (nat i) (left_q (rows_q q i p n) l) (rows_q q i p n l) (inv (p ∸ 1))

next_zero : (a b x y : ℚ) (p : ℕ) → a *ℚ x ≡ zero_q → b *ℚ y ≡ zero_q → over (a *ℚ x +ℚ b *ℚ y) p ≡ zero_q
next_zero a b x y p h k = ap (λ s. over s p) (ap₂ ◌+ℚ◌ h k ∙ ℚ_ring.add-zero zero_q) ∙ over_zero p

zero_left : (a b : ℚ) → a ≡ zero_q → a *ℚ b ≡ zero_q
zero_left a b h = ap (λ x. x *ℚ b) h ∙ L.zero-mul ℚ_ring b

zero_right : (a b : ℚ) → b ≡ zero_q → a *ℚ b ≡ zero_q
zero_right a b h = ap (λ x. a *ℚ x) h ∙ L.mul-zero ℚ_ring a

none : {A : Type 0} (n : ℕ) → n < 0 → A
none n g = absurd (go g)
  where
    go : n < 0 → ⊥
    go g = omega arith

pub rows_q_beyond : (q i p n l : ℕ) → n < l → rows_q q i p n l ≡ zero_q
unfolding rows_q
rows_q_beyond q i p zero zero g = none 0 g
rows_q_beyond q i p zero (suc l) g = refl
rows_q_beyond q i p (suc n) zero g = none (suc n) g
rows_q_beyond q i p (suc n) (suc l) g = next_zero (nat q) (nat i) (rows_q q i p n l) (rows_q q i p n (suc l)) p
    (zero_right (nat q) (rows_q q i p n l) (rows_q_beyond q i p n l (omega arith)))
    (zero_right (nat i) (rows_q q i p n (suc l)) (rows_q_beyond q i p n (suc l) (omega arith)))

pub rows_q_no_q : (i p n l : ℕ) → 0 < l → rows_q 0 i p n l ≡ zero_q
unfolding rows_q
rows_q_no_q i p zero zero g = none 0 g
rows_q_no_q i p zero (suc l) g = refl
rows_q_no_q i p (suc n) l g = next_zero (nat 0) (nat i) (left_q (rows_q 0 i p n) l) (rows_q 0 i p n l) p
    (zero_left (nat 0) (left_q (rows_q 0 i p n) l) nat_zero) (zero_right (nat i) (rows_q 0 i p n l) (rows_q_no_q i p n l g))

pub rows_q_no_i : (q p n l : ℕ) → l < n → rows_q q 0 p n l ≡ zero_q
unfolding rows_q
rows_q_no_i q p zero l g = none l g
rows_q_no_i q p (suc n) zero g = next_zero (nat q) (nat 0) zero_q (rows_q q 0 p n 0) p
    (zero_right (nat q) zero_q refl) (zero_left (nat 0) (rows_q q 0 p n 0) nat_zero)
rows_q_no_i q p (suc n) (suc l) g = next_zero (nat q) (nat 0) (rows_q q 0 p n l) (rows_q q 0 p n (suc l)) p
    (zero_right (nat q) (rows_q q 0 p n l) (rows_q_no_i q p n l (omega arith))) (zero_left (nat 0) (rows_q q 0 p n (suc l)) nat_zero)
