-- Leaving ℚ: a distance of two quotients against a quotient, multiplied out in whole numbers (clear_denominators).
use Rattle.std.specs.Prelude.{◌≡◌, ℕ, ◌<◌, ◌*◌ as ◌*ⁿ◌, ◌≤◌ as ◌≤ⁿ◌, ℤ, pos, nat_abs, ◌-ℤ◌, ◌*ℤ◌}
use Rattle.std.proofs.Common.{sym, ◌∙◌, ap, ap₂}
use Rattle.algebra.specs.Solver.{◌⊗◌, ◌⊝◌, ◌:=◌, ring3, ring4}
use Rattle.algebra.specs.Q.{ℚ, ℚ_ring, zero_q, ◌-ℚ◌, ◌*ℚ◌, ◌≤ℚ◌, abs, ≤_trans, ≤_of_eq, ≤_mul_left, mul_nn, abs_scale}
use Rattle.algebra.specs.Embedding.{ofℤ, nat, ofℤ_sub, ofℤ_mul, nat_mul, nat_nn, nat_reflect, abs_ofℤ}
use Rattle.algebra.specs.Quotient.{over, over_ok}

pub clear_denominators : (a b : ℤ) (c N M K : ℕ) → 0 < N → 0 < M → 0 < K →
    abs (over (ofℤ a) N -ℚ over (ofℤ b) M) ≤ℚ over (nat c) K → nat_abs (a *ℤ pos M -ℤ b *ℤ pos N) *ⁿ K ≤ⁿ c *ⁿ (N *ⁿ M)
clear_denominators a b c N M K hN hM hK h = nat_reflect (nat_abs d *ⁿ K) (c *ⁿ (N *ⁿ M))
    (≤_trans (≤_of_eq left) (≤_trans (≤_mul_left (nat K) (nat_nn K) (≤_mul_left u u_nn h)) (≤_of_eq right)))
  where
    d : ℤ
    d = a *ℤ pos M -ℤ b *ℤ pos N

    u : ℚ
    u = nat N *ℚ nat M

    x : ℚ
    x = over (ofℤ a) N

    y : ℚ
    y = over (ofℤ b) M

    u_nn : zero_q ≤ℚ u
    u_nn = mul_nn (nat_nn N) (nat_nn M)

    difference : ofℤ d ≡ u *ℚ (x -ℚ y)
    difference = ofℤ_sub (a *ℤ pos M) (b *ℤ pos N) ∙ ap₂ ◌-ℚ◌ (ofℤ_mul a (pos M)) (ofℤ_mul b (pos N))
        ∙ ap₂ (λ s t. s *ℚ nat M -ℚ t *ℚ nat N) (sym (over_ok (ofℤ a) N hN)) (sym (over_ok (ofℤ b) M hM))
        ∙ ring4 ℚ_ring (λ n m x y. n ⊗ x ⊗ m ⊝ m ⊗ y ⊗ n := n ⊗ m ⊗ (x ⊝ y)) tt (nat N) (nat M) x y

    left : nat (nat_abs d *ⁿ K) ≡ nat K *ℚ (u *ℚ abs (x -ℚ y))
    left = nat_mul (nat_abs d) K ∙ ap (λ s. s *ℚ nat K) (sym (abs_ofℤ d) ∙ ap abs difference ∙ abs_scale u (x -ℚ y) u_nn)
        ∙ ℚ_ring.mul_comm (u *ℚ abs (x -ℚ y)) (nat K)

    right : nat K *ℚ (u *ℚ over (nat c) K) ≡ nat (c *ⁿ (N *ⁿ M))
    right = ring3 ℚ_ring (λ k u o. k ⊗ (u ⊗ o) := (k ⊗ o) ⊗ u) tt (nat K) u (over (nat c) K)
        ∙ ap₂ ◌*ℚ◌ (over_ok (nat c) K hK) (sym (nat_mul N M)) ∙ sym (nat_mul c (N *ⁿ M))
