-- The errors of the two roundings, in ℚ and for any divisor: nearest is off by at most a half, and by what its numerator is off over
-- the divisor (nearest_step); up is not below the quotient (up_le). U is the unit in ℚ.
use Rattle.std.specs.Prelude.{◌≡◌, ℕ, zero, suc, ◌<◌, ◌+◌ as ◌+ⁿ◌, ◌*◌ as ◌*ⁿ◌, ◌^◌, ℤ, pos, ◌-ℤ◌, ◌*ℤ◌}
use Rattle.std.proofs.Common.{sym, ◌∙◌, ap, ap₂, subst, arith}
use Rattle.algebra.specs.Solver.{𝟏, ◌⊕◌, ◌⊗◌, ⊖◌, ◌⊝◌, ◌:=◌, ring2, ring3, ring4}
use Rattle.algebra.specs.Q.{ℚ, ℚ_ring, ◌+ℚ◌, ◌-ℚ◌, ◌*ℚ◌, ◌≤ℚ◌, abs, ≤_trans, ≤_of_eq, ≤_nn_add, abs_neg, abs_subst, abs_add_le}
use Rattle.algebra.specs.Embedding.{ofℤ, nat, ofℤ_one, ofℤ_neg, ofℤ_sub, ofℤ_mul, nat_add, nat_mul, nat_le, abs_ofℤ}
use Rattle.algebra.specs.Quotient.{inv_ok, cancel_abs, half_q, half_twice, half_nn}
use Rattle.algebra.specs.Power.{sgn}
use Rattle.rounding.specs.Rounding.{near, nearest, up}
use Rattle.rounding.proofs.Laws.{nearest_pos, nearest_within, up_low}
use Rattle.fund.specs.Base.{alternate}
use Rattle.fund.specs.Transform.{unit}

pub unit_pos : 0 < unit
unfolding unit
unit_pos = omega arith

-- the unit in ℚ
abbrev pub U : ℚ
U = nat unit

pub nat_units : (k : ℕ) → nat (k *ⁿ 10 ^ 12) ≡ nat k *ℚ U
unfolding unit
nat_units k = nat_mul k (10 ^ 12)

-- ---- the roundings
nearest_error : (a : ℤ) (b : ℕ) → 0 < b → abs (nat b *ℚ ofℤ (nearest a b) -ℚ ofℤ a) ≤ℚ nat b *ℚ half_q
nearest_error a b h =
    cancel_abs 2 (nat b *ℚ ofℤ m -ℚ ofℤ a) (nat b *ℚ half_q) (omega arith)
    (abs_subst twice (≤_trans (≤_of_eq (abs_ofℤ d)) (≤_trans (nat_le (nearest_within a b h)) (≤_of_eq halves))))
  where
    m : ℤ
    m = nearest a b

    d : ℤ
    d = pos (2 *ⁿ b) *ℤ m -ℤ pos 2 *ℤ a

    twice : ofℤ d ≡ nat 2 *ℚ (nat b *ℚ ofℤ m -ℚ ofℤ a)
    twice = ofℤ_sub (pos (2 *ⁿ b) *ℤ m) (pos 2 *ℤ a)
        ∙ ap₂ ◌-ℚ◌ (ofℤ_mul (pos (2 *ⁿ b)) m ∙ ap (λ x. x *ℚ ofℤ m) (nat_mul 2 b)) (ofℤ_mul (pos 2) a)
        ∙ ring4 ℚ_ring (λ t b m a. t ⊗ b ⊗ m ⊝ t ⊗ a := t ⊗ (b ⊗ m ⊝ a)) tt (nat 2) (nat b) (ofℤ m) (ofℤ a)

    halves : nat b ≡ nat 2 *ℚ (nat b *ℚ half_q)
    halves = sym (ℚ_ring.mul-one (nat b)) ∙ ap (λ x. nat b *ℚ x) (sym (inv_ok 1))
        ∙ ring3 ℚ_ring (λ b t i. b ⊗ (t ⊗ i) := t ⊗ (b ⊗ i)) tt (nat b) (nat 2) half_q

-- a numerator off by b e: the rounded quotient is off by 1/2 + e
pub nearest_step : (a : ℤ) (b : ℕ) → 0 < b → (y e : ℚ) → abs (ofℤ a -ℚ nat b *ℚ y) ≤ℚ nat b *ℚ e → abs (ofℤ (nearest a b) -ℚ y) ≤ℚ half_q +ℚ e
nearest_step a b h y e k =
    cancel_abs b (m -ℚ y) (half_q +ℚ e) h (abs_subst (ring4 ℚ_ring (λ b m a y. (b ⊗ m ⊝ a) ⊕ (a ⊝ b ⊗ y) := b ⊗ (m ⊝ y)) tt (nat b) m (ofℤ a) y)
    (≤_trans (abs_add_le (nat b *ℚ m -ℚ ofℤ a) (ofℤ a -ℚ nat b *ℚ y) (nat b *ℚ half_q) (nat b *ℚ e) (nearest_error a b h) k)
    (≤_of_eq (sym (ℚ_ring.distrib (nat b) half_q e)))))
  where
    m : ℚ
    m = ofℤ (nearest a b)

pub near_step : (a b : ℕ) → 0 < b → (y e : ℚ) → abs (nat a -ℚ nat b *ℚ y) ≤ℚ nat b *ℚ e → abs (nat (near a b) -ℚ y) ≤ℚ half_q +ℚ e
near_step a b h y e k = subst (λ x. abs (ofℤ x -ℚ y) ≤ℚ half_q +ℚ e) (nearest_pos a b) (nearest_step (pos a) b h y e k)

pub up_le : (a b : ℕ) → 0 < b → nat a ≤ℚ nat b *ℚ nat (up a b)
up_le a b h = ≤_trans (nat_le (up_low a b h)) (≤_of_eq (nat_mul b (up a b)))

-- two halves are the 1 that a bound adds
pub halves_up : (a : ℕ) → half_q +ℚ (half_q +ℚ nat a) ≡ nat (a +ⁿ 1)
halves_up a = ring2 ℚ_ring (λ h a. h ⊕ (h ⊕ a) := a ⊕ (h ⊕ h)) tt half_q (nat a) ∙ ap (λ x. nat a +ℚ x) (half_twice ∙ sym ofℤ_one)
    ∙ sym (nat_add a 1)

pub half_up : (a : ℕ) → half_q +ℚ nat a ≤ℚ nat (a +ⁿ 1)
half_up a = ≤_trans (≤_nn_add half_nn) (≤_of_eq (halves_up a))

-- ---- a sign changes no error
pub alternate_close : (n : ℕ) (z : ℤ) (u y e : ℚ) → abs (ofℤ z -ℚ u *ℚ y) ≤ℚ e → abs (ofℤ (alternate n z) -ℚ u *ℚ (sgn n *ℚ y)) ≤ℚ e
unfolding alternate
alternate_close zero z u y e h = abs_subst (ring3 ℚ_ring (λ z u y. z ⊝ u ⊗ y := z ⊝ u ⊗ (𝟏 ⊗ y)) tt (ofℤ z) u y) h
alternate_close (suc n) z u y e h =
    abs_subst (ring4 ℚ_ring (λ z u s y. ⊖ (z ⊝ u ⊗ (s ⊗ y)) := ⊖ z ⊝ u ⊗ (⊖ s ⊗ y)) tt (ofℤ (alternate n z)) u (sgn n) y
    ∙ ap (λ x. x -ℚ u *ℚ (sgn (suc n) *ℚ y)) (sym (ofℤ_neg (alternate n z))))
    (≤_trans (≤_of_eq (abs_neg (ofℤ (alternate n z) -ℚ u *ℚ (sgn n *ℚ y)))) (alternate_close n z u y e h))
