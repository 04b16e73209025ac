-- The whole numbers in ℚ: ofℤ for ℤ and nat for ℕ keep +, *, -, the order (nat_le, and back: nat_reflect) and the absolute value.
use Rattle.std.specs.Prelude.{◌≡◌, ℕ, suc, ◌+◌ as ◌+ⁿ◌, ◌*◌ as ◌*ⁿ◌, ◌-◌ as ◌∸◌, ◌≤◌ as ◌≤ⁿ◌, T, ℤ, pos, negsuc, neg_ℤ, nat_abs, ◌+ℤ◌, ◌-ℤ◌, ◌*ℤ◌}
use Rattle.std.proofs.Common.{sym, ◌∙◌, ap, arith}
use Rattle.std.proofs.Math.IntN.{+ℤ_idl, -ℤ-+ℤ_cancel}
use Rattle.std.specs.Int.Signed.{non_neg}
use Rattle.algebra.specs.IntegerOrder.{≤_pos}
use Rattle.algebra.specs.Order as O
use Rattle.algebra.specs.Solver as R
use Rattle.algebra.specs.Solver.{𝟎, ◌⊕◌, ◌⊝◌, ◌:=◌, ring2}
use Rattle.algebra.specs.Q.{ℚ, ℚ_ring, ℚ_ord, neg_q, zero_q, one_q, ◌+ℚ◌, ◌-ℚ◌, ◌*ℚ◌, ◌≤ℚ◌, abs, ≤_of_eq, nonneg_≤, abs_of_nn, abs_neg}
pub use Rattle.algebra.specs.Rational.{ofℤ, ofℤ_one, ofℤ_add}

abbrev pub nat : ℕ → ℚ
nat n = ofℤ (pos n)

-- ---- the whole numbers of ℤ
pub ofℤ_neg : (a : ℤ) → ofℤ (neg_ℤ a) ≡ neg_q (ofℤ a)
ofℤ_neg a = R.int_neg ℚ_ring a

pub ofℤ_sub : (a b : ℤ) → ofℤ (a -ℤ b) ≡ ofℤ a -ℚ ofℤ b
ofℤ_sub a b = ofℤ_add a (neg_ℤ b) ∙ ap (λ x. ofℤ a +ℚ x) (ofℤ_neg b)

pub ofℤ_mul : (a b : ℤ) → ofℤ (a *ℤ b) ≡ ofℤ a *ℚ ofℤ b
ofℤ_mul a b = R.int_mul ℚ_ring a b

-- ---- the whole numbers of ℕ
pub nat_zero : nat 0 ≡ zero_q
nat_zero = R.int_zero ℚ_ring

pub nat_suc : (n : ℕ) → nat (suc n) ≡ nat n +ℚ one_q
nat_suc n = R.nat_suc ℚ_ring n

pub nat_add : (a b : ℕ) → nat (a +ⁿ b) ≡ nat a +ℚ nat b
nat_add a b = ofℤ_add (pos a) (pos b)

pub nat_mul : (a b : ℕ) → nat (a *ⁿ b) ≡ nat a *ℚ nat b
nat_mul a b = ofℤ_mul (pos a) (pos b)

pub nat_nn : (n : ℕ) → zero_q ≤ℚ nat n
nat_nn n = nonneg_≤ (nat n) (O.nat_nn ℚ_ring ℚ_ord n)

pub nat_sub : (a b : ℕ) → b ≤ⁿ a → nat (a ∸ b) ≡ nat a -ℚ nat b
nat_sub a b h = ring2 ℚ_ring (λ x y. x := (x ⊕ y) ⊝ y) tt (nat (a ∸ b)) (nat b) ∙ ap (λ x. x -ℚ nat b) (sym (nat_add (a ∸ b) b) ∙ ap nat e)
  where
    e : a ∸ b +ⁿ b ≡ a
    e = omega arith

pub nat_le : {a b : ℕ} → a ≤ⁿ b → nat a ≤ℚ nat b
nat_le {a} {b} h = O.le_by ℚ_ring ℚ_ord (nat a) (nat b) (nat (b ∸ a)) (O.nat_nn ℚ_ring ℚ_ord (b ∸ a)) (nat_sub b a h)

pub nat_reflect : (a b : ℕ) → nat a ≤ℚ nat b → a ≤ⁿ b
nat_reflect a b h = ≤_pos a b (record { le = O.int_reflect ℚ_ring ℚ_ord (pos a) (pos b) h })

-- ---- signs and absolute values
pub ofℤ_nn : (z : ℤ) → T (non_neg z) → zero_q ≤ℚ ofℤ z
ofℤ_nn (pos n) h = nat_nn n
ofℤ_nn (negsuc n) h = absurd h

pub abs_nat : (n : ℕ) → abs (nat n) ≡ nat n
abs_nat n = abs_of_nn (nat n) (nat_nn n)

pub abs_ofℤ : (a : ℤ) → abs (ofℤ a) ≡ nat (nat_abs a)
abs_ofℤ (pos a) = abs_nat a
abs_ofℤ (negsuc a) = ap abs (ofℤ_neg (pos (suc a))) ∙ abs_neg (nat (suc a)) ∙ abs_nat (suc a)

pub ofℤ_injective : (a b : ℤ) → ofℤ a ≡ ofℤ b → a ≡ b
ofℤ_injective a b e = sym (-ℤ-+ℤ_cancel a b) ∙ ap (λ z. z +ℤ b) (none (a -ℤ b) (nat_reflect (nat_abs (a -ℤ b)) 0 (≤_of_eq zero))) ∙ +ℤ_idl b
  where
    zero : nat (nat_abs (a -ℤ b)) ≡ nat 0
    zero = sym (abs_ofℤ (a -ℤ b)) ∙ ap abs (ofℤ_sub a b ∙ ap (λ y. y -ℚ ofℤ b) e ∙ R.ring1 ℚ_ring (λ y. y ⊝ y := 𝟎) tt (ofℤ b) ∙ sym nat_zero) ∙ abs_nat 0

    none : (z : ℤ) → nat_abs z ≤ⁿ 0 → z ≡ pos 0
    none (pos n) h = ap pos (let e : n ≡ 0 = omega arith in e)
    none (negsuc n) h = absurd (omega arith)
