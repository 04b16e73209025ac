-- ℤ is an ordered ring (ℤ_ord), and its order between numbers that are not negative is that of ℕ (≤_pos). A positive factor keeps
-- the sign (non_neg_mul) and can be cancelled (mul_cancel_zero).
use Rattle.std.specs.Prelude.{◌≡◌, refl, Bool, true, false, not, ℕ, zero, suc, ◌+◌, ◌*◌, ◌≤◌, T, ℤ, pos, negsuc, neg_ℤ, nat_abs, ◌+ℤ◌, ◌-ℤ◌, ◌*ℤ◌}
use Rattle.std.proofs.Common.{sym, ◌∙◌, ap, arith}
use Rattle.std.proofs.Math.IntN.{neg_ℤ-neg_ℤ, -ℤ-+ℤ_cancel}
use Rattle.std.specs.Int.Signed.{non_neg, pos-nat_abs}
use Rattle.algebra.specs.Integer.{ℤ_ring}
use Rattle.algebra.specs.Order as O
use Rattle.algebra.specs.Order.{Ord}

pub nn_add : (a b : ℤ) → T (non_neg a) → T (non_neg b) → T (non_neg (a +ℤ b))
nn_add (pos a) (pos b) h k = tt
nn_add (pos a) (negsuc b) h k = absurd k
nn_add (negsuc a) b h k = absurd h

pub nn_mul : (a b : ℤ) → T (non_neg a) → T (non_neg b) → T (non_neg (a *ℤ b))
nn_mul (pos a) (pos b) h k = tt
nn_mul (pos a) (negsuc b) h k = absurd k
nn_mul (negsuc a) b h k = absurd h

pub nn_total : (a : ℤ) → T (not (non_neg a)) → T (non_neg (neg_ℤ a))
nn_total (pos a) h = absurd h
nn_total (negsuc a) h = tt

pub nn_antisym : (a : ℤ) → T (non_neg a) → T (non_neg (neg_ℤ a)) → a ≡ pos 0
nn_antisym (pos zero) h k = refl
nn_antisym (pos (suc n)) h k = absurd k
nn_antisym (negsuc n) h k = absurd h

abbrev pub ℤ_ord : Ord ℤ_ring
ℤ_ord = record { nonneg = non_neg; nn_add = nn_add; nn_mul = nn_mul; nn_total = nn_total; nn_one = tt; nn_antisym = nn_antisym }

infix 4 ◌≤Z◌
abbrev pub ◌≤Z◌ : ℤ → ℤ → Type 0
a ≤Z b = O.◌≤◌ ℤ_ring ℤ_ord a b

unpos : (a b : ℕ) → pos a ≡ pos b → a ≡ b
unpos a b e = ap nat_abs e

-- the order of ℕ
pub ≤_pos : (a b : ℕ) → pos a ≤Z pos b → a ≤ b
≤_pos a b h = go (nat_abs d) (unpos (nat_abs d + a) b (ap (λ x. x +ℤ pos a) (pos-nat_abs d h.le) ∙ -ℤ-+ℤ_cancel (pos b) (pos a)))
  where
    d : ℤ
    d = pos b -ℤ pos a

    go : (k : ℕ) → k + a ≡ b → a ≤ b
    go k e = omega arith

-- positive
abbrev pub posb : ℤ → Bool
posb (pos zero) = false
posb (pos (suc n)) = true
posb (negsuc n) = false

posb_nat : (k : ℕ) → 1 ≤ k → T (posb (pos k))
posb_nat zero h = absurd (go h)
  where
    go : 1 ≤ 0 → ⊥
    go h = omega arith
posb_nat (suc k) h = tt

pub posb_mul : (a b : ℤ) → T (posb a) → T (posb b) → T (posb (a *ℤ b))
posb_mul (pos zero) b h k = absurd h
posb_mul (pos (suc a)) (pos zero) h k = absurd k
posb_mul (pos (suc a)) (pos (suc b)) h k = posb_nat (suc a * suc b) (omega arith)
posb_mul (pos (suc a)) (negsuc b) h k = absurd k
posb_mul (negsuc a) b h k = absurd h

-- a positive factor keeps the sign
non_neg_neg : (k : ℕ) → 1 ≤ k → non_neg (neg_ℤ (pos k)) ≡ false
non_neg_neg zero h = absurd (go h)
  where
    go : 1 ≤ 0 → ⊥
    go h = omega arith
non_neg_neg (suc k) h = refl

pub non_neg_mul : (a d : ℤ) → T (posb d) → non_neg (a *ℤ d) ≡ non_neg a
non_neg_mul a (pos zero) h = absurd h
non_neg_mul (pos a) (pos (suc d)) h = refl
non_neg_mul (negsuc a) (pos (suc d)) h = non_neg_neg (suc a * suc d) (omega arith)
non_neg_mul a (negsuc d) h = absurd h

-- and can be cancelled
pub mul_cancel_zero : (a d : ℤ) → T (posb d) → a *ℤ d ≡ pos 0 → a ≡ pos 0
mul_cancel_zero a (pos zero) h e = absurd h
mul_cancel_zero (pos zero) (pos (suc d)) h e = refl
mul_cancel_zero (pos (suc a)) (pos (suc d)) h e = absurd (go (unpos (suc a * suc d) 0 e))
  where
    go : suc a * suc d ≡ 0 → ⊥
    go e = omega arith
mul_cancel_zero (negsuc a) (pos (suc d)) h e = absurd (go (unpos (suc a * suc d) 0 (sym (neg_ℤ-neg_ℤ (pos (suc a * suc d))) ∙ ap neg_ℤ e)))
  where
    go : suc a * suc d ≡ 0 → ⊥
    go e = omega arith
mul_cancel_zero a (negsuc d) h e = absurd h
