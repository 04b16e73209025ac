-- Quotients by positive whole numbers: inv k = 1 / (k + 1), over a b = a / b, half, and a positive whole factor cancelled
-- (cancel, cancel_eq, cancel_abs). Facts about over come from over_ok, b * (a / b) = a.
use Rattle.std.specs.Prelude.{◌≡◌, ℕ, suc, ◌<◌, ◌-◌ as ◌∸◌, ◌≤◌ as ◌≤ⁿ◌, pos}
use Rattle.std.proofs.Common.{sym, ◌∙◌, ap, subst, arith}
use Rattle.algebra.specs.Laws as L
use Rattle.algebra.specs.Solver.{con, ◌⊕◌, ◌⊗◌, ◌:=◌, ring1, ring2, ring3}
use Rattle.algebra.specs.Q.{ℚ, ℚ_ring, zero_q, one_q, ◌+ℚ◌, ◌*ℚ◌, ◌≤ℚ◌, abs, ≤_trans, ≤_of_eq, ≤_mul_left, mul_nn, square_nn, abs_scale}
use Rattle.algebra.specs.Embedding.{nat, nat_nn, nat_le}
pub use Rattle.algebra.specs.Rational.{inv, inv_ok}

-- ---- 1 / (k + 1)
pub inv_nn : (k : ℕ) → zero_q ≤ℚ inv k
inv_nn k = ≤_trans (mul_nn (nat_nn (suc k)) (square_nn (inv k)))
    (≤_of_eq (ring2 ℚ_ring (λ m i. m ⊗ (i ⊗ i) := (m ⊗ i) ⊗ i) tt (nat (suc k)) (inv k) ∙ ap (λ x. x *ℚ inv k) (inv_ok k)
    ∙ L.one-mul ℚ_ring (inv k)))

pub inv_cancel : (k : ℕ) (a : ℚ) → inv k *ℚ (nat (suc k) *ℚ a) ≡ a
inv_cancel k a = ring3 ℚ_ring (λ i m a. i ⊗ (m ⊗ a) := (m ⊗ i) ⊗ a) tt (inv k) (nat (suc k)) a ∙ ap (λ x. x *ℚ a) (inv_ok k) ∙ L.one-mul ℚ_ring a

pub inv_le : (k n : ℕ) → k ≤ⁿ n → inv n ≤ℚ inv k
inv_le k n l =
    ≤_trans (≤_of_eq (sym (inv_cancel k (inv n)) ∙ ring3 ℚ_ring (λ i m a. i ⊗ (m ⊗ a) := (i ⊗ a) ⊗ m) tt (inv k) (nat (suc k)) (inv n)))
    (≤_trans (≤_mul_left (inv k *ℚ inv n) (mul_nn (inv_nn k) (inv_nn n)) (nat_le (omega arith)))
    (≤_of_eq (ring3 ℚ_ring (λ i j m. (i ⊗ j) ⊗ m := j ⊗ (m ⊗ i)) tt (inv k) (inv n) (nat (suc n)) ∙ inv_cancel n (inv k))))

-- ---- a / b
unfoldable pub over : ℚ → ℕ → ℚ
over a b = a *ℚ inv (b ∸ 1)

pub over_suc : (a : ℚ) (k : ℕ) → over a (suc k) ≡ a *ℚ inv k
unfolding over
over_suc a k = ap (λ x. a *ℚ inv x) e
  where
    e : suc k ∸ 1 ≡ k
    e = omega arith

inv_pred : (b : ℕ) → 0 < b → nat b *ℚ inv (b ∸ 1) ≡ one_q
inv_pred b h = subst (λ x. nat x *ℚ inv (b ∸ 1) ≡ one_q) e (inv_ok (b ∸ 1))
  where
    e : suc (b ∸ 1) ≡ b
    e = omega arith

pub over_ok : (a : ℚ) (b : ℕ) → 0 < b → nat b *ℚ over a b ≡ a
unfolding over
over_ok a b h = ring3 ℚ_ring (λ a b i. b ⊗ (a ⊗ i) := a ⊗ (b ⊗ i)) tt a (nat b) (inv (b ∸ 1)) ∙ ap (λ x. a *ℚ x) (inv_pred b h)
    ∙ ℚ_ring.mul-one a

pub over_nn : (a : ℚ) (b : ℕ) → zero_q ≤ℚ a → zero_q ≤ℚ over a b
unfolding over
over_nn a b h = mul_nn h (inv_nn (b ∸ 1))

pub over_zero : (b : ℕ) → over zero_q b ≡ zero_q
unfolding over
over_zero b = L.zero-mul ℚ_ring (inv (b ∸ 1))

pub over_add : (a c : ℚ) (b : ℕ) → over (a +ℚ c) b ≡ over a b +ℚ over c b
unfolding over
over_add a c b = L.distrib' ℚ_ring a c (inv (b ∸ 1))

-- ---- a positive whole factor is cancelled
pred_cancel : (b : ℕ) → 0 < b → (x : ℚ) → inv (b ∸ 1) *ℚ (nat b *ℚ x) ≡ x
pred_cancel b h x = ring3 ℚ_ring (λ x b i. i ⊗ (b ⊗ x) := (b ⊗ i) ⊗ x) tt x (nat b) (inv (b ∸ 1)) ∙ ap (λ y. y *ℚ x) (inv_pred b h)
    ∙ L.one-mul ℚ_ring x

pub cancel : (b : ℕ) {x y : ℚ} → 0 < b → nat b *ℚ x ≤ℚ nat b *ℚ y → x ≤ℚ y
cancel b {x} {y} h k = ≤_trans (≤_of_eq (sym (pred_cancel b h x)))
    (≤_trans (≤_mul_left (inv (b ∸ 1)) (inv_nn (b ∸ 1)) k) (≤_of_eq (pred_cancel b h y)))

pub cancel_eq : (b : ℕ) {x y : ℚ} → 0 < b → nat b *ℚ x ≡ nat b *ℚ y → x ≡ y
cancel_eq b {x} {y} h k = sym (pred_cancel b h x) ∙ ap (λ z. inv (b ∸ 1) *ℚ z) k ∙ pred_cancel b h y

pub cancel_abs : (b : ℕ) (x y : ℚ) → 0 < b → abs (nat b *ℚ x) ≤ℚ nat b *ℚ y → abs x ≤ℚ y
cancel_abs b x y h k = cancel b h (≤_trans (≤_of_eq (sym (abs_scale (nat b) x (nat_nn b)))) k)

-- ---- one half
abbrev pub half_q : ℚ
half_q = inv 1

pub half_twice : half_q +ℚ half_q ≡ one_q
half_twice = ring1 ℚ_ring (λ h. h ⊕ h := con (pos 2) ⊗ h) tt half_q ∙ inv_ok 1

pub half_nn : zero_q ≤ℚ half_q
half_nn = inv_nn 1
