-- ℚ as an ordered field, under short names: its operations, its order (≤_trans, ≤_add, ≤_mul_left, mul_mono, ..), a positive
-- factor cancelled (≤_cancel), and its absolute value (abs_add, abs_mul, abs_scale, ..).
use Rattle.std.specs.Prelude.{◌≡◌, T}
use Rattle.std.proofs.Common.{sym, ◌∙◌, ap, subst}
use Rattle.algebra.specs.Laws as L
use Rattle.algebra.specs.Order as O
use Rattle.algebra.specs.Rational.{add_q, mul_q, rec_q, rec_ok}
use Rattle.algebra.specs.Solver.{𝟎, ◌⊗◌, ◌⊝◌, ◌:=◌, ring1, ring3}
pub use Rattle.algebra.specs.Rational.{ℚ, ℚ_ring, ℚ_ord, neg_q, zero_q, one_q}

infixl 6 ◌+ℚ◌ ◌-ℚ◌
infixl 7 ◌*ℚ◌
infix 4 ◌≤ℚ◌
abbrev pub ◌+ℚ◌ : ℚ → ℚ → ℚ
a +ℚ b = add_q a b

abbrev pub ◌-ℚ◌ : ℚ → ℚ → ℚ
a -ℚ b = add_q a (neg_q b)

abbrev pub ◌*ℚ◌ : ℚ → ℚ → ℚ
a *ℚ b = mul_q a b

abbrev pub ◌≤ℚ◌ : ℚ → ℚ → Type 0
a ≤ℚ b = O.◌≤◌ ℚ_ring ℚ_ord a b

abbrev pub abs : ℚ → ℚ
abs a = O.abs ℚ_ring ℚ_ord a

-- ---- the order
pub ≤_refl : (a : ℚ) → a ≤ℚ a
≤_refl a = O.≤_refl ℚ_ring ℚ_ord a

pub ≤_trans : {a b c : ℚ} → a ≤ℚ b → b ≤ℚ c → a ≤ℚ c
≤_trans h k = O.≤_trans ℚ_ring ℚ_ord h k

pub ≤_antisym : {a b : ℚ} → a ≤ℚ b → b ≤ℚ a → a ≡ b
≤_antisym h k = O.≤_antisym ℚ_ring ℚ_ord h k

pub ≤_total : (a b : ℚ) (P : Type 0) → (a ≤ℚ b → P) → (b ≤ℚ a → P) → P
≤_total a b P f g = O.≤_total ℚ_ring ℚ_ord a b P f g

pub ≤_of_eq : {a b : ℚ} → a ≡ b → a ≤ℚ b
≤_of_eq e = O.≤_of_eq ℚ_ring ℚ_ord e

pub ≤_add : {a b c d : ℚ} → a ≤ℚ b → c ≤ℚ d → a +ℚ c ≤ℚ b +ℚ d
≤_add h k = O.≤_add ℚ_ring ℚ_ord h k

pub ≤_neg : {a b : ℚ} → a ≤ℚ b → neg_q b ≤ℚ neg_q a
≤_neg h = O.≤_neg ℚ_ring ℚ_ord h

pub ≤_mul_left : {a b : ℚ} (c : ℚ) → zero_q ≤ℚ c → a ≤ℚ b → c *ℚ a ≤ℚ c *ℚ b
≤_mul_left c z h = O.≤_mul ℚ_ring ℚ_ord c z h

pub ≤_mul_right : {a b : ℚ} (c : ℚ) → zero_q ≤ℚ c → a ≤ℚ b → a *ℚ c ≤ℚ b *ℚ c
≤_mul_right {a} {b} c z h = ≤_trans (≤_of_eq (swap a c)) (≤_trans (≤_mul_left c z h) (≤_of_eq (swap c b)))
  where
    swap : (a b : ℚ) → a *ℚ b ≡ b *ℚ a
    swap = ℚ_ring.mul_comm

pub mul_mono : {a b c d : ℚ} → zero_q ≤ℚ a → zero_q ≤ℚ d → a ≤ℚ b → c ≤ℚ d → a *ℚ c ≤ℚ b *ℚ d
mul_mono {a} {b} {c} {d} z w h k = ≤_trans (≤_mul_left a z k) (≤_mul_right d w h)

-- ---- numbers that are not negative
pub nonneg_≤ : (a : ℚ) → T (ℚ_ord.nonneg a) → zero_q ≤ℚ a
nonneg_≤ a h = O.le_by ℚ_ring ℚ_ord zero_q a a h (ring1 ℚ_ring (λ a. a := a ⊝ 𝟎) tt a)

pub one_nn : zero_q ≤ℚ one_q
one_nn = nonneg_≤ one_q (O.one_nn ℚ_ring ℚ_ord)

pub square_nn : (a : ℚ) → zero_q ≤ℚ a *ℚ a
square_nn a = nonneg_≤ (a *ℚ a) (O.sq_nn ℚ_ring ℚ_ord a)

pub add_nn : {a b : ℚ} → zero_q ≤ℚ a → zero_q ≤ℚ b → zero_q ≤ℚ a +ℚ b
add_nn {a} {b} h k = ≤_trans (≤_of_eq (sym (L.zero-add ℚ_ring zero_q))) (≤_add h k)

pub mul_nn : {a b : ℚ} → zero_q ≤ℚ a → zero_q ≤ℚ b → zero_q ≤ℚ a *ℚ b
mul_nn {a} {b} h k = ≤_trans (≤_of_eq (sym (L.mul-zero ℚ_ring a))) (≤_mul_left a h k)

pub sub_nn : {a b : ℚ} → a ≤ℚ b → zero_q ≤ℚ b -ℚ a
sub_nn {a} {b} h = ≤_trans (≤_of_eq (sym (ℚ_ring.add_neg a))) (≤_add h (≤_refl (neg_q a)))

pub ≤_add_nn : {a b : ℚ} → zero_q ≤ℚ b → a ≤ℚ a +ℚ b
≤_add_nn {a} {b} h = ≤_trans (≤_of_eq (sym (ℚ_ring.add-zero a))) (≤_add (≤_refl a) h)

pub ≤_nn_add : {a b : ℚ} → zero_q ≤ℚ b → a ≤ℚ b +ℚ a
≤_nn_add {a} {b} h = ≤_trans (≤_add_nn h) (≤_of_eq (ℚ_ring.add_comm a b))

-- a positive factor is cancelled
pub ≤_cancel : {a b : ℚ} (c : ℚ) → zero_q ≤ℚ c → ¬ (c ≡ zero_q) → c *ℚ a ≤ℚ c *ℚ b → a ≤ℚ b
≤_cancel {a} {b} c z n h = ≤_total a b (a ≤ℚ b) (λ k. k)
    (λ k. ≤_of_eq (back a ∙ ap (λ x. rec_q c *ℚ x) (≤_antisym h (≤_mul_left c z k)) ∙ sym (back b)))
  where
    back : (a : ℚ) → a ≡ rec_q c *ℚ (c *ℚ a)
    back a = sym (L.one-mul ℚ_ring a) ∙ ap (λ x. x *ℚ a) (sym (rec_ok c n)) ∙ ring3 ℚ_ring (λ c r a. c ⊗ r ⊗ a := r ⊗ (c ⊗ a)) tt c (rec_q c) a

-- ---- the absolute value
pub abs_nn : (a : ℚ) → zero_q ≤ℚ abs a
abs_nn a = O.abs_nn ℚ_ring ℚ_ord a

pub abs_ge : (a : ℚ) → a ≤ℚ abs a
abs_ge a = O.abs_ge ℚ_ring ℚ_ord a

pub abs_le : (a b : ℚ) → a ≤ℚ b → neg_q a ≤ℚ b → abs a ≤ℚ b
abs_le a b h k = O.abs_le ℚ_ring ℚ_ord a b h k

pub abs_of_nn : (a : ℚ) → zero_q ≤ℚ a → abs a ≡ a
abs_of_nn a h = O.abs_of_nn ℚ_ring ℚ_ord a h

pub abs_neg : (a : ℚ) → abs (neg_q a) ≡ abs a
abs_neg a = O.abs_neg ℚ_ring ℚ_ord a

pub abs_add : (a b : ℚ) → abs (a +ℚ b) ≤ℚ abs a +ℚ abs b
abs_add a b = O.abs_add ℚ_ring ℚ_ord a b

pub abs_mul : (a b : ℚ) → abs (a *ℚ b) ≡ abs a *ℚ abs b
abs_mul a b = O.abs_mul ℚ_ring ℚ_ord a b

pub abs_scale : (c a : ℚ) → zero_q ≤ℚ c → abs (c *ℚ a) ≡ c *ℚ abs a
abs_scale c a h = abs_mul c a ∙ ap (λ x. x *ℚ abs a) (abs_of_nn c h)

pub abs_zero_le : {x : ℚ} → zero_q ≤ℚ x → abs zero_q ≤ℚ x
abs_zero_le h = ≤_trans (≤_of_eq (abs_of_nn zero_q (≤_refl zero_q))) h

pub abs_add_le : (a b x y : ℚ) → abs a ≤ℚ x → abs b ≤ℚ y → abs (a +ℚ b) ≤ℚ x +ℚ y
abs_add_le a b x y h k = ≤_trans (abs_add a b) (≤_add h k)

pub abs_subst : {a b x : ℚ} → a ≡ b → abs a ≤ℚ x → abs b ≤ℚ x
abs_subst {x = x} e h = subst (λ y. abs y ≤ℚ x) e h

-- |a b - c d| ≤ |a| |b - d| + |a - c| |d|
pub product_distance : (a b c d : ℚ) → abs (a *ℚ b -ℚ c *ℚ d) ≤ℚ abs a *ℚ abs (b -ℚ d) +ℚ abs (a -ℚ c) *ℚ abs d
product_distance a b c d = O.product_distance ℚ_ring ℚ_ord a b c d
