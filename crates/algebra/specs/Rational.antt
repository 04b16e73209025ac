-- The rational numbers, fractions up to being the same number: a commutative ring (ℚ_ring), ordered (ℚ_ord), with
-- inverses: inv k = 1 / (k + 1), and rec_q for any number but 0 (rec_ok).
use Rattle.std.specs.Prelude.{◌≡◌, refl, Bool, true, false, not, ℕ, suc, T, ℤ, pos, ◌+ℤ◌, ◌*ℤ◌}
use Rattle.std.proofs.Common.{sym, ◌∙◌, ap, subst}
use Rattle.std.proofs.Math.Bool.{Bool-set}
use Rattle.std.proofs.Math.Dec.{T_prop}
use Rattle.std.proofs.Math.IntN.{zero-*ℤ}
use Rattle.std.specs.Int.Signed.{non_neg}
use mathlib.Core.HLevel.{Π_prop}
use std.Quotient as Quotient
use std.Quotient.{cls, eq/, /_set, /_rec, /_rec₂, /_elim_prop, /_elim_prop₂, /_elim_prop₃}
use Rattle.algebra.specs.Ring.{CRing}
use Rattle.algebra.specs.Integer.{ℤ_ring}
use Rattle.algebra.specs.IntegerOrder.{posb, non_neg_mul, nn_add, nn_mul, nn_total, nn_antisym}
use Rattle.algebra.specs.Fraction.{Frac, Same, frac, add_fraction, mul_f, neg_f, add_left, add_right, mul_left, mul_r, neg_ok}
use Rattle.algebra.specs.Fraction.{nz, nz_sq, nz_zero, inv_f, rec_f, rec_resp}
use Rattle.algebra.specs.Order.{Ord}
use Rattle.algebra.specs.Solver.{𝟎, 𝟏, ◌⊕◌, ◌⊗◌, ⊖◌, ◌:=◌, ring1, ring2, ring4, ring6}

abbrev pub ℚ : Type 0
ℚ = Quotient.◌/◌ Frac Same

pub add_q : ℚ → ℚ → ℚ
add_q = /_rec₂ /_set (λ a b. cls (add_fraction a b)) (λ a a' b h. eq/ (add_fraction a b) (add_fraction a' b) (add_left a a' b h))
    (λ a b b' h. eq/ (add_fraction a b) (add_fraction a b') (add_right a b b' h))

pub mul_q : ℚ → ℚ → ℚ
mul_q = /_rec₂ /_set (λ a b. cls (mul_f a b)) (λ a a' b h. eq/ (mul_f a b) (mul_f a' b) (mul_left a a' b h))
    (λ a b b' h. eq/ (mul_f a b) (mul_f a b') (mul_r a b b' h))

pub neg_q : ℚ → ℚ
neg_q = /_rec /_set (λ a. cls (neg_f a)) (λ a a' h. eq/ (neg_f a) (neg_f a') (neg_ok a a' h))

abbrev pub zero_q : ℚ
zero_q = cls (frac (pos 0) 0)

abbrev pub one_q : ℚ
one_q = cls (frac (pos 1) 0)

-- equations of ℚ from those of ℤ
by₁ : (f g : ℚ → ℚ) → ((a : Frac) → f (cls a) ≡ g (cls a)) → (x : ℚ) → f x ≡ g x
by₁ f g h = /_elim_prop (λ x. f x ≡ g x) (λ x. /_set (f x) (g x)) h

by₂ : (f g : ℚ → ℚ → ℚ) → ((a b : Frac) → f (cls a) (cls b) ≡ g (cls a) (cls b)) → (x y : ℚ) → f x y ≡ g x y
by₂ f g h = /_elim_prop₂ (λ x y. f x y ≡ g x y) (λ x y. /_set (f x y) (g x y)) h

by₃ : (f g : ℚ → ℚ → ℚ → ℚ) → ((a b c : Frac) → f (cls a) (cls b) (cls c) ≡ g (cls a) (cls b) (cls c)) → (x y z : ℚ) → f x y z ≡ g x y z
by₃ f g h = /_elim_prop₃ (λ x y z. f x y z ≡ g x y z) (λ x y z. /_set (f x y z) (g x y z)) h

pub q_add_comm : (x y : ℚ) → add_q x y ≡ add_q y x
unfolding add_q /_rec₂
q_add_comm = by₂ (λ x y. add_q x y) (λ x y. add_q y x)
    (λ a b. eq/ (add_fraction a b) (add_fraction b a) (ring4 ℤ_ring (λ n d m e. (n ⊗ e ⊕ m ⊗ d) ⊗ (e ⊗ d)
    := (m ⊗ d ⊕ n ⊗ e) ⊗ (d ⊗ e)) tt a.num a.den b.num b.den))

pub q_add_assoc : (x y z : ℚ) → add_q (add_q x y) z ≡ add_q x (add_q y z)
unfolding add_q /_rec₂
q_add_assoc = by₃ (λ x y z. add_q (add_q x y) z) (λ x y z. add_q x (add_q y z))
    (λ a b c. eq/ (add_fraction (add_fraction a b) c) (add_fraction a (add_fraction b c))
    (ring6 ℤ_ring (λ n d m e p f. ((n ⊗ e ⊕ m ⊗ d) ⊗ f ⊕ p ⊗ (d ⊗ e)) ⊗ (d ⊗ (e ⊗ f))
    := (n ⊗ (e ⊗ f) ⊕ (m ⊗ f ⊕ p ⊗ e) ⊗ d) ⊗ (d ⊗ e ⊗ f)) tt a.num a.den b.num b.den c.num c.den))

pub q_add_zero : (x : ℚ) → add_q x zero_q ≡ x
unfolding add_q /_rec₂
q_add_zero = by₁ (λ x. add_q x zero_q) (λ x. x) (λ a. eq/ (add_fraction a (frac (pos 0) 0)) a
    (ring2 ℤ_ring (λ n d. (n ⊗ 𝟏 ⊕ 𝟎 ⊗ d) ⊗ d := n ⊗ (d ⊗ 𝟏)) tt a.num a.den))

pub q_add_neg : (x : ℚ) → add_q x (neg_q x) ≡ zero_q
unfolding add_q neg_q /_rec₂ /_rec
q_add_neg = by₁ (λ x. add_q x (neg_q x)) (λ x. zero_q) (λ a. eq/ (add_fraction a (neg_f a)) (frac (pos 0) 0)
    (ring2 ℤ_ring (λ n d. (n ⊗ d ⊕ (⊖ n) ⊗ d) ⊗ 𝟏 := 𝟎 ⊗ (d ⊗ d)) tt a.num a.den))

pub q_mul_comm : (x y : ℚ) → mul_q x y ≡ mul_q y x
unfolding mul_q /_rec₂
q_mul_comm = by₂ (λ x y. mul_q x y) (λ x y. mul_q y x)
    (λ a b. eq/ (mul_f a b) (mul_f b a) (ring4 ℤ_ring (λ n d m e. (n ⊗ m) ⊗ (e ⊗ d) := (m ⊗ n) ⊗ (d ⊗ e)) tt a.num a.den b.num b.den))

pub q_mul_assoc : (x y z : ℚ) → mul_q (mul_q x y) z ≡ mul_q x (mul_q y z)
unfolding mul_q /_rec₂
q_mul_assoc = by₃ (λ x y z. mul_q (mul_q x y) z) (λ x y z. mul_q x (mul_q y z))
    (λ a b c. eq/ (mul_f (mul_f a b) c) (mul_f a (mul_f b c))
    (ring6 ℤ_ring (λ n d m e p f. (n ⊗ m ⊗ p) ⊗ (d ⊗ (e ⊗ f)) := (n ⊗ (m ⊗ p)) ⊗ (d ⊗ e ⊗ f))
    tt a.num a.den b.num b.den c.num c.den))

pub q_mul_one : (x : ℚ) → mul_q x one_q ≡ x
unfolding mul_q /_rec₂
q_mul_one = by₁ (λ x. mul_q x one_q) (λ x. x) (λ a. eq/ (mul_f a (frac (pos 1) 0)) a
    (ring2 ℤ_ring (λ n d. (n ⊗ 𝟏) ⊗ d := n ⊗ (d ⊗ 𝟏)) tt a.num a.den))

pub q_distrib : (x y z : ℚ) → mul_q x (add_q y z) ≡ add_q (mul_q x y) (mul_q x z)
unfolding mul_q add_q /_rec₂
q_distrib = by₃ (λ x y z. mul_q x (add_q y z)) (λ x y z. add_q (mul_q x y) (mul_q x z))
    (λ a b c. eq/ (mul_f a (add_fraction b c)) (add_fraction (mul_f a b) (mul_f a c))
    (ring6 ℤ_ring (λ n d m e p f. (n ⊗ (m ⊗ f ⊕ p ⊗ e)) ⊗ ((d ⊗ e) ⊗ (d ⊗ f))
    := ((n ⊗ m) ⊗ (d ⊗ f) ⊕ (n ⊗ p) ⊗ (d ⊗ e)) ⊗ (d ⊗ (e ⊗ f))) tt a.num a.den b.num b.den c.num c.den))

pub ofℤ : ℤ → ℚ
ofℤ z = cls (frac z 0)

pub ofℤ_one : ofℤ (pos 1) ≡ one_q
unfolding ofℤ
ofℤ_one = refl

pub ofℤ_add : (a b : ℤ) → ofℤ (a +ℤ b) ≡ add_q (ofℤ a) (ofℤ b)
unfolding ofℤ add_q /_rec₂
ofℤ_add a b = eq/ (frac (a +ℤ b) 0) (add_fraction (frac a 0) (frac b 0)) (ring2 ℤ_ring (λ a b. (a ⊕ b) ⊗ 𝟏 := (a ⊗ 𝟏 ⊕ b ⊗ 𝟏) ⊗ 𝟏) tt a b)

abbrev pub ℚ_ring : CRing
ℚ_ring = record {
  Carrier = ℚ;
  is_set = /_set;
  add = add_q;
  mul = mul_q;
  neg = neg_q;
  zero# = zero_q;
  one# = one_q;
  add_assoc = q_add_assoc;
  add_comm = q_add_comm;
  add-zero = q_add_zero;
  add_neg = q_add_neg;
  mul_assoc = q_mul_assoc;
  mul_comm = q_mul_comm;
  mul-one = q_mul_one;
  distrib = q_distrib;
  of_int = ofℤ;
  of_int_one = ofℤ_one;
  of_int_add = ofℤ_add;
}

-- the sign
pub nonneg_q : ℚ → Bool
nonneg_q = /_rec Bool-set (λ a. non_neg a.num)
    (λ a b h. sym (non_neg_mul a.num b.den b.den_pos) ∙ ap non_neg h ∙ non_neg_mul b.num a.den a.den_pos)

pub nnq_add : (x y : ℚ) → T (nonneg_q x) → T (nonneg_q y) → T (nonneg_q (add_q x y))
unfolding nonneg_q add_q /_rec /_rec₂
nnq_add = /_elim_prop₂ (λ x y. T (nonneg_q x) → T (nonneg_q y) → T (nonneg_q (add_q x y)))
    (λ x y. Π_prop (λ _. Π_prop (λ _. T_prop (nonneg_q (add_q x y)))))
    (λ a b h k. nn_add (a.num *ℤ b.den) (b.num *ℤ a.den) (keep a b h) (keep b a k))
  where
    keep : (a b : Frac) → T (non_neg a.num) → T (non_neg (a.num *ℤ b.den))
    keep a b h = subst T (sym (non_neg_mul a.num b.den b.den_pos)) h

pub nnq_mul : (x y : ℚ) → T (nonneg_q x) → T (nonneg_q y) → T (nonneg_q (mul_q x y))
unfolding nonneg_q mul_q /_rec /_rec₂
nnq_mul = /_elim_prop₂ (λ x y. T (nonneg_q x) → T (nonneg_q y) → T (nonneg_q (mul_q x y)))
    (λ x y. Π_prop (λ _. Π_prop (λ _. T_prop (nonneg_q (mul_q x y)))))
    (λ a b h k. nn_mul a.num b.num h k)

pub nnq_total : (x : ℚ) → T (not (nonneg_q x)) → T (nonneg_q (neg_q x))
unfolding nonneg_q neg_q /_rec
nnq_total = /_elim_prop (λ x. T (not (nonneg_q x)) → T (nonneg_q (neg_q x))) (λ x. Π_prop (λ _. T_prop (nonneg_q (neg_q x))))
    (λ a h. nn_total a.num h)

pub nnq_antisym : (x : ℚ) → T (nonneg_q x) → T (nonneg_q (neg_q x)) → x ≡ zero_q
unfolding nonneg_q neg_q /_rec
nnq_antisym = /_elim_prop (λ x. T (nonneg_q x) → T (nonneg_q (neg_q x)) → x ≡ zero_q) (λ x. Π_prop (λ _. Π_prop (λ _. /_set x zero_q)))
    (λ a h k. eq/ a (frac (pos 0) 0) (ap (λ x. x *ℤ pos 1) (nn_antisym a.num h k) ∙ sym (zero-*ℤ a.den)))

pub nnq_one : T (not (nonneg_q (neg_q one_q)))
unfolding nonneg_q neg_q /_rec
nnq_one = tt

abbrev pub ℚ_ord : Ord ℚ_ring
ℚ_ord = record {
  nonneg = nonneg_q;
  nn_add = nnq_add;
  nn_mul = nnq_mul;
  nn_total = nnq_total;
  nn_one = nnq_one;
  nn_antisym = nnq_antisym;
}

-- the inverses of the positive whole numbers
pub inv : ℕ → ℚ
inv k = cls (frac (pos 1) k)

pub inv_ok : (k : ℕ) → mul_q (ofℤ (pos (suc k))) (inv k) ≡ one_q
unfolding mul_q /_rec₂ inv ofℤ
inv_ok k = eq/ (mul_f (frac (pos (suc k)) 0) (frac (pos 1) k)) (frac (pos 1) 0) (ring1 ℤ_ring (λ x. x ⊗ 𝟏 ⊗ 𝟏 := 𝟏 ⊗ (𝟏 ⊗ x)) tt (pos (suc k)))

pub rec_q : ℚ → ℚ
rec_q = /_rec /_set (λ a. cls (rec_f a)) (λ a b h. eq/ (rec_f a) (rec_f b) (rec_resp a b h))

pub rec_ok : (x : ℚ) → ¬ (x ≡ zero_q) → mul_q x (rec_q x) ≡ one_q
unfolding rec_q rec_f inv_f mul_q /_rec /_rec₂
rec_ok = /_elim_prop (λ x. ¬ (x ≡ zero_q) → mul_q x (rec_q x) ≡ one_q) (λ x. Π_prop (λ _. /_set (mul_q x (rec_q x)) one_q))
    (λ a h. go a (nz a.num) (nz_sq a.num) (nz_zero a.num) h)
  where
    go : (a : Frac) (b : Bool) (f : T b → T (posb (a.num *ℤ a.num))) → (T (not b) → a.num ≡ pos 0) → ¬ (◌≡◌ {A = ℚ} (cls a) zero_q) →
        ◌≡◌ {A = ℚ} (cls (mul_f a (inv_f a.num a.den b f))) one_q
    go a true f z h = eq/ (mul_f a (inv_f a.num a.den true f)) (frac (pos 1) 0)
        (ring2 ℤ_ring (λ n d. n ⊗ (n ⊗ d) ⊗ 𝟏 := 𝟏 ⊗ (d ⊗ (n ⊗ n))) tt a.num a.den)
    go a false f z h = absurd (h (eq/ a (frac (pos 0) 0) (ap (λ x. x *ℤ pos 1) (z tt) ∙ sym (zero-*ℤ a.den))))
