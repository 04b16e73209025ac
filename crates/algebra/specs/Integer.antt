-- ℤ is a commutative ring (ℤ_ring): multiplication is associative and distributive.
use Rattle.std.specs.Prelude.{◌≡◌, refl, zero, suc, ◌*◌, ℤ, pos, negsuc, neg_ℤ, ◌+ℤ◌, ◌-ℤ◌, ◌*ℤ◌}
use Rattle.std.proofs.Common.{sym, ◌∙◌, ap, subst}
use Rattle.std.proofs.Math.IntN.{suc_ℤ, pred_ℤ, one, +ℤ_assoc, +ℤ_comm, +ℤ_idr, +ℤ_idl, +ℤ_invr, *ℤ_comm, *ℤ-one, zero-*ℤ, suc_ℤ-*ℤ, pred_ℤ-*ℤ, neg_ℤ-+ℤ, neg_ℤ-neg_ℤ, +ℤ_one, -ℤ_one, ℤ_ind, ℤ_set}
use Rattle.algebra.specs.Ring.{CRing}

-- induction by successor and predecessor
pub ℤ_ind' : (P : ℤ → Type 0) → P (pos zero) → ((k : ℤ) → P k → P (suc_ℤ k)) → ((k : ℤ) → P k → P (pred_ℤ k)) → (k : ℤ) → P k
ℤ_ind' P z s p = ℤ_ind P z (λ n h. subst P (sym (+ℤ_one (pos n))) (s (pos n) h))
    (λ n h. subst P (sym (-ℤ_one (neg_ℤ (pos n)))) (p (neg_ℤ (pos n)) h))

swap : (a b c : ℤ) → a +ℤ b +ℤ c ≡ a +ℤ c +ℤ b
swap a b c = +ℤ_assoc a b c ∙ ap (λ x. a +ℤ x) (+ℤ_comm b c) ∙ sym (+ℤ_assoc a c b)

inter : (a b c d : ℤ) → (a +ℤ b) +ℤ (c +ℤ d) ≡ (a +ℤ c) +ℤ (b +ℤ d)
inter a b c d = sym (+ℤ_assoc (a +ℤ b) c d) ∙ ap (λ x. x +ℤ d) (swap a b c) ∙ +ℤ_assoc (a +ℤ c) b d

pub *ℤ_distrib : (a b c : ℤ) → a *ℤ (b +ℤ c) ≡ a *ℤ b +ℤ a *ℤ c
*ℤ_distrib a b c = ℤ_ind' (λ a. a *ℤ (b +ℤ c) ≡ a *ℤ b +ℤ a *ℤ c)
    (zero-*ℤ (b +ℤ c) ∙ sym (+ℤ_idl (pos zero)) ∙ ap (λ x. x +ℤ pos zero) (sym (zero-*ℤ b)) ∙ ap (λ x. pos zero *ℤ b +ℤ x) (sym (zero-*ℤ c)))
    (λ k h. suc_ℤ-*ℤ k (b +ℤ c) ∙ ap (λ x. x +ℤ (b +ℤ c)) h ∙ inter (k *ℤ b) (k *ℤ c) b c
    ∙ ap (λ x. x +ℤ (k *ℤ c +ℤ c)) (sym (suc_ℤ-*ℤ k b)) ∙ ap (λ x. suc_ℤ k *ℤ b +ℤ x) (sym (suc_ℤ-*ℤ k c)))
    (λ k h. pred_ℤ-*ℤ k (b +ℤ c) ∙ ap (λ x. x -ℤ (b +ℤ c)) h ∙ ap (λ x. (k *ℤ b +ℤ k *ℤ c) +ℤ x) (neg_ℤ-+ℤ b c)
    ∙ inter (k *ℤ b) (k *ℤ c) (neg_ℤ b) (neg_ℤ c) ∙ ap (λ x. x +ℤ (k *ℤ c -ℤ c)) (sym (pred_ℤ-*ℤ k b))
    ∙ ap (λ x. pred_ℤ k *ℤ b +ℤ x) (sym (pred_ℤ-*ℤ k c)))
    a

pub distrib_*ℤ : (a b c : ℤ) → (a +ℤ b) *ℤ c ≡ a *ℤ c +ℤ b *ℤ c
distrib_*ℤ a b c = *ℤ_comm (a +ℤ b) c ∙ *ℤ_distrib c a b ∙ ap (λ x. x +ℤ c *ℤ b) (*ℤ_comm c a) ∙ ap (λ x. a *ℤ c +ℤ x) (*ℤ_comm c b)

pub neg_ℤ_*ℤ : (a b : ℤ) → neg_ℤ a *ℤ b ≡ neg_ℤ (a *ℤ b)
neg_ℤ_*ℤ (pos zero) b = zero-*ℤ b ∙ ap neg_ℤ (sym (zero-*ℤ b))
neg_ℤ_*ℤ (pos (suc a)) (pos b) = refl
neg_ℤ_*ℤ (pos (suc a)) (negsuc b) = sym (neg_ℤ-neg_ℤ (pos (suc a * suc b)))
neg_ℤ_*ℤ (negsuc a) (pos b) = sym (neg_ℤ-neg_ℤ (pos (suc a * b)))
neg_ℤ_*ℤ (negsuc a) (negsuc b) = refl

pub *ℤ_assoc : (a b c : ℤ) → (a *ℤ b) *ℤ c ≡ a *ℤ (b *ℤ c)
*ℤ_assoc a b c = ℤ_ind' (λ a. (a *ℤ b) *ℤ c ≡ a *ℤ (b *ℤ c))
    (ap (λ x. x *ℤ c) (zero-*ℤ b) ∙ zero-*ℤ c ∙ sym (zero-*ℤ (b *ℤ c)))
    (λ k h. ap (λ x. x *ℤ c) (suc_ℤ-*ℤ k b) ∙ distrib_*ℤ (k *ℤ b) b c ∙ ap (λ x. x +ℤ b *ℤ c) h ∙ sym (suc_ℤ-*ℤ k (b *ℤ c)))
    (λ k h. ap (λ x. x *ℤ c) (pred_ℤ-*ℤ k b) ∙ distrib_*ℤ (k *ℤ b) (neg_ℤ b) c ∙ ap (λ x. x +ℤ neg_ℤ b *ℤ c) h
    ∙ ap (λ x. k *ℤ (b *ℤ c) +ℤ x) (neg_ℤ_*ℤ b c) ∙ sym (pred_ℤ-*ℤ k (b *ℤ c)))
    a

pub *ℤ_1 : (m : ℤ) → m *ℤ pos 1 ≡ m
unfolding one
*ℤ_1 m = *ℤ-one m

abbrev pub ℤ_ring : CRing
ℤ_ring = record {
  Carrier = ℤ;
  is_set = ℤ_set;
  add = ◌+ℤ◌;
  mul = ◌*ℤ◌;
  neg = neg_ℤ;
  zero# = pos 0;
  one# = pos 1;
  add_assoc = +ℤ_assoc;
  add_comm = +ℤ_comm;
  add-zero = +ℤ_idr;
  add_neg = +ℤ_invr;
  mul_assoc = *ℤ_assoc;
  mul_comm = *ℤ_comm;
  mul-one = *ℤ_1;
  distrib = *ℤ_distrib;
  of_int = λ z. z;
  of_int_one = refl;
  of_int_add = λ a b. refl;
}
