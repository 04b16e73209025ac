-- Laws of a commutative ring that follow from the record's: of 0, 1 and negation, and of regrouping.
use Rattle.std.specs.Prelude.{◌≡◌}
use Rattle.std.proofs.Common.{sym, ◌∙◌, ap, ap₂}
use Rattle.algebra.specs.Ring.{CRing}

module _ (R : CRing) where
  infixl 6 ◌+◌
  infixl 7 ◌*◌
  open R use {Carrier, add as ◌+◌, mul as ◌*◌, neg, zero#, one#, add_assoc, add_comm, add-zero, add_neg, mul_assoc, mul_comm, mul-one, distrib}

  pub zero-add : (a : Carrier) → zero# + a ≡ a
  zero-add a = add_comm zero# a ∙ add-zero a

  pub neg_add : (a : Carrier) → neg a + a ≡ zero#
  neg_add a = add_comm (neg a) a ∙ add_neg a

  pub one-mul : (a : Carrier) → one# * a ≡ a
  one-mul a = mul_comm one# a ∙ mul-one a

  pub distrib' : (a b c : Carrier) → (a + b) * c ≡ a * c + b * c
  distrib' a b c = mul_comm (a + b) c ∙ distrib c a b ∙ ap₂ ◌+◌ (mul_comm c a) (mul_comm c b)

  pub add_left_comm : (a b c : Carrier) → a + (b + c) ≡ b + (a + c)
  add_left_comm a b c = sym (add_assoc a b c) ∙ ap (λ x. x + c) (add_comm a b) ∙ add_assoc b a c

  pub mul_left_comm : (a b c : Carrier) → a * (b * c) ≡ b * (a * c)
  mul_left_comm a b c = sym (mul_assoc a b c) ∙ ap (λ x. x * c) (mul_comm a b) ∙ mul_assoc b a c

  -- what adds up to zero is the negation
  pub neg_unique : (a b : Carrier) → a + b ≡ zero# → b ≡ neg a
  neg_unique a b h = sym (zero-add b) ∙ ap (λ x. x + b) (sym (neg_add a)) ∙ add_assoc (neg a) a b ∙ ap (λ x. neg a + x) h ∙ add-zero (neg a)

  pub add_cancel : (a b c : Carrier) → a + b ≡ a + c → b ≡ c
  add_cancel a b c h = sym (un b) ∙ ap (λ x. neg a + x) h ∙ un c
    where
      un : (x : Carrier) → neg a + (a + x) ≡ x
      un x = sym (add_assoc (neg a) a x) ∙ ap (λ y. y + x) (neg_add a) ∙ zero-add x

  pub mul-zero : (a : Carrier) → a * zero# ≡ zero#
  mul-zero a = add_cancel (a * zero#) (a * zero#) zero#
      (sym (distrib a zero# zero#) ∙ ap (λ x. a * x) (add-zero zero#) ∙ sym (add-zero (a * zero#)))

  pub zero-mul : (a : Carrier) → zero# * a ≡ zero#
  zero-mul a = mul_comm zero# a ∙ mul-zero a

  pub mul_neg : (a b : Carrier) → a * neg b ≡ neg (a * b)
  mul_neg a b = neg_unique (a * b) (a * neg b) (sym (distrib a b (neg b)) ∙ ap (λ x. a * x) (add_neg b) ∙ mul-zero a)

  pub neg_mul : (a b : Carrier) → neg a * b ≡ neg (a * b)
  neg_mul a b = mul_comm (neg a) b ∙ mul_neg b a ∙ ap neg (mul_comm b a)

  pub neg_neg : (a : Carrier) → neg (neg a) ≡ a
  neg_neg a = sym (neg_unique (neg a) a (neg_add a))

  pub neg_zero : neg zero# ≡ zero#
  neg_zero = sym (neg_unique zero# zero# (add-zero zero#))

  pub add_inter : (a b c d : Carrier) → (a + b) + (c + d) ≡ (a + c) + (b + d)
  add_inter a b c d = add_assoc a b (c + d) ∙ ap (λ x. a + x) (add_left_comm b c d) ∙ sym (add_assoc a c (b + d))

  pub neg_sum : (a b : Carrier) → neg (a + b) ≡ neg a + neg b
  neg_sum a b = sym (neg_unique (a + b) (neg a + neg b) (add_inter a b (neg a) (neg b) ∙ ap₂ ◌+◌ (add_neg a) (add_neg b) ∙ add-zero zero#))
