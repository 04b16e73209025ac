-- The power series over a commutative ring are a commutative ring (Ser_ring), so the solver works on them.
use Rattle.std.specs.Prelude.{◌≡◌, ℕ, zero, suc, ℤ, ◌+ℤ◌}
use Rattle.std.proofs.Common.{sym, ◌∙◌, ap, ap₂}
use Rattle.std.proofs.Math.Path.{fun_ext}
use mathlib.Core.HLevel.{Π_set}
use Rattle.algebra.specs.Ring.{CRing}
use Rattle.algebra.specs.Laws as L
use Rattle.algebra.specs.Series as S

module _ (R : CRing) where
  infixl 6 ◌+◌
  infixl 7 ◌*◌
  open R use {Carrier, is_set, add as ◌+◌, mul as ◌*◌, neg, zero#, one#, add_assoc, add_comm, add-zero, add_neg, mul_assoc, mul_comm, mul-one, distrib, of_int, of_int_one, of_int_add}

  abbrev pub const : Carrier → ℕ → Carrier
  const c zero = c
  const c (suc n) = zero#

  pub product_zero : (n : ℕ) (Q : ℕ → Carrier) → S.product R (λ k. zero#) Q n ≡ zero#
  product_zero zero Q = L.zero-mul R (Q 0)
  product_zero (suc n) Q = ap₂ ◌+◌ (L.zero-mul R (Q (suc n))) (product_zero n Q) ∙ add-zero zero#

  pub one_product : (n : ℕ) (Q : ℕ → Carrier) → S.product R (const one#) Q n ≡ Q n
  one_product zero Q = L.one-mul R (Q 0)
  one_product (suc n) Q = ap₂ ◌+◌ (L.one-mul R (Q (suc n))) (product_zero n Q) ∙ add-zero (Q (suc n))

  pub const_add : (a b : ℤ) (n : ℕ) → const (of_int (a +ℤ b)) n ≡ const (of_int a) n + const (of_int b) n
  const_add a b zero = of_int_add a b
  const_add a b (suc n) = sym (add-zero zero#)

  pub product_distrib : (P Q T : ℕ → Carrier) (n : ℕ) → S.product R P (λ k. Q k + T k) n ≡ S.product R P Q n + S.product R P T n
  product_distrib P Q T n = S.product_comm R n P (λ k. Q k + T k) ∙ S.product_add R n Q T P
      ∙ ap₂ ◌+◌ (S.product_comm R n Q P) (S.product_comm R n T P)

  abbrev pub Ser_ring : CRing
  Ser_ring = record {
    Carrier = ℕ → Carrier;
    is_set = Π_set (λ _. is_set);
    add = λ P Q n. P n + Q n;
    mul = S.product R;
    neg = λ P n. neg (P n);
    zero# = λ n. zero#;
    one# = const one#;
    add_assoc = λ P Q T. fun_ext (λ n. add_assoc (P n) (Q n) (T n));
    add_comm = λ P Q. fun_ext (λ n. add_comm (P n) (Q n));
    add-zero = λ P. fun_ext (λ n. add-zero (P n));
    add_neg = λ P. fun_ext (λ n. add_neg (P n));
    mul_assoc = λ P Q T. fun_ext (λ n. S.product_assoc R n P Q T);
    mul_comm = λ P Q. fun_ext (λ n. S.product_comm R n P Q);
    mul-one = λ P. fun_ext (λ n. S.product_comm R n P (const one#) ∙ one_product n P);
    distrib = λ P Q T. fun_ext (λ n. product_distrib P Q T n);
    of_int = λ z. const (of_int z);
    of_int_one = ap const of_int_one;
    of_int_add = λ a b. fun_ext (const_add a b);
  }
