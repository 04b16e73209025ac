-- A solver for equations in a commutative ring, by reflection: an expression and its normal form have one value (norm_ok), so two
-- expressions with one normal form are equal (solve). ring1 to ring8 take the equation as a function of its variables, the test by
-- tt, and the values:
--   ring3 R (λ a b c. a ⊗ (b ⊕ c) := a ⊗ b ⊕ a ⊗ c) tt x y z : x * (y + z) ≡ x * y + x * z
-- Before it, the whole numbers of a ring: int_add, int_mul, int_neg, nat_suc.
use Rattle.std.specs.Prelude.{◌≡◌, refl, Bool, true, false, List, [], ◌∷◌, ℕ, zero, suc, ltb, ℤ, pos, negsuc, neg_ℤ, ◌+ℤ◌, ◌*ℤ◌}
use Rattle.std.proofs.Common.{sym, ◌∙◌, ap, ap₂}
use Rattle.std.proofs.Math.IntN.{suc_ℤ, pred_ℤ, suc_ℤ-*ℤ, pred_ℤ-*ℤ, zero-*ℤ, +ℤ_invr, +ℤ_one, -ℤ_one}
use Rattle.algebra.specs.Ring.{CRing}
use Rattle.algebra.specs.Integer.{ℤ_ind'}
use Rattle.algebra.specs.Laws as L
use Rattle.algebra.specs.NormalForm.{Poly, nil, term, Cmp, lt, eq, gt, IsEq, cmp_l, cmp_l_eq, ins_v, mul_m, cons, ins, add_p, mul_t}
use Rattle.algebra.specs.NormalForm.{mul_p, neg_p, norm, eq_p_eq}
use Rattle.algebra.specs.NormalForm.{lhs, rhs, Holds, x0, x1, x2, x3, x4, x5, x6, x7}
pub use Rattle.algebra.specs.NormalForm.{Expr, var, con, 𝟎, 𝟏, ◌⊕◌, ◌⊗◌, ⊖◌, ◌⊝◌, Eqn, ◌:=◌}

module _ (R : CRing) where
  infixl 6 ◌+◌
  infixl 7 ◌*◌
  open R use {Carrier, add as ◌+◌, mul as ◌*◌, neg, zero#, one#, add_assoc, add-zero, mul_assoc, mul-one, distrib, of_int, of_int_one, of_int_add}

  -- the ring's whole numbers
  abbrev pub int : ℤ → Carrier
  int z = of_int z

  abbrev pub nat : ℕ → Carrier
  nat n = of_int (pos n)

  abbrev pub lookup : List Carrier → ℕ → Carrier
  lookup [] n = zero#
  lookup (x ∷ xs) zero = x
  lookup (x ∷ xs) (suc n) = lookup xs n

  abbrev pub eval : List Carrier → Expr → Carrier
  eval ρ (var v) = lookup ρ v
  eval ρ 𝟎 = zero#
  eval ρ 𝟏 = one#
  eval ρ (con c) = int c
  eval ρ (a ⊕ b) = eval ρ a + eval ρ b
  eval ρ (a ⊗ b) = eval ρ a * eval ρ b
  eval ρ (⊖ a) = neg (eval ρ a)

  abbrev pub Says : List Carrier → Eqn → Type 0
  Says ρ e = eval ρ (lhs e) ≡ eval ρ (rhs e)

  pub int_add : (a b : ℤ) → int (a +ℤ b) ≡ int a + int b
  int_add a b = of_int_add a b

  pub int_zero : int (pos 0) ≡ zero#
  int_zero = L.add_cancel R (int (pos 0)) (int (pos 0)) zero# (sym (int_add (pos 0) (pos 0)) ∙ sym (add-zero (int (pos 0))))

  pub int_neg : (a : ℤ) → int (neg_ℤ a) ≡ neg (int a)
  int_neg a = L.neg_unique R (int a) (int (neg_ℤ a)) (sym (int_add a (neg_ℤ a)) ∙ ap int (+ℤ_invr a) ∙ int_zero)

  pub int_suc : (k : ℤ) → int (suc_ℤ k) ≡ int k + one#
  int_suc k = ap int (sym (+ℤ_one k)) ∙ int_add k (pos 1) ∙ ap (λ x. int k + x) of_int_one

  pub int_pred : (k : ℤ) → int (pred_ℤ k) ≡ int k + neg one#
  int_pred k = ap int (sym (-ℤ_one k)) ∙ int_add k (neg_ℤ (pos 1)) ∙ ap (λ x. int k + x) (int_neg (pos 1) ∙ ap neg of_int_one)

  pub nat_suc : (n : ℕ) → nat (suc n) ≡ nat n + one#
  nat_suc n = int_suc (pos n)

  pub int_mul : (a b : ℤ) → int (a *ℤ b) ≡ int a * int b
  int_mul a b = ℤ_ind' (λ a. int (a *ℤ b) ≡ int a * int b) none next before a
    where
      none : int (pos 0 *ℤ b) ≡ int (pos 0) * int b
      none = ap int (zero-*ℤ b) ∙ int_zero ∙ sym (L.zero-mul R (int b)) ∙ ap (λ x. x * int b) (sym int_zero)

      next : (k : ℤ) → int (k *ℤ b) ≡ int k * int b → int (suc_ℤ k *ℤ b) ≡ int (suc_ℤ k) * int b
      next k h = ap int (suc_ℤ-*ℤ k b) ∙ int_add (k *ℤ b) b ∙ ap₂ ◌+◌ h (sym (L.one-mul R (int b)))
          ∙ sym (L.distrib' R (int k) one# (int b)) ∙ ap (λ x. x * int b) (sym (int_suc k))

      minus : neg (int b) ≡ neg one# * int b
      minus = ap neg (sym (L.one-mul R (int b))) ∙ sym (L.neg_mul R one# (int b))

      before : (k : ℤ) → int (k *ℤ b) ≡ int k * int b → int (pred_ℤ k *ℤ b) ≡ int (pred_ℤ k) * int b
      before k h = ap int (pred_ℤ-*ℤ k b) ∙ int_add (k *ℤ b) (neg_ℤ b) ∙ ap₂ ◌+◌ h (int_neg b ∙ minus)
          ∙ sym (L.distrib' R (int k) (neg one#) (int b)) ∙ ap (λ x. x * int b) (sym (int_pred k))

  module _ (ρ : List Carrier) where
    abbrev ev_m : List ℕ → Carrier
    ev_m [] = one#
    ev_m (v ∷ m) = lookup ρ v * ev_m m

    abbrev ev_p : Poly → Carrier
    ev_p nil = zero#
    ev_p (term c m p) = int c * ev_m m + ev_p p

    ins_v_ok : (v : ℕ) (m : List ℕ) → ev_m (ins_v v m) ≡ lookup ρ v * ev_m m
    ins_v_ok v [] = refl
    ins_v_ok v (w ∷ m) = go (ltb w v) (ins_v_ok v m)
      where
        go : (l : Bool) → ev_m (ins_v v m) ≡ lookup ρ v * ev_m m →
            ev_m (elim l as (λ _. List ℕ) [ true ↦ w ∷ ins_v v m | false ↦ v ∷ w ∷ m ]) ≡ lookup ρ v * (lookup ρ w * ev_m m)
        go true ih = ap (λ x. lookup ρ w * x) ih ∙ L.mul_left_comm R (lookup ρ w) (lookup ρ v) (ev_m m)
        go false ih = refl

    mul_m_ok : (m k : List ℕ) → ev_m (mul_m m k) ≡ ev_m m * ev_m k
    mul_m_ok [] k = sym (L.one-mul R (ev_m k))
    mul_m_ok (v ∷ m) k = ins_v_ok v (mul_m m k) ∙ ap (λ x. lookup ρ v * x) (mul_m_ok m k) ∙ sym (mul_assoc (lookup ρ v) (ev_m m) (ev_m k))

    cons_ok : (c : ℤ) (m : List ℕ) (p : Poly) → ev_p (cons c m p) ≡ int c * ev_m m + ev_p p
    cons_ok (pos zero) m p = sym (ap (λ x. x * ev_m m + ev_p p) int_zero ∙ ap (λ x. x + ev_p p) (L.zero-mul R (ev_m m)) ∙ L.zero-add R (ev_p p))
    cons_ok (pos (suc n)) m p = refl
    cons_ok (negsuc n) m p = refl

    ins_ok : (c : ℤ) (m : List ℕ) (p : Poly) → ev_p (ins c m p) ≡ int c * ev_m m + ev_p p
    ins_ok c m nil = refl
    ins_ok c m (term d k p) = go (cmp_l m k) (cmp_l_eq m k) (ins_ok c m p)
      where
        go : (o : Cmp) → (IsEq o → m ≡ k) → ev_p (ins c m p) ≡ int c * ev_m m + ev_p p →
            ev_p (elim o as (λ _. Poly) [ lt ↦ term c m (term d k p) | eq ↦ cons (c +ℤ d) k p | gt ↦ term d k (ins c m p) ])
            ≡ int c * ev_m m + (int d * ev_m k + ev_p p)
        go lt f ih = refl
        go eq f ih =
            cons_ok (c +ℤ d) k p
            ∙ ap (λ x. x * ev_m k + ev_p p) (int_add c d)
            ∙ ap (λ x. x + ev_p p) (L.distrib' R (int c) (int d) (ev_m k))
            ∙ add_assoc (int c * ev_m k) (int d * ev_m k) (ev_p p)
            ∙ ap (λ x. int c * ev_m x + (int d * ev_m k + ev_p p)) (sym (f tt))
        go gt f ih = ap (λ x. int d * ev_m k + x) ih ∙ L.add_left_comm R (int d * ev_m k) (int c * ev_m m) (ev_p p)

    add_p_ok : (p q : Poly) → ev_p (add_p p q) ≡ ev_p p + ev_p q
    add_p_ok nil q = sym (L.zero-add R (ev_p q))
    add_p_ok (term c m p) q = ins_ok c m (add_p p q) ∙ ap (λ x. int c * ev_m m + x) (add_p_ok p q) ∙ sym (add_assoc (int c * ev_m m) (ev_p p) (ev_p q))

    mul_inter : (a b c d : Carrier) → (a * b) * (c * d) ≡ (a * c) * (b * d)
    mul_inter a b c d = mul_assoc a b (c * d) ∙ ap (λ x. a * x) (L.mul_left_comm R b c d) ∙ sym (mul_assoc a c (b * d))

    mul_t_ok : (c : ℤ) (m : List ℕ) (q r : Poly) → ev_p (mul_t c m q r) ≡ (int c * ev_m m) * ev_p q + ev_p r
    mul_t_ok c m nil r = sym (ap (λ x. x + ev_p r) (L.mul-zero R (int c * ev_m m)) ∙ L.zero-add R (ev_p r))
    mul_t_ok c m (term d k q) r =
        ins_ok (c *ℤ d) (mul_m m k) (mul_t c m q r)
        ∙ ap₂ ◌+◌ (ap₂ ◌*◌ (int_mul c d) (mul_m_ok m k) ∙ mul_inter (int c) (int d) (ev_m m) (ev_m k)) (mul_t_ok c m q r)
        ∙ sym (add_assoc ((int c * ev_m m) * (int d * ev_m k)) ((int c * ev_m m) * ev_p q) (ev_p r))
        ∙ ap (λ x. x + ev_p r) (sym (distrib (int c * ev_m m) (int d * ev_m k) (ev_p q)))

    mul_p_ok : (p q : Poly) → ev_p (mul_p p q) ≡ ev_p p * ev_p q
    mul_p_ok nil q = sym (L.zero-mul R (ev_p q))
    mul_p_ok (term c m p) q = mul_t_ok c m q (mul_p p q) ∙ ap (λ x. (int c * ev_m m) * ev_p q + x) (mul_p_ok p q)
        ∙ sym (L.distrib' R (int c * ev_m m) (ev_p p) (ev_p q))

    neg_p_ok : (p : Poly) → ev_p (neg_p p) ≡ neg (ev_p p)
    neg_p_ok nil = sym (L.neg_zero R)
    neg_p_ok (term c m p) = ap₂ ◌+◌ (ap (λ x. x * ev_m m) (int_neg c) ∙ L.neg_mul R (int c) (ev_m m)) (neg_p_ok p)
        ∙ sym (L.neg_sum R (int c * ev_m m) (ev_p p))

    norm_ok : (e : Expr) → ev_p (norm e) ≡ eval ρ e
    norm_ok (var v) = add-zero (int (pos 1) * (lookup ρ v * one#)) ∙ ap₂ ◌*◌ of_int_one (mul-one (lookup ρ v)) ∙ L.one-mul R (lookup ρ v)
    norm_ok 𝟎 = refl
    norm_ok 𝟏 = add-zero (int (pos 1) * one#) ∙ mul-one (int (pos 1)) ∙ of_int_one
    norm_ok (con c) = cons_ok c [] nil ∙ add-zero (int c * one#) ∙ mul-one (int c)
    norm_ok (a ⊕ b) = add_p_ok (norm a) (norm b) ∙ ap₂ ◌+◌ (norm_ok a) (norm_ok b)
    norm_ok (a ⊗ b) = mul_p_ok (norm a) (norm b) ∙ ap₂ ◌*◌ (norm_ok a) (norm_ok b)
    norm_ok (⊖ a) = neg_p_ok (norm a) ∙ ap neg (norm_ok a)

    pub solve : (e : Eqn) → Holds e → Says ρ e
    solve e h = sym (norm_ok (lhs e)) ∙ ap ev_p (eq_p_eq (norm (lhs e)) (norm (rhs e)) h) ∙ norm_ok (rhs e)

  pub ring1 : (f : Expr → Eqn) → Holds (f x0) → (a0 : Carrier) → Says (a0 ∷ []) (f x0)
  ring1 f h a0 = solve (a0 ∷ []) (f x0) h

  pub ring2 : (f : Expr → Expr → Eqn) → Holds (f x0 x1) → (a0 a1 : Carrier) → Says (a0 ∷ a1 ∷ []) (f x0 x1)
  ring2 f h a0 a1 = solve (a0 ∷ a1 ∷ []) (f x0 x1) h

  pub ring3 : (f : Expr → Expr → Expr → Eqn) → Holds (f x0 x1 x2) → (a0 a1 a2 : Carrier) → Says (a0 ∷ a1 ∷ a2 ∷ []) (f x0 x1 x2)
  ring3 f h a0 a1 a2 = solve (a0 ∷ a1 ∷ a2 ∷ []) (f x0 x1 x2) h

  pub ring4 : (f : Expr → Expr → Expr → Expr → Eqn) → Holds (f x0 x1 x2 x3) → (a0 a1 a2 a3 : Carrier) →
      Says (a0 ∷ a1 ∷ a2 ∷ a3 ∷ []) (f x0 x1 x2 x3)
  ring4 f h a0 a1 a2 a3 = solve (a0 ∷ a1 ∷ a2 ∷ a3 ∷ []) (f x0 x1 x2 x3) h

  pub ring5 : (f : Expr → Expr → Expr → Expr → Expr → Eqn) → Holds (f x0 x1 x2 x3 x4) →
      (a0 a1 a2 a3 a4 : Carrier) → Says (a0 ∷ a1 ∷ a2 ∷ a3 ∷ a4 ∷ []) (f x0 x1 x2 x3 x4)
  ring5 f h a0 a1 a2 a3 a4 = solve (a0 ∷ a1 ∷ a2 ∷ a3 ∷ a4 ∷ []) (f x0 x1 x2 x3 x4) h

  pub ring6 : (f : Expr → Expr → Expr → Expr → Expr → Expr → Eqn) → Holds (f x0 x1 x2 x3 x4 x5) →
      (a0 a1 a2 a3 a4 a5 : Carrier) → Says (a0 ∷ a1 ∷ a2 ∷ a3 ∷ a4 ∷ a5 ∷ []) (f x0 x1 x2 x3 x4 x5)
  ring6 f h a0 a1 a2 a3 a4 a5 = solve (a0 ∷ a1 ∷ a2 ∷ a3 ∷ a4 ∷ a5 ∷ []) (f x0 x1 x2 x3 x4 x5) h

  pub ring7 : (f : Expr → Expr → Expr → Expr → Expr → Expr → Expr → Eqn) → Holds (f x0 x1 x2 x3 x4 x5 x6) →
      (a0 a1 a2 a3 a4 a5 a6 : Carrier) → Says (a0 ∷ a1 ∷ a2 ∷ a3 ∷ a4 ∷ a5 ∷ a6 ∷ []) (f x0 x1 x2 x3 x4 x5 x6)
  ring7 f h a0 a1 a2 a3 a4 a5 a6 = solve (a0 ∷ a1 ∷ a2 ∷ a3 ∷ a4 ∷ a5 ∷ a6 ∷ []) (f x0 x1 x2 x3 x4 x5 x6) h

  pub ring8 : (f : Expr → Expr → Expr → Expr → Expr → Expr → Expr → Expr → Eqn) → Holds (f x0 x1 x2 x3 x4 x5 x6 x7) →
      (a0 a1 a2 a3 a4 a5 a6 a7 : Carrier) → Says (a0 ∷ a1 ∷ a2 ∷ a3 ∷ a4 ∷ a5 ∷ a6 ∷ a7 ∷ []) (f x0 x1 x2 x3 x4 x5 x6 x7)
  ring8 f h a0 a1 a2 a3 a4 a5 a6 a7 = solve (a0 ∷ a1 ∷ a2 ∷ a3 ∷ a4 ∷ a5 ∷ a6 ∷ a7 ∷ []) (f x0 x1 x2 x3 x4 x5 x6 x7) h
