-- Expressions of a commutative ring and their normal form (norm): a sum of monomials in order, each a coefficient and its variables
-- in order. Normal forms are compared by computation (eq_p), and Holds says that the two sides of an equation have the same one.
use Rattle.std.specs.Prelude.{◌≡◌, refl, Bool, true, false, List, [], ◌∷◌, ℕ, zero, suc, T, ltb, eqb, ℤ, pos, negsuc, neg_ℤ, ◌+ℤ◌, ◌*ℤ◌}
use Rattle.std.proofs.Common.{ap, ap₂, eqb→eq}

pub data Expr : Type 0 where
  var : ℕ → Expr
  𝟎 𝟏 : Expr
  con : ℤ → Expr
  ◌⊕◌ : Expr → Expr → Expr
  ◌⊗◌ : Expr → Expr → Expr
  ⊖◌ : Expr → Expr

infixl 6 ◌⊕◌
infixl 7 ◌⊗◌
infix 8 ⊖◌
infixl 6 ◌⊝◌
infix 4 ◌:=◌
pub data Eqn : Type 0 where
  ◌:=◌ : Expr → Expr → Eqn

abbrev pub lhs : Eqn → Expr
lhs (a := b) = a

abbrev pub rhs : Eqn → Expr
rhs (a := b) = b

abbrev pub ◌⊝◌ : Expr → Expr → Expr
a ⊝ b = a ⊕ (⊖ b)

-- a sum of monomials: coefficient, variables in order
pub data Poly : Type 0 where
  nil : Poly
  term : ℤ → List ℕ → Poly → Poly

pub data Cmp : Type 0 where
  lt eq gt : Cmp

abbrev pub cmp_l : List ℕ → List ℕ → Cmp
cmp_l [] [] = eq
cmp_l [] (b ∷ k) = lt
cmp_l (a ∷ m) [] = gt
cmp_l (a ∷ m) (b ∷ k) = elim (eqb a b) [ true ↦ cmp_l m k | false ↦ elim (ltb a b) [ true ↦ lt | false ↦ gt ] ]

-- one variable into a monomial
abbrev pub ins_v : ℕ → List ℕ → List ℕ
ins_v v [] = v ∷ []
ins_v v (w ∷ m) = elim (ltb w v) [ true ↦ w ∷ ins_v v m | false ↦ v ∷ w ∷ m ]

abbrev pub mul_m : List ℕ → List ℕ → List ℕ
mul_m [] k = k
mul_m (v ∷ m) k = ins_v v (mul_m m k)

-- a term, unless its coefficient is zero
abbrev pub cons : ℤ → List ℕ → Poly → Poly
cons (pos zero) m p = p
cons (pos (suc n)) m p = term (pos (suc n)) m p
cons (negsuc n) m p = term (negsuc n) m p

abbrev pub ins : ℤ → List ℕ → Poly → Poly
ins c m nil = term c m nil
ins c m (term d k p) = elim (cmp_l m k) [ lt ↦ term c m (term d k p) | eq ↦ cons (c +ℤ d) k p | gt ↦ term d k (ins c m p) ]

abbrev pub add_p : Poly → Poly → Poly
add_p nil q = q
add_p (term c m p) q = ins c m (add_p p q)

-- c · m · q, added to r
abbrev pub mul_t : ℤ → List ℕ → Poly → Poly → Poly
mul_t c m nil r = r
mul_t c m (term d k q) r = ins (c *ℤ d) (mul_m m k) (mul_t c m q r)

abbrev pub mul_p : Poly → Poly → Poly
mul_p nil q = nil
mul_p (term c m p) q = mul_t c m q (mul_p p q)

abbrev pub neg_p : Poly → Poly
neg_p nil = nil
neg_p (term c m p) = term (neg_ℤ c) m (neg_p p)

abbrev pub norm : Expr → Poly
norm (var v) = term (pos 1) (v ∷ []) nil
norm 𝟎 = nil
norm 𝟏 = term (pos 1) [] nil
norm (con c) = cons c [] nil
norm (a ⊕ b) = add_p (norm a) (norm b)
norm (a ⊗ b) = mul_p (norm a) (norm b)
norm (⊖ a) = neg_p (norm a)

abbrev pub IsEq : Cmp → Type 0
IsEq lt = ⊥
IsEq eq = Unit {0}
IsEq gt = ⊥

pub cmp_l_eq : (m k : List ℕ) → IsEq (cmp_l m k) → m ≡ k
cmp_l_eq [] [] t = refl
cmp_l_eq [] (b ∷ k) t = absurd t
cmp_l_eq (a ∷ m) [] t = absurd t
cmp_l_eq (a ∷ m) (b ∷ k) t = go (eqb a b) (λ e. eqb→eq a b e) (ltb a b) (cmp_l_eq m k) t
  where
    go : (e : Bool) → (T e → a ≡ b) → (l : Bool) → (IsEq (cmp_l m k) → m ≡ k) →
        IsEq (elim e as (λ _. Cmp) [ true ↦ cmp_l m k | false ↦ elim l [ true ↦ lt | false ↦ gt ] ]) → ◌≡◌ {A = List ℕ} (a ∷ m) (b ∷ k)
    go true f l ih t = ap₂ ◌∷◌ (f tt) (ih t)
    go false f true ih t = absurd t
    go false f false ih t = absurd t

abbrev pub eq_z : ℤ → ℤ → Bool
eq_z (pos a) (pos b) = eqb a b
eq_z (pos a) (negsuc b) = false
eq_z (negsuc a) (pos b) = false
eq_z (negsuc a) (negsuc b) = eqb a b

abbrev pub eq_p : Poly → Poly → Bool
eq_p nil nil = true
eq_p nil (term d k q) = false
eq_p (term c m p) nil = false
eq_p (term c m p) (term d k q) = elim (eq_z c d) [ true ↦ elim (cmp_l m k) [ lt ↦ false | eq ↦ eq_p p q | gt ↦ false ] | false ↦ false ]

eq_z_eq : (a b : ℤ) → T (eq_z a b) → a ≡ b
eq_z_eq (pos a) (pos b) t = ap pos (eqb→eq a b t)
eq_z_eq (pos a) (negsuc b) t = absurd t
eq_z_eq (negsuc a) (pos b) t = absurd t
eq_z_eq (negsuc a) (negsuc b) t = ap negsuc (eqb→eq a b t)

pub eq_p_eq : (p q : Poly) → T (eq_p p q) → p ≡ q
eq_p_eq nil nil t = refl
eq_p_eq nil (term d k q) t = absurd t
eq_p_eq (term c m p) nil t = absurd t
eq_p_eq (term c m p) (term d k q) t = go (eq_z c d) (eq_z_eq c d) (cmp_l m k) (cmp_l_eq m k) (eq_p_eq p q) t
  where
    go : (b : Bool) → (T b → c ≡ d) → (o : Cmp) → (IsEq o → m ≡ k) → (T (eq_p p q) → p ≡ q) →
        T (elim b as (λ _. Bool) [ true ↦ elim o [ lt ↦ false | eq ↦ eq_p p q | gt ↦ false ] | false ↦ false ]) → term c m p ≡ term d k q
    go true f lt g ih t = absurd t
    go true f eq g ih t = λ i. term (f tt i) (g tt i) (ih t i)
    go true f gt g ih t = absurd t
    go false f o g ih t = absurd t

-- the two sides have the same normal form
abbrev pub Holds : Eqn → Type 0
Holds e = T (eq_p (norm (lhs e)) (norm (rhs e)))

abbrev pub x0 : Expr
x0 = var 0

abbrev pub x1 : Expr
x1 = var 1

abbrev pub x2 : Expr
x2 = var 2

abbrev pub x3 : Expr
x3 = var 3

abbrev pub x4 : Expr
x4 = var 4

abbrev pub x5 : Expr
x5 = var 5

abbrev pub x6 : Expr
x6 = var 6

abbrev pub x7 : Expr
x7 = var 7
