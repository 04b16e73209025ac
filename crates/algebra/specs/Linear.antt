-- Linear inequalities in an ordered commutative ring, by a certificate: each fact a ≼ b with how often it is taken, what is
-- left over, a whole number, and the goal. lin1 to lin6 take the claim as a function of its variables, the test by tt, the
-- values and the facts:
--   lin3 R O (λ x y z. 2 ⋅ x ≼ y ∣ 2 ⋅ y ≼ z ∣ rest 1 ⊢ x ⊕ x ≼ z ⊕ z ⊕ 𝟏) tt a b c (h, (k, tt))
use Rattle.std.specs.Prelude.{List, [], ◌∷◌, ℕ, T, pos}
use Rattle.algebra.specs.Ring.{CRing}
use Rattle.algebra.specs.Order as O
use Rattle.algebra.specs.Order.{Ord}
use Rattle.algebra.specs.NormalForm.{norm, eq_p, x0, x1, x2, x3, x4, x5}
use Rattle.algebra.specs.Solver.{Expr, con, ◌⊕◌, ◌⊗◌, ◌⊝◌, ◌:=◌, eval, solve}

infixr 3 ◌∣◌
infix 5 ◌≼◌
infix 4 ◌⋅◌
infix 2 ◌⊢◌
-- facts a ≤ b, each with how often it is taken, and at the end what is left over, a whole number
pub data Claim : Type 0 where
  ◌≼◌ : Expr → Expr → Claim

pub data Fact : Type 0 where
  ◌⋅◌ : ℕ → Claim → Fact

pub data Facts : Type 0 where
  rest : ℕ → Facts
  ◌∣◌ : Fact → Facts → Facts

pub data Goal : Type 0 where
  ◌⊢◌ : Facts → Claim → Goal

abbrev pub comb : Facts → Expr
comb (rest k) = con (pos k)
comb (c ⋅ (a ≼ b) ∣ f) = con (pos c) ⊗ (b ⊝ a) ⊕ comb f

abbrev pub lower : Goal → Expr
lower (f ⊢ (a ≼ b)) = a

abbrev pub upper : Goal → Expr
upper (f ⊢ (a ≼ b)) = b

abbrev pub facts : Goal → Facts
facts (f ⊢ (a ≼ b)) = f

abbrev pub works : Goal → Type 0
works g = T (eq_p (norm (comb (facts g))) (norm (upper g ⊝ lower g)))

module _ (R : CRing) (Q : Ord R) where
  open R use {Carrier}

  abbrev pub Given : List Carrier → Facts → Type 0
  Given ρ (rest k) = Unit {0}
  Given ρ (c ⋅ (a ≼ b) ∣ f) = O.◌≤◌ R Q (eval R ρ a) (eval R ρ b) × Given ρ f

  comb_nn : (ρ : List Carrier) (f : Facts) → Given ρ f → T (Q.nonneg (eval R ρ (comb f)))
  comb_nn ρ (rest k) h = O.nat_nn R Q k
  comb_nn ρ (c ⋅ (a ≼ b) ∣ f) h = Q.nn_add (eval R ρ (con (pos c) ⊗ (b ⊝ a))) (eval R ρ (comb f))
      (Q.nn_mul (eval R ρ (con (pos c))) (eval R ρ (b ⊝ a)) (O.nat_nn R Q c) h.0.le) (comb_nn ρ f h.1)

  abbrev pub Shows : List Carrier → Goal → Type 0
  Shows ρ g = O.◌≤◌ R Q (eval R ρ (lower g)) (eval R ρ (upper g))

  pub linear : (ρ : List Carrier) (g : Goal) → works g → Given ρ (facts g) → Shows ρ g
  linear ρ g w h = O.le_by R Q (eval R ρ (lower g)) (eval R ρ (upper g)) (eval R ρ (comb (facts g))) (comb_nn ρ (facts g) h)
      (solve R ρ (comb (facts g) := upper g ⊝ lower g) w)

  pub lin1 : (g : Expr → Goal) → works (g x0) → (a0 : Carrier) →
      Given (a0 ∷ []) (facts (g x0)) → Shows (a0 ∷ []) (g x0)
  lin1 g w a0 h = linear (a0 ∷ []) (g x0) w h

  pub lin2 : (g : Expr → Expr → Goal) → works (g x0 x1) → (a0 a1 : Carrier) →
      Given (a0 ∷ a1 ∷ []) (facts (g x0 x1)) → Shows (a0 ∷ a1 ∷ []) (g x0 x1)
  lin2 g w a0 a1 h = linear (a0 ∷ a1 ∷ []) (g x0 x1) w h

  pub lin3 : (g : Expr → Expr → Expr → Goal) → works (g x0 x1 x2) → (a0 a1 a2 : Carrier) →
      Given (a0 ∷ a1 ∷ a2 ∷ []) (facts (g x0 x1 x2)) → Shows (a0 ∷ a1 ∷ a2 ∷ []) (g x0 x1 x2)
  lin3 g w a0 a1 a2 h = linear (a0 ∷ a1 ∷ a2 ∷ []) (g x0 x1 x2) w h

  pub lin4 : (g : Expr → Expr → Expr → Expr → Goal) → works (g x0 x1 x2 x3) → (a0 a1 a2 a3 : Carrier) →
      Given (a0 ∷ a1 ∷ a2 ∷ a3 ∷ []) (facts (g x0 x1 x2 x3)) → Shows (a0 ∷ a1 ∷ a2 ∷ a3 ∷ []) (g x0 x1 x2 x3)
  lin4 g w a0 a1 a2 a3 h = linear (a0 ∷ a1 ∷ a2 ∷ a3 ∷ []) (g x0 x1 x2 x3) w h

  pub lin5 : (g : Expr → Expr → Expr → Expr → Expr → Goal) → works (g x0 x1 x2 x3 x4) → (a0 a1 a2 a3 a4 : Carrier) →
      Given (a0 ∷ a1 ∷ a2 ∷ a3 ∷ a4 ∷ []) (facts (g x0 x1 x2 x3 x4)) → Shows (a0 ∷ a1 ∷ a2 ∷ a3 ∷ a4 ∷ []) (g x0 x1 x2 x3 x4)
  lin5 g w a0 a1 a2 a3 a4 h = linear (a0 ∷ a1 ∷ a2 ∷ a3 ∷ a4 ∷ []) (g x0 x1 x2 x3 x4) w h

  pub lin6 : (g : Expr → Expr → Expr → Expr → Expr → Expr → Goal) → works (g x0 x1 x2 x3 x4 x5) → (a0 a1 a2 a3 a4 a5 : Carrier) →
      Given (a0 ∷ a1 ∷ a2 ∷ a3 ∷ a4 ∷ a5 ∷ []) (facts (g x0 x1 x2 x3 x4 x5)) → Shows (a0 ∷ a1 ∷ a2 ∷ a3 ∷ a4 ∷ a5 ∷ []) (g x0 x1 x2 x3 x4 x5)
  lin6 g w a0 a1 a2 a3 a4 a5 h = linear (a0 ∷ a1 ∷ a2 ∷ a3 ∷ a4 ∷ a5 ∷ []) (g x0 x1 x2 x3 x4 x5) w h
