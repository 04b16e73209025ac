-- Power series over ℚ: the product P ⋆ Q, powers, the derivation (θ P) x = x P x with Leibniz (θ_mul) and the power rule (θ_pow),
-- constants as series, series that are equal up to a place N (Upto), and series that vanish below a place (Vanishes).
use Rattle.std.specs.Prelude.{◌≡◌, refl, ℕ, zero, suc, ◌<◌, ◌-◌ as ◌∸◌, ◌≤◌ as ◌≤ⁿ◌}
use Rattle.std.proofs.Common.{sym, ◌∙◌, ap, ap₂, arith}
use Rattle.std.proofs.Math.Path.{fun_ext}
use Rattle.algebra.specs.Ring.{CRing}
use Rattle.algebra.specs.Laws as L
use Rattle.algebra.specs.Series as S
use Rattle.algebra.specs.SeriesRing as SR
use Rattle.algebra.specs.Solver as R
use Rattle.algebra.specs.Solver.{𝟎, 𝟏, ◌⊕◌, ◌⊗◌, ◌:=◌, ring2, ring3}
use Rattle.algebra.specs.Q.{ℚ, ℚ_ring, neg_q, zero_q, one_q, ◌+ℚ◌, ◌*ℚ◌}
use Rattle.algebra.specs.Embedding.{nat, nat_zero}
use Rattle.algebra.specs.RationalSum.{sum}

infixl 6 ◌⊞◌
infixl 7 ◌⋆◌
abbrev pub Ser : Type 0
Ser = ℕ → ℚ

-- the ring of series, for the solver
abbrev pub 𝕊 : CRing
𝕊 = SR.Ser_ring ℚ_ring

abbrev pub ◌⋆◌ : Ser → Ser → Ser
P ⋆ Q = S.product ℚ_ring P Q

abbrev pub ◌⊞◌ : Ser → Ser → Ser
P ⊞ Q = λ n. P n +ℚ Q n

abbrev pub minus : Ser → Ser
minus P = λ n. neg_q (P n)

abbrev pub θ : Ser → Ser
θ P = S.theta ℚ_ring P

-- c at place 0; the series 1 and 0
abbrev pub const : ℚ → Ser
const c = SR.const ℚ_ring c

abbrev pub one_s : Ser
one_s = const one_q

abbrev pub zero_s : Ser
zero_s = λ n. zero_q

abbrev pub pow : Ser → ℕ → Ser
pow G zero = one_s
pow G (suc n) = G ⋆ pow G n

-- ---- products
pub product_sum : (n : ℕ) (P Q : Ser) → (P ⋆ Q) n ≡ sum (suc n) (λ k. P k *ℚ Q (n ∸ k))
product_sum n P Q = S.product_sum ℚ_ring n P Q

pub product_ext : (n : ℕ) (P P' Q Q' : Ser) → ((k : ℕ) → k ≤ⁿ n → P k ≡ P' k) → ((k : ℕ) → k ≤ⁿ n → Q k ≡ Q' k) → (P ⋆ Q) n ≡ (P' ⋆ Q') n
product_ext n P P' Q Q' h k = S.product_ext ℚ_ring n P P' Q Q' h k

pub product_scale : (n : ℕ) (c : ℚ) (P Q : Ser) → ((λ k. c *ℚ P k) ⋆ Q) n ≡ c *ℚ (P ⋆ Q) n
product_scale n c P Q = S.product_scale ℚ_ring n c P Q

pub const_product : (c : ℚ) (P : Ser) (n : ℕ) → (const c ⋆ P) n ≡ c *ℚ P n
const_product c P zero = refl
const_product c P (suc n) = ap (λ x. c *ℚ P (suc n) +ℚ x) (SR.product_zero ℚ_ring n P) ∙ ℚ_ring.add-zero (c *ℚ P (suc n))

pub const_mul : (a b : ℚ) → const a ⋆ const b ≡ const (a *ℚ b)
const_mul a b = fun_ext go
  where
    go : (n : ℕ) → (const a ⋆ const b) n ≡ const (a *ℚ b) n
    go zero = refl
    go (suc n) = const_product a (const b) (suc n) ∙ L.mul-zero ℚ_ring a

-- ---- the derivation
pub θ_zero : (P : Ser) → θ P 0 ≡ zero_q
θ_zero P = ap (λ x. x *ℚ P 0) nat_zero ∙ L.zero-mul ℚ_ring (P 0)

pub θ_add : (P Q : Ser) → θ (P ⊞ Q) ≡ θ P ⊞ θ Q
θ_add P Q = fun_ext (λ n. ℚ_ring.distrib (nat n) (P n) (Q n))

pub θ_mul : (P Q : Ser) → θ (P ⋆ Q) ≡ θ P ⋆ Q ⊞ P ⋆ θ Q
θ_mul P Q = fun_ext (λ n. S.leibniz ℚ_ring n P Q)

pub θ_const : (c : ℚ) → θ (const c) ≡ zero_s
θ_const c = fun_ext go
  where
    go : (n : ℕ) → θ (const c) n ≡ zero_q
    go zero = θ_zero (const c)
    go (suc n) = L.mul-zero ℚ_ring (nat (suc n))

pub θ_scale : (c : ℚ) (P : Ser) → θ (const c ⋆ P) ≡ const c ⋆ θ P
θ_scale c P = θ_mul (const c) P ∙ ap (λ x. x ⋆ P ⊞ const c ⋆ θ P) (θ_const c) ∙ ring3 𝕊 (λ p c t. 𝟎 ⊗ p ⊕ c ⊗ t := c ⊗ t) tt P (const c) (θ P)

-- θ(Gⁿ⁺¹) = (n + 1) Gⁿ ⋆ θG
pub θ_pow : (G : Ser) (n : ℕ) → θ (pow G (suc n)) ≡ const (nat (suc n)) ⋆ (pow G n ⋆ θ G)
θ_pow G zero =
    θ_mul G one_s
    ∙ ap (λ x. θ G ⋆ one_s ⊞ G ⋆ x) (θ_const one_q)
    ∙ ring2 𝕊 (λ g t. t ⊗ 𝟏 ⊕ g ⊗ 𝟎 := 𝟏 ⊗ (𝟏 ⊗ t)) tt G (θ G)
    ∙ ap (λ x. x ⋆ (one_s ⋆ θ G)) (sym 𝕊.of_int_one)
θ_pow G (suc n) =
    θ_mul G (pow G (suc n))
    ∙ ap (λ x. θ G ⋆ pow G (suc n) ⊞ G ⋆ x) (θ_pow G n)
    ∙ R.ring4 𝕊 (λ g t p m. t ⊗ (g ⊗ p) ⊕ g ⊗ (m ⊗ (p ⊗ t)) := (m ⊕ 𝟏) ⊗ ((g ⊗ p) ⊗ t)) tt G (θ G) (pow G n) (const (nat (suc n)))
    ∙ ap (λ x. x ⋆ (pow G (suc n) ⋆ θ G)) (sym (R.nat_suc 𝕊 (suc n)))

-- ---- equal at every place up to N
abbrev pub Upto : ℕ → Ser → Ser → Type 0
Upto N P Q = (x : ℕ) → x ≤ⁿ N → P x ≡ Q x

pub upto_of_eq : (N : ℕ) {P Q : Ser} → P ≡ Q → Upto N P Q
upto_of_eq N e x l = ap (λ s. s x) e

pub upto_trans : {N : ℕ} {P Q T : Ser} → Upto N P Q → Upto N Q T → Upto N P T
upto_trans h k x l = h x l ∙ k x l

pub upto_add : {N : ℕ} {P P' Q Q' : Ser} → Upto N P P' → Upto N Q Q' → Upto N (P ⊞ Q) (P' ⊞ Q')
upto_add h k x l = ap₂ ◌+ℚ◌ (h x l) (k x l)

pub upto_mul : (N : ℕ) (P P' Q Q' : Ser) → Upto N P P' → Upto N Q Q' → Upto N (P ⋆ Q) (P' ⋆ Q')
upto_mul N P P' Q Q' h k x l = product_ext x P P' Q Q' (λ y m. h y (omega arith)) (λ y m. k y (omega arith))

-- ---- 0 at every place below n
abbrev pub Vanishes : ℕ → Ser → Type 0
Vanishes n P = (x : ℕ) → x < n → P x ≡ zero_q

pub vanishes_mul : (n : ℕ) (G P : Ser) → G 0 ≡ zero_q → Vanishes n P → Vanishes (suc n) (G ⋆ P)
vanishes_mul n G P g h zero l = ap (λ x. x *ℚ P 0) g ∙ L.zero-mul ℚ_ring (P 0)
vanishes_mul n G P g h (suc x) l =
    ap₂ ◌+ℚ◌ (ap (λ y. y *ℚ P (suc x)) g ∙ L.zero-mul ℚ_ring (P (suc x)))
    (product_ext x G' G' P zero_s (λ k m. refl) (λ k m. h k (omega arith)) ∙ S.product_comm ℚ_ring x G' zero_s ∙ SR.product_zero ℚ_ring x G')
    ∙ L.zero-add ℚ_ring zero_q
  where
    G' : Ser
    G' = λ k. G (suc k)

pub vanishes_pow : (G : Ser) → G 0 ≡ zero_q → (n : ℕ) → Vanishes n (pow G n)
vanishes_pow G g zero x l = absurd (none l)
  where
    none : x < 0 → ⊥
    none l = omega arith
vanishes_pow G g (suc n) x l = vanishes_mul n G (pow G n) g (vanishes_pow G g n) x l
