-- A member's own distribution c (1 + z), the product of members, and the exact distribution s · Q ⋆ Π c (1 + z). Up to N it obeys
-- θP = (Σ θ log(1 + z) + B) ⋆ P, with the logarithms cut at N, where Q obeys θQ = B ⋆ Q (distribution_upto).
use Rattle.std.specs.Prelude.{◌≡◌, refl, List, [], ◌∷◌, ℕ}
use Rattle.std.proofs.Common.{sym, ◌∙◌, ap}
use Rattle.std.proofs.Math.Path.{fun_ext}
use Rattle.algebra.specs.Laws as L
use Rattle.algebra.specs.Solver.{ring1, ring5, 𝟎, 𝟏, ◌⊕◌, ◌⊗◌, ◌:=◌}
use Rattle.algebra.specs.Q.{ℚ, ℚ_ring, zero_q, one_q}
use Rattle.algebra.specs.Embedding.{nat}
use Rattle.algebra.specs.PowerSeries.{Ser, 𝕊, ◌⋆◌, ◌⊞◌, θ, const, one_s, zero_s, θ_add, θ_mul, θ_const, θ_scale, Upto, upto_of_eq}
use Rattle.algebra.specs.PowerSeries.{upto_trans, upto_add, upto_mul}
use Rattle.expansion.specs.Logarithm.{log_s, log_upto}

-- z: the weights over the chance of nothing, c; ρ: a bound of the sum of z; e: a bound of what the cut leaves out
pub record Member : Type 0 where
  pub z : Ser
  pub c : ℚ
  pub ρ : ℚ
  pub e : ℚ

abbrev pub All : (Member → Type 0) → List Member → Type 0
All f [] = Unit {0}
All f (m ∷ ms) = f m × All f ms

abbrev pub own : Member → Ser
own m = const m.c ⋆ (one_s ⊞ m.z)

abbrev pub own_product : List Member → Ser
own_product [] = one_s
own_product (m ∷ ms) = own m ⋆ own_product ms

-- the sum of the members' logarithms, each cut at order N
abbrev pub logs : ℕ → List Member → Ser
logs N [] = zero_s
logs N (m ∷ ms) = log_s m.z N ⊞ logs N ms

-- the transform of members cut at order r, and of weights W: what the recursion runs on
abbrev pub transform : ℕ → List Member → Ser → Ser
transform r ms W = θ (logs r ms) ⊞ θ W

abbrev pub NoneAtZero : Member → Type 0
NoneAtZero m = m.z 0 ≡ zero_q

θ_own : (m : Member) → θ (own m) ≡ const m.c ⋆ θ m.z
θ_own m = θ_scale m.c (one_s ⊞ m.z) ∙ ap (λ x. const m.c ⋆ x)
    (θ_add one_s m.z ∙ ap (λ x. x ⊞ θ m.z) (θ_const one_q) ∙ ring1 𝕊 (λ t. 𝟎 ⊕ t := t) tt (θ m.z))

pub own_product_upto : (N : ℕ) (ms : List Member) → All NoneAtZero ms → Upto N (θ (own_product ms)) (θ (logs N ms) ⋆ own_product ms)
own_product_upto N [] h = upto_of_eq N (θ_const one_q ∙ ring1 𝕊 (λ t. 𝟎 := 𝟎 ⊗ 𝟏) tt zero_s
    ∙ ap (λ x. x ⋆ one_s) (fun_ext (λ n. sym (L.mul-zero ℚ_ring (nat n)))))
own_product_upto N (m ∷ ms) h =
    upto_trans (upto_of_eq N (θ_mul (own m) R ∙ ap (λ x. x ⋆ R ⊞ own m ⋆ θ R) (θ_own m)))
    (upto_trans (upto_add (upto_mul N (C ⋆ θ m.z) (C ⋆ ((one_s ⊞ m.z) ⋆ T)) R R first (λ x l. refl))
    (upto_mul N (own m) (own m) (θ R) (U ⋆ R) (λ x l. refl) (own_product_upto N ms h.1)))
    (upto_of_eq N (ring5 𝕊 (λ c z t u r. (c ⊗ ((𝟏 ⊕ z) ⊗ t)) ⊗ r ⊕ (c ⊗ (𝟏 ⊕ z)) ⊗ (u ⊗ r) := (t ⊕ u) ⊗ ((c ⊗ (𝟏 ⊕ z)) ⊗ r)) tt C m.z T U R
    ∙ ap (λ x. x ⋆ (own m ⋆ R)) (sym (θ_add (log_s m.z N) (logs N ms))))))
  where
    C : Ser
    C = const m.c

    T : Ser
    T = θ (log_s m.z N)

    U : Ser
    U = θ (logs N ms)

    R : Ser
    R = own_product ms

    first : Upto N (C ⋆ θ m.z) (C ⋆ ((one_s ⊞ m.z) ⋆ T))
    first = upto_mul N C C (θ m.z) ((one_s ⊞ m.z) ⋆ T) (λ x l. refl) (λ x l. sym (log_upto m.z h.0 N x l))

-- s · Q ⋆ Π c (1 + z)
abbrev pub distribution : ℚ → Ser → List Member → Ser
distribution s Q ms = const s ⋆ (Q ⋆ own_product ms)

pub distribution_upto : (N : ℕ) (s : ℚ) (Q B : Ser) (ms : List Member) → All NoneAtZero ms → Upto N (θ Q) (B ⋆ Q) →
    Upto N (θ (distribution s Q ms)) ((θ (logs N ms) ⊞ B) ⋆ distribution s Q ms)
distribution_upto N s Q B ms h q =
    upto_trans (upto_of_eq N (θ_scale s (Q ⋆ R) ∙ ap (λ x. const s ⋆ x) (θ_mul Q R)))
    (upto_trans (upto_mul N (const s) (const s) (θ Q ⋆ R ⊞ Q ⋆ θ R) ((B ⋆ Q) ⋆ R ⊞ Q ⋆ (U ⋆ R)) (λ x l. refl)
    (upto_add (upto_mul N (θ Q) (B ⋆ Q) R R q (λ x l. refl)) (upto_mul N Q Q (θ R) (U ⋆ R) (λ x l. refl) (own_product_upto N ms h))))
    (upto_of_eq N (ring5 𝕊 (λ s v q r u. s ⊗ ((v ⊗ q) ⊗ r ⊕ q ⊗ (u ⊗ r)) := (u ⊕ v) ⊗ (s ⊗ (q ⊗ r))) tt (const s) B Q R U)))
  where
    U : Ser
    U = θ (logs N ms)

    R : Ser
    R = own_product ms
