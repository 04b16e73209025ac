-- The compound Poisson part without its factor: poisson W = Σ Wⁿ / n! for weights W with nothing at 0. It obeys θQ = θW ⋆ Q (poisson_θ),
-- and its sum is at most Σ λⁿ / n! where the weights add to at most λ (poisson_sum).
use Rattle.std.specs.Prelude.{◌≡◌, refl, ℕ, zero, suc, ◌<◌, ◌+◌ as ◌+ⁿ◌, ◌-◌ as ◌∸◌}
use Rattle.std.proofs.Common.{sym, ◌∙◌, ap, ap₂, arith}
use Rattle.std.proofs.Math.Path.{fun_ext}
use Rattle.algebra.specs.Laws as L
use Rattle.algebra.specs.Solver.{ring1, ring3, ring4, 𝟎, 𝟏, ◌⊕◌, ◌⊗◌, ◌:=◌}
use Rattle.algebra.specs.Q.{ℚ, ℚ_ring, zero_q, one_q, ◌+ℚ◌, ◌*ℚ◌, ◌≤ℚ◌, ≤_trans, ≤_of_eq, ≤_mul_left, mul_nn}
use Rattle.algebra.specs.Embedding.{nat}
use Rattle.algebra.specs.Quotient.{inv, inv_cancel}
use Rattle.algebra.specs.RationalSum.{sum, sum_ext, sum_zero, sum_mul, sum_swap, sum_split, sum_mono, sum_nn}
use Rattle.algebra.specs.Power.{pow_q, ifact, ifact_nn}
use Rattle.algebra.specs.PowerSeries.{Ser, 𝕊, ◌⋆◌, ◌⊞◌, θ, const, one_s, pow, product_ext, const_product, const_mul, θ_add, θ_const}
use Rattle.algebra.specs.PowerSeries.{θ_scale, θ_pow, vanishes_pow}
use Rattle.algebra.specs.SeriesOrder.{NonNeg, pow_nn, sum_pow}

-- the first N terms
abbrev pub exp_s : Ser → ℕ → Ser
exp_s W N = λ x. sum N (λ n. ifact n *ℚ pow W n x)

-- at place x the terms n ≤ x count
abbrev pub poisson : Ser → Ser
poisson W x = exp_s W (suc x) x

scaled : (c : ℚ) (P : Ser) → (λ x. c *ℚ P x) ≡ const c ⋆ P
scaled c P = fun_ext (λ x. sym (const_product c P x))

θ_exp_term : (W : Ser) (n : ℕ) → θ (λ x. ifact (suc n) *ℚ pow W (suc n) x) ≡ const (ifact n) ⋆ (pow W n ⋆ θ W)
θ_exp_term W n =
    ap θ (scaled c (pow W (suc n)))
    ∙ θ_scale c (pow W (suc n))
    ∙ ap (λ x. const c ⋆ x) (θ_pow W n)
    ∙ ring3 𝕊 (λ a b t. a ⊗ (b ⊗ t) := (a ⊗ b) ⊗ t) tt (const c) (const (nat (suc n))) (pow W n ⋆ θ W)
    ∙ ap (λ x. x ⋆ (pow W n ⋆ θ W)) (const_mul c (nat (suc n)) ∙ ap const e)
  where
    c : ℚ
    c = ifact (suc n)

    e : inv n *ℚ ifact n *ℚ nat (suc n) ≡ ifact n
    e = ring3 ℚ_ring (λ i f m. i ⊗ f ⊗ m := i ⊗ (m ⊗ f)) tt (inv n) (ifact n) (nat (suc n)) ∙ inv_cancel n (ifact n)

exp_θ : (W : Ser) (N : ℕ) → θ (exp_s W (suc N)) ≡ θ W ⋆ exp_s W N
exp_θ W zero = ap θ (fun_ext (λ x. ring1 ℚ_ring (λ a. 𝟎 ⊕ 𝟏 ⊗ a := a) tt (one_s x))) ∙ θ_const one_q ∙ ring1 𝕊 (λ w. 𝟎 := w ⊗ 𝟎) tt (θ W)
exp_θ W (suc N) =
    θ_add (exp_s W (suc N)) (λ x. ifact (suc N) *ℚ pow W (suc N) x)
    ∙ ap₂ ◌⊞◌ (exp_θ W N) (θ_exp_term W N)
    ∙ ring4 𝕊 (λ w e c p. w ⊗ e ⊕ c ⊗ (p ⊗ w) := w ⊗ (e ⊕ c ⊗ p)) tt (θ W) (exp_s W N) (const (ifact N)) (pow W N)
    ∙ ap (λ x. θ W ⋆ (exp_s W N ⊞ x)) (sym (scaled (ifact N) (pow W N)))

-- the terms past x add nothing at x
pub exp_poisson : (W : Ser) → W 0 ≡ zero_q → (N x : ℕ) → x < N → exp_s W N x ≡ poisson W x
exp_poisson W z N x l =
    ap (λ n. exp_s W n x) e
    ∙ sum_split (suc x) (N ∸ suc x) f
    ∙ ap (λ y. poisson W x +ℚ y) (sum_ext (N ∸ suc x) (λ k. f (suc x +ⁿ k)) (λ k. zero_q) none ∙ sum_zero (N ∸ suc x))
    ∙ ℚ_ring.add-zero (poisson W x)
  where
    f : ℕ → ℚ
    f n = ifact n *ℚ pow W n x

    e : N ≡ suc x +ⁿ (N ∸ suc x)
    e = omega arith

    none : (k : ℕ) → k < N ∸ suc x → f (suc x +ⁿ k) ≡ zero_q
    none k _ = ap (λ y. ifact (suc x +ⁿ k) *ℚ y) (vanishes_pow W z (suc x +ⁿ k) x (omega arith)) ∙ L.mul-zero ℚ_ring (ifact (suc x +ⁿ k))

pub poisson_θ : (W : Ser) → W 0 ≡ zero_q → θ (poisson W) ≡ θ W ⋆ poisson W
poisson_θ W z = fun_ext go
  where
    go : (x : ℕ) → θ (poisson W) x ≡ (θ W ⋆ poisson W) x
    go x = ap (λ y. nat x *ℚ y) (sym (exp_poisson W z (suc (suc x)) x (omega arith)))
        ∙ ap (λ s. s x) (exp_θ W (suc x))
        ∙ product_ext x (θ W) (θ W) (exp_s W (suc x)) (poisson W) (λ k l. refl) (λ k l. exp_poisson W z (suc x) k (omega arith))

pub poisson_nn : (W : Ser) → NonNeg W → NonNeg (poisson W)
poisson_nn W h x = sum_nn (suc x) (λ n. ifact n *ℚ pow W n x) (λ n. mul_nn (ifact_nn n) (pow_nn n W h x))

pub poisson_sum : (W : Ser) (ƛ : ℚ) → W 0 ≡ zero_q → NonNeg W → zero_q ≤ℚ ƛ → (X : ℕ) → sum X W ≤ℚ ƛ →
    sum X (poisson W) ≤ℚ sum X (λ n. ifact n *ℚ pow_q ƛ n)
poisson_sum W ƛ z h p X s =
    ≤_trans (≤_of_eq (sum_ext X (poisson W) (exp_s W X) (λ x l. sym (exp_poisson W z X x l)) ∙ sum_swap X X (λ x n. ifact n *ℚ pow W n x)))
    (sum_mono X (λ n. sum X (λ x. ifact n *ℚ pow W n x)) (λ n. ifact n *ℚ pow_q ƛ n)
    (λ n l. ≤_trans (≤_of_eq (sum_mul X (ifact n) (pow W n))) (≤_mul_left (ifact n) (ifact_nn n) (sum_pow W ƛ h p X s n))))
