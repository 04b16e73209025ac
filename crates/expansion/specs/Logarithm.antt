-- The logarithm of 1 + z cut at order N, log_s z N = z - z²/2 + .. ± zᴺ/N. It telescopes, (1 + z) ⋆ θL = θz ⋆ (1 - (-z)ᴺ)
-- (log_telescope), so (1 + z) ⋆ θL = θz up to N where z has nothing at 0 (log_upto).
use Rattle.std.specs.Prelude.{◌≡◌, refl, ℕ, zero, suc}
use Rattle.std.proofs.Common.{sym, ◌∙◌, ap, arith}
use Rattle.std.proofs.Math.Path.{fun_ext}
use Rattle.algebra.specs.Laws as L
use Rattle.algebra.specs.Solver.{◌⊝◌, ring2, ring3, ring4, 𝟎, 𝟏, ◌⊕◌, ◌⊗◌, ⊖◌, ◌:=◌}
use Rattle.algebra.specs.Q.{ℚ, ℚ_ring, neg_q, zero_q, ◌-ℚ◌, ◌*ℚ◌}
use Rattle.algebra.specs.Embedding.{nat}
use Rattle.algebra.specs.Quotient.{inv, inv_ok}
use Rattle.algebra.specs.Power.{sgn}
use Rattle.algebra.specs.PowerSeries.{Ser, 𝕊, ◌⋆◌, ◌⊞◌, minus, θ, const, one_s, zero_s, pow, const_product, const_mul, θ_zero, θ_add}
use Rattle.algebra.specs.PowerSeries.{θ_scale, θ_pow, Upto, vanishes_mul, vanishes_pow}

-- (-1)ⁿ zⁿ⁺¹ / (n + 1)
abbrev pub log_term : Ser → ℕ → Ser
log_term z n = const (sgn n *ℚ inv n) ⋆ pow z (suc n)

abbrev pub log_s : Ser → ℕ → Ser
log_s z zero = zero_s
log_s z (suc n) = log_s z n ⊞ log_term z n

const_neg : (c : ℚ) → const (neg_q c) ≡ minus (const c)
const_neg c = fun_ext go
  where
    go : (n : ℕ) → const (neg_q c) n ≡ neg_q (const c n)
    go zero = refl
    go (suc n) = sym (L.neg_zero ℚ_ring)

-- θ of a term: (-1)ⁿ zⁿ ⋆ θz
θ_log_term : (z : Ser) (n : ℕ) → θ (log_term z n) ≡ const (sgn n) ⋆ (pow z n ⋆ θ z)
θ_log_term z n =
    θ_scale c (pow z (suc n))
    ∙ ap (λ x. const c ⋆ x) (θ_pow z n)
    ∙ ring3 𝕊 (λ a b t. a ⊗ (b ⊗ t) := (a ⊗ b) ⊗ t) tt (const c) (const (nat (suc n))) (pow z n ⋆ θ z)
    ∙ ap (λ x. x ⋆ (pow z n ⋆ θ z)) (const_mul c (nat (suc n)) ∙ ap const e)
  where
    c : ℚ
    c = sgn n *ℚ inv n

    e : sgn n *ℚ inv n *ℚ nat (suc n) ≡ sgn n
    e = ring3 ℚ_ring (λ s i m. s ⊗ i ⊗ m := s ⊗ (m ⊗ i)) tt (sgn n) (inv n) (nat (suc n)) ∙ ap (λ x. sgn n *ℚ x) (inv_ok n)
        ∙ ℚ_ring.mul-one (sgn n)

-- (1 + z) ⋆ θL = θz ⋆ (1 - (-1)ᴺ zᴺ)
pub log_telescope : (z : Ser) (N : ℕ) → (one_s ⊞ z) ⋆ θ (log_s z N) ≡ θ z ⋆ (one_s ⊞ minus (const (sgn N) ⋆ pow z N))
log_telescope z zero =
    ap (λ x. (one_s ⊞ z) ⋆ x) (fun_ext (λ n. L.mul-zero ℚ_ring (nat n)))
    ∙ ring2 𝕊 (λ z t. (𝟏 ⊕ z) ⊗ 𝟎 := t ⊗ (𝟏 ⊝ 𝟏 ⊗ 𝟏)) tt z (θ z)
log_telescope z (suc n) =
    ap (λ x. (one_s ⊞ z) ⋆ x) (θ_add (log_s z n) (log_term z n) ∙ ap (λ x. θ (log_s z n) ⊞ x) (θ_log_term z n))
    ∙ ring3 𝕊 (λ z l u. (𝟏 ⊕ z) ⊗ (l ⊕ u) := (𝟏 ⊕ z) ⊗ l ⊕ (𝟏 ⊕ z) ⊗ u) tt z (θ (log_s z n)) term
    ∙ ap (λ x. x ⊞ (one_s ⊞ z) ⋆ term) (log_telescope z n)
    ∙ ring4 𝕊 (λ z t s p. t ⊗ (𝟏 ⊝ s ⊗ p) ⊕ (𝟏 ⊕ z) ⊗ (s ⊗ (p ⊗ t)) := t ⊗ (𝟏 ⊝ (⊖ s) ⊗ (z ⊗ p))) tt z (θ z) (const (sgn n)) (pow z n)
    ∙ ap (λ x. θ z ⋆ (one_s ⊞ minus (x ⋆ (z ⋆ pow z n)))) (sym (const_neg (sgn n)))
  where
    term : Ser
    term = const (sgn n) ⋆ (pow z n ⋆ θ z)

pub log_upto : (z : Ser) → z 0 ≡ zero_q → (N : ℕ) → Upto N ((one_s ⊞ z) ⋆ θ (log_s z N)) (θ z)
log_upto z h N x l =
    ap (λ s. s x) (log_telescope z N ∙ ring3 𝕊 (λ t s p. t ⊗ (𝟏 ⊝ s ⊗ p) := t ⊝ s ⊗ (t ⊗ p)) tt (θ z) (const (sgn N)) (pow z N))
    ∙ ap (λ y. θ z x -ℚ y) (const_product (sgn N) (θ z ⋆ pow z N) x ∙ ap (λ y. sgn N *ℚ y) none)
    ∙ ring2 ℚ_ring (λ a s. a ⊝ s ⊗ 𝟎 := a) tt (θ z x) (sgn N)
  where
    none : (θ z ⋆ pow z N) x ≡ zero_q
    none = vanishes_mul N (θ z) (pow z N) (θ_zero z) (vanishes_pow z h N) x (omega arith)
