-- Polynomials with whole coefficients, as lists, the constant one first, and their values at a rational number (ev): sums, products,
-- the polynomial at -y (alt_l), and values at whole numbers (ev_int).
use Rattle.std.specs.Prelude.{◌≡◌, List, [], ◌∷◌, ℕ, zero, suc, ℤ, pos, neg_ℤ, ◌+ℤ◌, ◌*ℤ◌}
use Rattle.std.proofs.Common.{sym, ◌∙◌, ap, ap₂}
use Rattle.algebra.specs.Laws as L
use Rattle.algebra.specs.Solver.{ring1, ring4, ring5, 𝟎, 𝟏, ◌⊕◌, ◌⊗◌, ⊖◌, ◌:=◌}
use Rattle.algebra.specs.Q.{ℚ, ℚ_ring, neg_q, zero_q, ◌+ℚ◌, ◌*ℚ◌}
use Rattle.algebra.specs.Embedding.{ofℤ, ofℤ_one, ofℤ_add, ofℤ_neg, ofℤ_mul, nat_zero}
use Rattle.algebra.specs.Power.{pow_q}

abbrev pub add_l : List ℤ → List ℤ → List ℤ
add_l [] q = q
add_l (a ∷ p) [] = a ∷ p
add_l (a ∷ p) (b ∷ q) = (a +ℤ b) ∷ add_l p q

abbrev pub scale_l : ℤ → List ℤ → List ℤ
scale_l c [] = []
scale_l c (a ∷ p) = (c *ℤ a) ∷ scale_l c p

abbrev pub mul_l : List ℤ → List ℤ → List ℤ
mul_l [] q = []
mul_l (a ∷ p) q = add_l (scale_l a q) (pos 0 ∷ mul_l p q)

-- at -y, times σ
abbrev pub alt_l : ℤ → List ℤ → List ℤ
alt_l σ [] = []
alt_l σ (a ∷ p) = (σ *ℤ a) ∷ alt_l (neg_ℤ σ) p

abbrev pub mono : ℕ → List ℤ
mono zero = pos 1 ∷ []
mono (suc n) = pos 0 ∷ mono n

abbrev pub ev_z : List ℤ → ℤ → ℤ
ev_z [] b = pos 0
ev_z (a ∷ p) b = a +ℤ b *ℤ ev_z p b

unfoldable pub ev : List ℤ → ℚ → ℚ
ev [] y = zero_q
ev (a ∷ p) y = ofℤ a +ℚ y *ℚ ev p y

pub ev_add : (p q : List ℤ) (y : ℚ) → ev (add_l p q) y ≡ ev p y +ℚ ev q y
unfolding ev
ev_add [] q y = sym (L.zero-add ℚ_ring (ev q y))
ev_add (a ∷ p) [] y = ring1 ℚ_ring (λ a. a := a ⊕ 𝟎) tt (ofℤ a +ℚ y *ℚ ev p y)
ev_add (a ∷ p) (b ∷ q) y = ap₂ (λ u v. u +ℚ y *ℚ v) (ofℤ_add a b) (ev_add p q y)
    ∙ ring5 ℚ_ring (λ a b y p q. (a ⊕ b) ⊕ y ⊗ (p ⊕ q) := (a ⊕ y ⊗ p) ⊕ (b ⊕ y ⊗ q)) tt (ofℤ a) (ofℤ b) y (ev p y) (ev q y)

pub ev_scale : (c : ℤ) (p : List ℤ) (y : ℚ) → ev (scale_l c p) y ≡ ofℤ c *ℚ ev p y
unfolding ev
ev_scale c [] y = sym (L.mul-zero ℚ_ring (ofℤ c))
ev_scale c (a ∷ p) y = ap₂ (λ u v. u +ℚ y *ℚ v) (ofℤ_mul c a) (ev_scale c p y)
    ∙ ring4 ℚ_ring (λ c a y p. c ⊗ a ⊕ y ⊗ (c ⊗ p) := c ⊗ (a ⊕ y ⊗ p)) tt (ofℤ c) (ofℤ a) y (ev p y)

pub ev_mul : (p q : List ℤ) (y : ℚ) → ev (mul_l p q) y ≡ ev p y *ℚ ev q y
unfolding ev
ev_mul [] q y = sym (L.zero-mul ℚ_ring (ev q y))
ev_mul (a ∷ p) q y = ev_add (scale_l a q) (pos 0 ∷ mul_l p q) y
    ∙ ap₂ ◌+ℚ◌ (ev_scale a q y) (ap₂ (λ u v. u +ℚ y *ℚ v) nat_zero (ev_mul p q y))
    ∙ ring4 ℚ_ring (λ a q y p. a ⊗ q ⊕ (𝟎 ⊕ y ⊗ (p ⊗ q)) := (a ⊕ y ⊗ p) ⊗ q) tt (ofℤ a) (ev q y) y (ev p y)

pub ev_alt : (σ : ℤ) (p : List ℤ) (y : ℚ) → ev (alt_l σ p) y ≡ ofℤ σ *ℚ ev p (neg_q y)
unfolding ev
ev_alt σ [] y = sym (L.mul-zero ℚ_ring (ofℤ σ))
ev_alt σ (a ∷ p) y = ap₂ (λ u v. u +ℚ y *ℚ v) (ofℤ_mul σ a) (ev_alt (neg_ℤ σ) p y ∙ ap (λ u. u *ℚ ev p (neg_q y)) (ofℤ_neg σ))
    ∙ ring4 ℚ_ring (λ s a y e. s ⊗ a ⊕ y ⊗ (⊖ s ⊗ e) := s ⊗ (a ⊕ ⊖ y ⊗ e)) tt (ofℤ σ) (ofℤ a) y (ev p (neg_q y))

pub ev_mono : (n : ℕ) (y : ℚ) → ev (mono n) y ≡ pow_q y n
unfolding ev
ev_mono zero y = ap (λ u. u +ℚ y *ℚ zero_q) ofℤ_one ∙ ring1 ℚ_ring (λ y. 𝟏 ⊕ y ⊗ 𝟎 := 𝟏) tt y
ev_mono (suc n) y = ap₂ (λ u v. u +ℚ y *ℚ v) nat_zero (ev_mono n y) ∙ L.zero-add ℚ_ring (y *ℚ pow_q y n)

pub ev_int : (p : List ℤ) (b : ℤ) → ev p (ofℤ b) ≡ ofℤ (ev_z p b)
unfolding ev
ev_int [] b = sym nat_zero
ev_int (a ∷ p) b = ap (λ u. ofℤ a +ℚ ofℤ b *ℚ u) (ev_int p b) ∙ sym (ofℤ_add a (b *ℤ ev_z p b) ∙ ap (λ u. ofℤ a +ℚ u) (ofℤ_mul b (ev_z p b)))
