-- 0 ≤ e(-y) e(y) ≤ 1 for e = exp_sum 63 and 0 ≤ y ≤ 8 (exp_63). The product is a polynomial in y; its 127 coefficients times 63!² are
-- whole numbers, and a computed test (Test) shows that the first is at most 63!², the others are not positive, and the value at 8 is
-- not negative. Stated for any K with such a test (exp_product). The value at 8 is the least, so a second test of it (LowTest) bounds
-- the product from below (exp_low): it is at least 1 - 10^-20 (exp_63_low). And e(-y) is not negative (exp_63_nn).
use Rattle.std.specs.Prelude.{◌≡◌, Bool, true, false, ◌&&◌, ℕ, zero, suc, ℤ, pos, neg_ℤ, ◌-ℤ◌, ◌*ℤ◌}
use Rattle.std.proofs.Common.{sym, ◌∙◌, ap, ap₂, arith}
use mathlib.Core.List.{List, [], ◌∷◌}
use Rattle.std.proofs.Math.Dec.{T}
use Rattle.std.specs.Int.Signed.{non_neg}
use Rattle.algebra.specs.Laws as L
use Rattle.algebra.specs.Solver.{◌⊝◌, ring1, ring2, ring3, ring4, ring5, 𝟎, 𝟏, ◌⊕◌, ◌⊗◌, ⊖◌, ◌:=◌}
use Rattle.algebra.specs.Linear.{lin2, lin4, ◌≼◌, ◌⋅◌, rest, ◌∣◌, ◌⊢◌}
use Rattle.algebra.specs.Q.{ℚ, ℚ_ring, ℚ_ord, neg_q, zero_q, one_q, ◌+ℚ◌, ◌-ℚ◌, ◌*ℚ◌, ◌≤ℚ◌, ≤_refl, ≤_trans, ≤_of_eq, ≤_add, ≤_mul_left}
use Rattle.algebra.specs.Q.{≤_total, ≤_neg, mul_nn, sub_nn, ≤_add_nn}
use Rattle.algebra.specs.Embedding.{ofℤ, ofℤ_one, nat, ofℤ_neg, ofℤ_sub, ofℤ_mul, nat_mul, nat_nn, ofℤ_nn}
use Rattle.algebra.specs.Power.{pow_q, ifact, ifact_nn, fact, fact_ifact}
use Rattle.algebra.specs.RationalSum.{sum_term}
use Rattle.expansion.specs.Exponential.{exp_term, exp_sum, exp_term_nn, exp_term_zero}
use Rattle.expansion.specs.Polynomial.{add_l, scale_l, mul_l, alt_l, mono, ev_z, ev, ev_add, ev_scale, ev_mul, ev_alt, ev_mono, ev_int}

-- ---- the coefficients K! / n!
abbrev exp_l : ℕ → List ℤ
exp_l zero = pos 1 ∷ []
exp_l (suc K) = add_l (scale_l (pos (suc K)) (exp_l K)) (mono (suc K))

ev_exp : (K : ℕ) (y : ℚ) → ev (exp_l K) y ≡ nat (fact K) *ℚ exp_sum K y
ev_exp zero y = ev_mono 0 y ∙ ring1 ℚ_ring (λ y. 𝟏 := 𝟏 ⊗ (𝟎 ⊕ 𝟏 ⊗ 𝟏)) tt y ∙ ap (λ u. u *ℚ exp_sum 0 y) (sym ofℤ_one)
ev_exp (suc K) y =
    ev_add (scale_l (pos (suc K)) (exp_l K)) (mono (suc K)) y
    ∙ ap₂ ◌+ℚ◌ (ev_scale (pos (suc K)) (exp_l K) y ∙ ap (λ u. nat (suc K) *ℚ u) (ev_exp K y)) (ev_mono (suc K) y ∙ last)
    ∙ ring5 ℚ_ring (λ m f e i p. m ⊗ (f ⊗ e) ⊕ ((m ⊗ f) ⊗ i) ⊗ p := (m ⊗ f) ⊗ (e ⊕ i ⊗ p))
    tt (nat (suc K)) (nat (fact K)) (exp_sum K y) (ifact (suc K)) power
    ∙ ap (λ u. u *ℚ exp_sum (suc K) y) (sym (nat_mul (suc K) (fact K)))
  where
    power : ℚ
    power = pow_q y (suc K)

    last : power ≡ nat (suc K) *ℚ nat (fact K) *ℚ ifact (suc K) *ℚ power
    last = sym (L.one-mul ℚ_ring power) ∙ ap (λ u. u *ℚ power) (sym (fact_ifact (suc K))
        ∙ ap (λ u. u *ℚ ifact (suc K)) (nat_mul (suc K) (fact K)))

-- ---- the test, and what it says of a polynomial on 0 to 8
and_left : (a b : Bool) → T (a && b) → T a
and_left true b h = tt
and_left false b h = absurd h

and_right : (a b : Bool) → T (a && b) → T b
and_right true b h = h
and_right false b h = absurd h

abbrev non_pos : List ℤ → Bool
non_pos [] = true
non_pos (a ∷ p) = non_neg (neg_ℤ a) && non_pos p

-- the first coefficient at most f, no other positive, and the value at 8 not negative
abbrev pub fits : List ℤ → ℤ → Bool
fits [] f = false
fits (c ∷ p) f = non_neg (f -ℤ c) && (non_pos p && non_neg (ev_z (c ∷ p) (pos 8)))

module _ (y : ℚ) (y-nn : zero_q ≤ℚ y) (y-le : y ≤ℚ nat 8) where
  ev_non_pos : (p : List ℤ) → T (non_pos p) → ev p y ≤ℚ zero_q
  unfolding ev
  ev_non_pos [] h = ≤_refl zero_q
  ev_non_pos (a ∷ p) h = ≤_trans (≤_add a_le (≤_mul_left y y-nn (ev_non_pos p (and_right (non_neg (neg_ℤ a)) (non_pos p) h))))
      (≤_of_eq (ring1 ℚ_ring (λ y. 𝟎 ⊕ y ⊗ 𝟎 := 𝟎) tt y))
    where
      a_le : ofℤ a ≤ℚ zero_q
      a_le = ≤_trans (≤_add_nn (ofℤ_nn (neg_ℤ a) (and_left (non_neg (neg_ℤ a)) (non_pos p) h)))
          (≤_of_eq (ap (λ u. ofℤ a +ℚ u) (ofℤ_neg a) ∙ ℚ_ring.add_neg (ofℤ a)))

  -- 8 p(8) ≤ y p(y), if p(8) ≤ p(y) ≤ 0
  scaled_at_8 : (p : List ℤ) → ev p y ≤ℚ zero_q → ev p (nat 8) ≤ℚ ev p y → nat 8 *ℚ ev p (nat 8) ≤ℚ y *ℚ ev p y
  scaled_at_8 p h k = lin4 ℚ_ring ℚ_ord (λ b y e v. 1 ⋅ (b ⊝ y) ⊗ e ≼ (b ⊝ y) ⊗ 𝟎 ∣ 1 ⋅ y ⊗ e ≼ y ⊗ v ∣ rest 0 ⊢ b ⊗ e ≼ y ⊗ v) tt
      (nat 8) y (ev p (nat 8)) (ev p y) (≤_mul_left (nat 8 -ℚ y) (sub_nn y-le) (≤_trans k h), (≤_mul_left y y-nn k, tt))

  least_at_8 : (p : List ℤ) → T (non_pos p) → ev p (nat 8) ≤ℚ ev p y
  unfolding ev
  least_at_8 [] h = ≤_refl zero_q
  least_at_8 (a ∷ p) h = ≤_add (≤_refl (ofℤ a)) (scaled_at_8 p (ev_non_pos p others) (least_at_8 p others))
    where
      others : T (non_pos p)
      others = and_right (non_neg (neg_ℤ a)) (non_pos p) h

  fits_least : (l : List ℤ) (f : ℤ) → T (fits l f) → ev l (nat 8) ≤ℚ ev l y
  unfolding ev
  fits_least [] f h = absurd h
  fits_least (c ∷ p) f h = ≤_add (≤_refl (ofℤ c)) (scaled_at_8 p (ev_non_pos p others) (least_at_8 p others))
    where
      others : T (non_pos p)
      others = and_left (non_pos p) (non_neg (ev_z (c ∷ p) (pos 8))) (and_right (non_neg (f -ℤ c)) (non_pos p && non_neg (ev_z (c ∷ p) (pos 8))) h)

  fits_ok : (l : List ℤ) (f : ℤ) → T (fits l f) → (zero_q ≤ℚ ev l y) × (ev l y ≤ℚ ofℤ f)
  unfolding ev
  fits_ok [] f h = absurd h
  fits_ok (c ∷ p) f h = (low, high)
    where
      tests : T (non_pos p && non_neg (ev_z (c ∷ p) (pos 8)))
      tests = and_right (non_neg (f -ℤ c)) (non_pos p && non_neg (ev_z (c ∷ p) (pos 8))) h

      others : T (non_pos p)
      others = and_left (non_pos p) (non_neg (ev_z (c ∷ p) (pos 8))) tests

      low : zero_q ≤ℚ ofℤ c +ℚ y *ℚ ev p y
      low = ≤_trans (ofℤ_nn (ev_z (c ∷ p) (pos 8)) (and_right (non_pos p) (non_neg (ev_z (c ∷ p) (pos 8))) tests))
          (≤_trans (≤_of_eq (sym (ev_int (c ∷ p) (pos 8)))) (fits_least (c ∷ p) f h))

      first : zero_q ≤ℚ ofℤ f -ℚ ofℤ c
      first = ≤_trans (ofℤ_nn (f -ℤ c) (and_left (non_neg (f -ℤ c)) (non_pos p && non_neg (ev_z (c ∷ p) (pos 8))) h)) (≤_of_eq (ofℤ_sub f c))

      high : ofℤ c +ℚ y *ℚ ev p y ≤ℚ ofℤ f
      high = lin4 ℚ_ring ℚ_ord (λ c f v y. 1 ⋅ y ⊗ v ≼ y ⊗ 𝟎 ∣ 1 ⋅ 𝟎 ≼ f ⊝ c ∣ rest 0 ⊢ c ⊕ y ⊗ v ≼ f)
          tt (ofℤ c) (ofℤ f) (ev p y) y (≤_mul_left y y-nn (ev_non_pos p others), (first, tt))

-- ---- the product
abbrev product_l : ℕ → List ℤ
product_l K = mul_l (alt_l (pos 1) (exp_l K)) (exp_l K)

abbrev pub Test : ℕ → Type 0
Test K = T (fits (product_l K) (pos (fact K) *ℤ pos (fact K)))

module _ (K : ℕ) (y : ℚ) where
  abbrev f : ℚ
  f = nat (fact K)

  abbrev g : ℚ
  g = ifact K

  abbrev a : ℚ
  a = exp_sum K (neg_q y)

  abbrev b : ℚ
  b = exp_sum K y

  squares_nn : zero_q ≤ℚ g *ℚ g
  squares_nn = mul_nn (ifact_nn K) (ifact_nn K)

  squares_one : g *ℚ g *ℚ ofℤ (pos (fact K) *ℤ pos (fact K)) ≡ one_q
  squares_one = ap (λ u. g *ℚ g *ℚ u) (ofℤ_mul (pos (fact K)) (pos (fact K))) ∙ ring2 ℚ_ring (λ g f. g ⊗ g ⊗ (f ⊗ f) := (f ⊗ g) ⊗ (f ⊗ g)) tt g f
      ∙ ap₂ ◌*ℚ◌ (fact_ifact K) (fact_ifact K) ∙ ℚ_ring.mul-one one_q

  value : ev (product_l K) y ≡ (f *ℚ a) *ℚ (f *ℚ b)
  value = ev_mul (alt_l (pos 1) (exp_l K)) (exp_l K) y
      ∙ ap₂ ◌*ℚ◌ (ev_alt (pos 1) (exp_l K) y ∙ ap₂ ◌*ℚ◌ ofℤ_one (ev_exp K (neg_q y)) ∙ L.one-mul ℚ_ring (f *ℚ a)) (ev_exp K y)

  product_is : a *ℚ b ≡ g *ℚ g *ℚ ev (product_l K) y
  product_is = ring1 ℚ_ring (λ w. w := 𝟏 ⊗ 𝟏 ⊗ w) tt (a *ℚ b) ∙ ap₂ (λ u v. u *ℚ v *ℚ (a *ℚ b)) (sym (fact_ifact K)) (sym (fact_ifact K))
      ∙ ring4 ℚ_ring (λ f g a b. (f ⊗ g) ⊗ (f ⊗ g) ⊗ (a ⊗ b) := g ⊗ g ⊗ ((f ⊗ a) ⊗ (f ⊗ b))) tt f g a b ∙ ap (λ u. g *ℚ g *ℚ u) (sym value)

pub exp_product : (K : ℕ) → Test K → (y : ℚ) → zero_q ≤ℚ y → y ≤ℚ nat 8 →
    (zero_q ≤ℚ exp_sum K (neg_q y) *ℚ exp_sum K y) × (exp_sum K (neg_q y) *ℚ exp_sum K y ≤ℚ one_q)
exp_product K h y y-nn y-le = (
  ≤_trans (mul_nn (squares_nn K y) bounds.0) (≤_of_eq (sym (product_is K y))),
  ≤_trans (≤_of_eq (product_is K y))
      (≤_trans (≤_mul_left (ifact K *ℚ ifact K) (squares_nn K y) bounds.1) (≤_of_eq (squares_one K y))),
)
  where
    bounds : (zero_q ≤ℚ ev (product_l K) y) × (ev (product_l K) y ≤ℚ ofℤ (pos (fact K) *ℤ pos (fact K)))
    bounds = fits_ok y y-nn y-le (product_l K) (pos (fact K) *ℤ pos (fact K)) h

-- e(y) is at least 1, so e(-y) is not negative
pub exp_nn : (K : ℕ) → Test K → (y : ℚ) → zero_q ≤ℚ y → y ≤ℚ nat 8 → zero_q ≤ℚ exp_sum K (neg_q y)
exp_nn K h y y-nn y-le = ≤_total zero_q (exp_sum K (neg_q y)) (zero_q ≤ℚ exp_sum K (neg_q y)) (λ k. k) (λ k.
    lin2 ℚ_ring ℚ_ord (λ a b. 1 ⋅ 𝟎 ≼ a ⊗ b ∣ 1 ⋅ ⊖ a ⊗ 𝟏 ≼ ⊖ a ⊗ b ∣ rest 0 ⊢ 𝟎 ≼ a) tt (exp_sum K (neg_q y)) (exp_sum K y)
    ((exp_product K h y y-nn y-le).0, (≤_mul_left (neg_q (exp_sum K (neg_q y))) (≤_trans (≤_of_eq (sym (L.neg_zero ℚ_ring))) (≤_neg k)) one_le, tt)))
  where
    one_le : one_q ≤ℚ exp_sum K y
    one_le = ≤_trans (≤_of_eq (sym (exp_term_zero y))) (sum_term (suc K) 0 (exp_term y) (exp_term_nn y y-nn) (omega arith))

-- the value at 8 is at least t / (t + 1)
abbrev pub LowTest : ℕ → ℕ → Type 0
LowTest K t = T (non_neg (pos (suc t) *ℤ ev_z (product_l K) (pos 8) -ℤ pos t *ℤ (pos (fact K) *ℤ pos (fact K))))

pub exp_low : (K t : ℕ) → Test K → LowTest K t → (y : ℚ) → zero_q ≤ℚ y → y ≤ℚ nat 8 → nat t ≤ℚ nat (suc t) *ℚ (exp_sum K (neg_q y) *ℚ exp_sum K y)
exp_low K t h k y y-nn y-le =
    ≤_trans (≤_of_eq (sym (ℚ_ring.mul-one (nat t)) ∙ ap (λ u. nat t *ℚ u) (sym (squares_one K y))
    ∙ ring3 ℚ_ring (λ t g f. t ⊗ (g ⊗ f) := g ⊗ (t ⊗ f)) tt (nat t) gg (ofℤ ff) ∙ ap (λ u. gg *ℚ u) (sym (ofℤ_mul (pos t) ff))))
    (≤_trans (≤_mul_left gg (squares_nn K y) at_8)
    (≤_trans (≤_of_eq (ap (λ u. gg *ℚ u) (ofℤ_mul (pos (suc t)) low ∙ ap (λ u. nat (suc t) *ℚ u) (sym (ev_int (product_l K) (pos 8))))))
    (≤_trans (≤_mul_left gg (squares_nn K y) (≤_mul_left (nat (suc t)) (nat_nn (suc t)) (fits_least y y-nn y-le (product_l K) ff h)))
    (≤_of_eq (ring3 ℚ_ring (λ t g v. g ⊗ (t ⊗ v) := t ⊗ (g ⊗ v)) tt (nat (suc t)) gg (ev (product_l K) y) ∙ ap (λ u. nat (suc t) *ℚ u) (sym (product_is K y)))))))
  where
    gg : ℚ
    gg = ifact K *ℚ ifact K

    ff : ℤ
    ff = pos (fact K) *ℤ pos (fact K)

    low : ℤ
    low = ev_z (product_l K) (pos 8)

    at_8 : ofℤ (pos t *ℤ ff) ≤ℚ ofℤ (pos (suc t) *ℤ low)
    at_8 = lin2 ℚ_ring ℚ_ord (λ u v. 1 ⋅ 𝟎 ≼ v ⊝ u ∣ rest 0 ⊢ u ≼ v) tt (ofℤ (pos t *ℤ ff)) (ofℤ (pos (suc t) *ℤ low))
        (≤_trans (ofℤ_nn (pos (suc t) *ℤ low -ℤ pos t *ℤ ff) k) (≤_of_eq (ofℤ_sub (pos (suc t) *ℤ low) (pos t *ℤ ff))), tt)

-- 127 coefficients over 63!²
pub test_63 : Test 63
test_63 = tt

pub exp_63 : (y : ℚ) → zero_q ≤ℚ y → y ≤ℚ nat 8 → (zero_q ≤ℚ exp_sum 63 (neg_q y) *ℚ exp_sum 63 y) × (exp_sum 63 (neg_q y) *ℚ exp_sum 63 y ≤ℚ one_q)
exp_63 = exp_product 63 test_63

pub exp_63_nn : (y : ℚ) → zero_q ≤ℚ y → y ≤ℚ nat 8 → zero_q ≤ℚ exp_sum 63 (neg_q y)
exp_63_nn = exp_nn 63 test_63

pub low_63 : LowTest 63 99999999999999999999
low_63 = tt

pub exp_63_low : (y : ℚ) → zero_q ≤ℚ y → y ≤ℚ nat 8 → nat 99999999999999999999 ≤ℚ nat 100000000000000000000 *ℚ (exp_sum 63 (neg_q y) *ℚ exp_sum 63 y)
exp_63_low = exp_low 63 99999999999999999999 test_63 low_63
