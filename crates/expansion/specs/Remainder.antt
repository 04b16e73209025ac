-- What the logarithms cut at order r leave out: the terms r+1 to r+k (log_remainder), and the same without signs (log_majorant),
-- whose sum is at most the member's e (majorant_le) where ρʳ⁺¹ ≤ e (r + 1) (1 - ρ) (Good). Then over a list of members.
use Rattle.std.specs.Prelude.{◌≡◌, List, [], ◌∷◌, ℕ, zero, suc, ◌+◌ as ◌+ⁿ◌}
use Rattle.std.proofs.Common.{◌∙◌, ap, ap₂, arith}
use Rattle.std.proofs.Math.Nat as NL
use Rattle.algebra.specs.Laws as L
use Rattle.algebra.specs.Solver.{◌⊝◌, ring1, ring2, ring3, ring4, ring5, 𝟎, 𝟏, ◌⊕◌, ◌⊗◌, ◌:=◌}
use Rattle.algebra.specs.Q.{ℚ, ℚ_ring, zero_q, one_q, ◌+ℚ◌, ◌-ℚ◌, ◌*ℚ◌, ◌≤ℚ◌, abs, ≤_refl, ≤_trans, ≤_total, ≤_of_eq, ≤_add, ≤_neg}
use Rattle.algebra.specs.Q.{≤_mul_left, mul_mono, mul_nn, sub_nn, ≤_cancel, abs_of_nn, abs_add, abs_mul, abs_zero_le}
use Rattle.algebra.specs.Embedding.{nat}
use Rattle.algebra.specs.Quotient.{inv, inv_nn, inv_cancel, inv_le}
use Rattle.algebra.specs.RationalSum.{sum, sum_zero, sum_add, sum_mul}
use Rattle.algebra.specs.Power.{pow_q, pow_q_nn, pow_q_add, sgn, abs_sgn, geometric}
use Rattle.algebra.specs.PowerSeries.{Ser, 𝕊, ◌⊞◌, zero_s, pow, const_product}
use Rattle.algebra.specs.SeriesOrder.{NonNeg, pow_nn, sum_pow}
use Rattle.expansion.specs.Logarithm.{log_term, log_s}
use Rattle.expansion.specs.Member.{Member, All, logs, NoneAtZero}

abbrev pub log_remainder : Ser → ℕ → ℕ → Ser
log_remainder z r zero = zero_s
log_remainder z r (suc m) = log_remainder z r m ⊞ log_term z (r +ⁿ m)

abbrev pub log_majorant : Ser → ℕ → ℕ → Ser
log_majorant z r zero = zero_s
log_majorant z r (suc m) = log_majorant z r m ⊞ (λ x. inv (r +ⁿ m) *ℚ pow z (suc (r +ⁿ m)) x)

log_split : (z : Ser) (r m : ℕ) → log_s z (r +ⁿ m) ≡ log_s z r ⊞ log_remainder z r m
log_split z r zero = ap (log_s z) (NL.add-zero r) ∙ ring1 𝕊 (λ l. l := l ⊕ 𝟎) tt (log_s z r)
log_split z r (suc m) =
    ap (log_s z) (NL.add-suc r m)
    ∙ ap (λ x. x ⊞ log_term z (r +ⁿ m)) (log_split z r m)
    ∙ ring3 𝕊 (λ a b c. a ⊕ b ⊕ c := a ⊕ (b ⊕ c)) tt (log_s z r) (log_remainder z r m) (log_term z (r +ⁿ m))

-- ---- one member
abs_log_term : (z : Ser) → NonNeg z → (n x : ℕ) → abs (log_term z n x) ≡ inv n *ℚ pow z (suc n) x
abs_log_term z h n x =
    ap abs (const_product (sgn n *ℚ inv n) (pow z (suc n)) x ∙ ℚ_ring.mul_assoc (sgn n) (inv n) (pow z (suc n) x))
    ∙ abs_mul (sgn n) a
    ∙ ap₂ ◌*ℚ◌ (abs_sgn n) (abs_of_nn a (mul_nn (inv_nn n) (pow_nn (suc n) z h x)))
    ∙ L.one-mul ℚ_ring a
  where
    a : ℚ
    a = inv n *ℚ pow z (suc n) x

remainder_le : (z : Ser) → NonNeg z → (r m x : ℕ) → abs (log_remainder z r m x) ≤ℚ log_majorant z r m x
remainder_le z h r zero x = abs_zero_le (≤_refl zero_q)
remainder_le z h r (suc m) x = ≤_trans (abs_add (log_remainder z r m x) (log_term z (r +ⁿ m) x))
    (≤_add (remainder_le z h r m x) (≤_of_eq (abs_log_term z h (r +ⁿ m) x)))

sum_majorant : (z : Ser) (ρ : ℚ) → NonNeg z → zero_q ≤ℚ ρ → (X : ℕ) → sum X z ≤ℚ ρ → (r m : ℕ) →
    sum X (log_majorant z r m) ≤ℚ inv r *ℚ (pow_q ρ (suc r) *ℚ sum m (pow_q ρ))
sum_majorant z ρ h p X s r zero = ≤_of_eq (sum_zero X ∙ ring2 ℚ_ring (λ i a. 𝟎 := i ⊗ (a ⊗ 𝟎)) tt (inv r) (pow_q ρ (suc r)))
sum_majorant z ρ h p X s r (suc m) =
    ≤_trans (≤_of_eq (sum_add X (log_majorant z r m) (λ x. inv n *ℚ pow z (suc n) x)
    ∙ ap (λ x. sum X (log_majorant z r m) +ℚ x) (sum_mul X (inv n) (pow z (suc n)))))
    (≤_trans (≤_add (sum_majorant z ρ h p X s r m)
    (mul_mono (inv_nn n) (pow_q_nn ρ p (suc n)) (inv_le r n (omega arith)) (sum_pow z ρ h p X s (suc n))))
    (≤_of_eq (ap (λ x. inv r *ℚ (pow_q ρ (suc r) *ℚ sum m (pow_q ρ)) +ℚ inv r *ℚ (ρ *ℚ x)) (pow_q_add ρ r m)
    ∙ ring5 ℚ_ring (λ i a p s b. i ⊗ ((a ⊗ p) ⊗ s) ⊕ i ⊗ (a ⊗ (p ⊗ b)) := i ⊗ ((a ⊗ p) ⊗ (s ⊕ b)))
    tt (inv r) ρ (pow_q ρ r) (sum m (pow_q ρ)) (pow_q ρ m))))
  where
    n : ℕ
    n = r +ⁿ m

-- what a member has to be, for a cut at order r
pub record Good (r : ℕ) (m : Member) : Type 0 where
  pub z_zero : m.z 0 ≡ zero_q
  pub z_nn : (x : ℕ) → zero_q ≤ℚ m.z x
  pub z_sum : (n : ℕ) → sum n m.z ≤ℚ m.ρ
  pub ρ_below : ¬ (one_q ≤ℚ m.ρ)
  pub e_big : pow_q m.ρ (suc r) ≤ℚ m.e *ℚ (nat (suc r) *ℚ (one_q -ℚ m.ρ))

pub majorant_le : (r : ℕ) (m : Member) → Good r m → (X k : ℕ) → sum X (log_majorant m.z r k) ≤ℚ m.e
majorant_le r m g X k = ≤_cancel u u_nn u_nz
    (≤_trans (≤_mul_left u u_nn (sum_majorant m.z ρ g.z_nn ρ_nn X (g.z_sum X) r k))
    (≤_trans (≤_of_eq (ring4 ℚ_ring (λ u i a s. u ⊗ (i ⊗ (a ⊗ s)) := i ⊗ (a ⊗ (u ⊗ s))) tt u (inv r) power (sum k (pow_q ρ))
    ∙ ap (λ x. inv r *ℚ (power *ℚ x)) (geometric ρ k)))
    (≤_trans (≤_mul_left (inv r) (inv_nn r) (≤_trans (≤_mul_left power (pow_q_nn ρ ρ_nn (suc r)) at_most)
    (≤_trans (≤_of_eq (ℚ_ring.mul-one power)) g.e_big)))
    (≤_of_eq (ap (λ x. inv r *ℚ x) (ring3 ℚ_ring (λ e n u. e ⊗ (n ⊗ u) := n ⊗ (u ⊗ e)) tt m.e (nat (suc r)) u) ∙ inv_cancel r (u *ℚ m.e))))))
  where
    ρ : ℚ
    ρ = m.ρ

    u : ℚ
    u = one_q -ℚ ρ

    power : ℚ
    power = pow_q ρ (suc r)

    ρ_nn : zero_q ≤ℚ ρ
    ρ_nn = g.z_sum 0

    u_nn : zero_q ≤ℚ u
    u_nn = ≤_total one_q ρ (zero_q ≤ℚ u) (λ h. absurd (g.ρ_below h)) (λ h. sub_nn h)

    u_nz : ¬ (u ≡ zero_q)
    u_nz h = g.ρ_below (≤_of_eq (ring1 ℚ_ring (λ a. 𝟏 := (𝟏 ⊝ a) ⊕ a) tt ρ ∙ ap (λ x. x +ℚ ρ) h ∙ L.zero-add ℚ_ring ρ))

    at_most : one_q -ℚ pow_q ρ k ≤ℚ one_q
    at_most = ≤_trans (≤_add (≤_refl one_q) (≤_neg (pow_q_nn ρ ρ_nn k))) (≤_of_eq (ring1 ℚ_ring (λ a. 𝟏 ⊝ 𝟎 := 𝟏) tt one_q))

-- ---- the list of members
abbrev pub remainders : ℕ → ℕ → List Member → Ser
remainders r k [] = zero_s
remainders r k (m ∷ ms) = log_remainder m.z r k ⊞ remainders r k ms

abbrev pub majorants : ℕ → ℕ → List Member → Ser
majorants r k [] = zero_s
majorants r k (m ∷ ms) = log_majorant m.z r k ⊞ majorants r k ms

abbrev pub errors : List Member → ℚ
errors [] = zero_q
errors (m ∷ ms) = m.e +ℚ errors ms

pub none_at_zero : (r : ℕ) (ms : List Member) → All (Good r) ms → All NoneAtZero ms
none_at_zero r [] h = tt
none_at_zero r (m ∷ ms) h = (h.0.z_zero, none_at_zero r ms h.1)

pub logs_split : (r k : ℕ) (ms : List Member) → logs (r +ⁿ k) ms ≡ logs r ms ⊞ remainders r k ms
logs_split r k [] = ring1 𝕊 (λ l. 𝟎 := 𝟎 ⊕ 𝟎) tt zero_s
logs_split r k (m ∷ ms) = ap₂ ◌⊞◌ (log_split m.z r k) (logs_split r k ms)
    ∙ ring4 𝕊 (λ a b c d. (a ⊕ b) ⊕ (c ⊕ d) := (a ⊕ c) ⊕ (b ⊕ d)) tt (log_s m.z r) (log_remainder m.z r k) (logs r ms) (remainders r k ms)

pub remainders_le : (r k : ℕ) (ms : List Member) → All (Good r) ms → (x : ℕ) → abs (remainders r k ms x) ≤ℚ majorants r k ms x
remainders_le r k [] h x = abs_zero_le (≤_refl zero_q)
remainders_le r k (m ∷ ms) h x = ≤_trans (abs_add (log_remainder m.z r k x) (remainders r k ms x))
    (≤_add (remainder_le m.z h.0.z_nn r k x) (remainders_le r k ms h.1 x))

pub majorants_le : (r k : ℕ) (ms : List Member) → All (Good r) ms → (X : ℕ) → sum X (majorants r k ms) ≤ℚ errors ms
majorants_le r k [] h X = ≤_of_eq (sum_zero X)
majorants_le r k (m ∷ ms) h X = ≤_trans (≤_of_eq (sum_add X (log_majorant m.z r k) (majorants r k ms)))
    (≤_add (majorant_le r m h.0 X k) (majorants_le r k ms h.1 X))
