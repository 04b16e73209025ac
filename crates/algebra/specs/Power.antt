-- Powers of a rational number (pow_q), the signs (-1)ⁿ (sgn), the geometric sum (geometric), and n! with 1 / n! (fact, ifact).
use Rattle.std.specs.Prelude.{◌≡◌, ℕ, zero, suc, ◌+◌ as ◌+ⁿ◌, ◌*◌ as ◌*ⁿ◌, ◌^◌}
use Rattle.std.proofs.Common.{sym, ◌∙◌, ap}
use Rattle.std.proofs.Math.Nat as NL
use Rattle.algebra.specs.Solver.{◌⊝◌, ring1, ring2, ring3, ring4, 𝟎, 𝟏, ◌⊕◌, ◌⊗◌, ⊖◌, ◌:=◌}
use Rattle.algebra.specs.Q.{ℚ, ℚ_ring, neg_q, zero_q, one_q, ◌+ℚ◌, ◌-ℚ◌, ◌*ℚ◌, ◌≤ℚ◌, abs, one_nn, mul_nn, abs_of_nn, abs_neg}
use Rattle.algebra.specs.Embedding.{ofℤ_one, nat, nat_mul}
use Rattle.algebra.specs.Quotient.{inv, inv_nn, inv_cancel}
use Rattle.algebra.specs.RationalSum.{sum}

abbrev pub pow_q : ℚ → ℕ → ℚ
pow_q a zero = one_q
pow_q a (suc n) = a *ℚ pow_q a n

pub pow_q_nn : (a : ℚ) → zero_q ≤ℚ a → (n : ℕ) → zero_q ≤ℚ pow_q a n
pow_q_nn a h zero = one_nn
pow_q_nn a h (suc n) = mul_nn h (pow_q_nn a h n)

pub pow_q_add : (a : ℚ) (r m : ℕ) → pow_q a (r +ⁿ m) ≡ pow_q a r *ℚ pow_q a m
pow_q_add a r zero = ap (pow_q a) (NL.add-zero r) ∙ ring1 ℚ_ring (λ l. l := l ⊗ 𝟏) tt (pow_q a r)
pow_q_add a r (suc m) = ap (pow_q a) (NL.add-suc r m) ∙ ap (λ x. a *ℚ x) (pow_q_add a r m)
    ∙ ring3 ℚ_ring (λ a b c. a ⊗ (b ⊗ c) := b ⊗ (a ⊗ c)) tt a (pow_q a r) (pow_q a m)

pub pow_q_mul : (a : ℚ) (k n : ℕ) → pow_q (pow_q a k) n ≡ pow_q a (k *ⁿ n)
pow_q_mul a k zero = ap (pow_q a) (sym (NL.mul-zero k))
pow_q_mul a k (suc n) = ap (λ x. pow_q a k *ℚ x) (pow_q_mul a k n) ∙ sym (pow_q_add a k (k *ⁿ n)) ∙ ap (pow_q a) (NL.add_comm k (k *ⁿ n) ∙ sym (NL.mul-suc k n))

pub nat_pow : (b n : ℕ) → nat (b ^ n) ≡ pow_q (nat b) n
nat_pow b zero = ap nat (NL.pow-zero b) ∙ ofℤ_one
nat_pow b (suc n) = ap nat (NL.pow-succ' b n) ∙ nat_mul b (b ^ n) ∙ ap (λ x. nat b *ℚ x) (nat_pow b n)

-- (-1)ⁿ
abbrev pub sgn : ℕ → ℚ
sgn zero = one_q
sgn (suc n) = neg_q (sgn n)

pub abs_sgn : (n : ℕ) → abs (sgn n) ≡ one_q
abs_sgn zero = abs_of_nn one_q one_nn
abs_sgn (suc n) = abs_neg (sgn n) ∙ abs_sgn n

pub pow_q_neg : (a : ℚ) (n : ℕ) → pow_q (neg_q a) n ≡ sgn n *ℚ pow_q a n
pow_q_neg a zero = ring1 ℚ_ring (λ a. 𝟏 := 𝟏 ⊗ 𝟏) tt a
pow_q_neg a (suc n) = ap (λ x. neg_q a *ℚ x) (pow_q_neg a n) ∙ ring3 ℚ_ring (λ a s p. ⊖ a ⊗ (s ⊗ p) := ⊖ s ⊗ (a ⊗ p)) tt a (sgn n) (pow_q a n)

-- (1 - a) (1 + a + .. + a^(m-1)) = 1 - a^m
pub geometric : (a : ℚ) (m : ℕ) → (one_q -ℚ a) *ℚ sum m (pow_q a) ≡ one_q -ℚ pow_q a m
geometric a zero = ring1 ℚ_ring (λ a. (𝟏 ⊝ a) ⊗ 𝟎 := 𝟏 ⊝ 𝟏) tt a
geometric a (suc m) =
    ring3 ℚ_ring (λ a s p. (𝟏 ⊝ a) ⊗ (s ⊕ p) := (𝟏 ⊝ a) ⊗ s ⊕ (𝟏 ⊝ a) ⊗ p) tt a (sum m (pow_q a)) (pow_q a m)
    ∙ ap (λ x. x +ℚ (one_q -ℚ a) *ℚ pow_q a m) (geometric a m)
    ∙ ring2 ℚ_ring (λ a p. (𝟏 ⊝ p) ⊕ (𝟏 ⊝ a) ⊗ p := 𝟏 ⊝ a ⊗ p) tt a (pow_q a m)

-- 1 / n!
abbrev pub ifact : ℕ → ℚ
ifact zero = one_q
ifact (suc n) = inv n *ℚ ifact n

pub ifact_nn : (n : ℕ) → zero_q ≤ℚ ifact n
ifact_nn zero = one_nn
ifact_nn (suc n) = mul_nn (inv_nn n) (ifact_nn n)

abbrev pub fact : ℕ → ℕ
fact zero = 1
fact (suc n) = suc n *ⁿ fact n

pub fact_ifact : (n : ℕ) → nat (fact n) *ℚ ifact n ≡ one_q
fact_ifact zero = ap (λ u. u *ℚ one_q) ofℤ_one ∙ ℚ_ring.mul-one one_q
fact_ifact (suc n) =
    ap (λ u. u *ℚ ifact (suc n)) (nat_mul (suc n) (fact n))
    ∙ ring4 ℚ_ring (λ m f i g. (m ⊗ f) ⊗ (i ⊗ g) := i ⊗ (m ⊗ (f ⊗ g))) tt (nat (suc n)) (nat (fact n)) (inv n) (ifact n)
    ∙ inv_cancel n (nat (fact n) *ℚ ifact n)
    ∙ fact_ifact n
