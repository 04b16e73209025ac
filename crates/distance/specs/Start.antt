-- The start f(0) is within R(0) of U e(-λ) Π p / 10^6, where e is the exponential's sum to 63 (start_close). By induction t(n) is within
-- c(n) of U λⁿ / n! (t_close), so the alternating sum is within the sum of c; each factor p / 10^6 ≤ 1 adds one rounding.
use Rattle.std.specs.Prelude.{◌≡◌, Bool, true, false, List, [], ◌∷◌, ℕ, zero, suc, ◌<◌, ◌+◌ as ◌+ⁿ◌, ◌*◌ as ◌*ⁿ◌, ◌^◌, ◌≤◌ as ◌≤ⁿ◌, ℤ, pos, ◌*ℤ◌, if◌then◌else◌}
use Rattle.std.proofs.Common.{sym, ◌∙◌, ap, ap₂, subst, arith}
use Rattle.algebra.specs.Solver.{𝟎, 𝟏, ◌⊗◌, ◌⊝◌, ◌:=◌, ring1, ring2, ring3, ring4}
use Rattle.algebra.specs.Q.{ℚ, ℚ_ring, neg_q, zero_q, one_q, ◌-ℚ◌, ◌*ℚ◌, ◌≤ℚ◌, abs, ≤_trans, ≤_of_eq, ≤_mul_left, mul_mono, abs_scale, abs_zero_le, abs_subst}
use Rattle.algebra.specs.Embedding.{ofℤ, nat, ofℤ_mul, nat_zero, nat_mul, nat_nn, nat_le}
use Rattle.algebra.specs.Quotient.{over, over_ok, over_zero}
use Rattle.algebra.specs.RationalSum.{sum, whole_sum_close}
use Rattle.algebra.specs.Power.{pow_q, ifact}
use Rattle.expansion.specs.Exponential.{exp_term, exp_sum, exp_term_suc, exp_term_neg}
use Rattle.rounding.specs.Rounding.{near, nearest, up}
use Rattle.rounding.proofs.Laws.{near_zero}
use Rattle.fund.specs.declared.Life.{Life}
use Rattle.fund.specs.Base.{total, alternate}
use Rattle.fund.specs.Base as B
use Rattle.fund.specs.Folding.{stay, single}
use Rattle.fund.specs.Transform.{unit}
use Rattle.fund.specs.Recursion.{t, alternating, multiplied, start, c, start_bound}
use Rattle.laws.specs.Cells.{sumℤ_is, sum_is}
use Rattle.distance.specs.Errors.{U, unit_pos, nearest_step, near_step, up_le, half_up, alternate_close}

-- ---- the terms of the exponential
-- λ, from units
abbrev rate_of : ℕ → ℚ
rate_of lambda = over (nat lambda) unit

first_close : (y : ℚ) → abs (U -ℚ U *ℚ exp_term y 0) ≤ℚ nat 0
first_close y = abs_subst (ring1 ℚ_ring (λ u. 𝟎 := u ⊝ u ⊗ (𝟏 ⊗ 𝟏)) tt U) (abs_zero_le (nat_nn 0))

-- t(n + 1) from t(n)
next_close : (lambda n v e : ℕ) → abs (nat v -ℚ U *ℚ exp_term (rate_of lambda) n) ≤ℚ nat e →
    abs (nat (near (v *ⁿ lambda) (suc n *ⁿ unit)) -ℚ U *ℚ exp_term (rate_of lambda) (suc n)) ≤ℚ nat (up (e *ⁿ lambda) (suc n *ⁿ unit) +ⁿ 1)
next_close lambda n v e h =
    ≤_trans (near_step (v *ⁿ lambda) b b_pos (U *ℚ exp_term y (suc n)) (nat (up (e *ⁿ lambda) b)) numerator) (half_up (up (e *ⁿ lambda) b))
  where
    y : ℚ
    y = rate_of lambda

    b : ℕ
    b = suc n *ⁿ unit

    b_pos : 0 < b
    b_pos = let h = unit_pos in omega arith

    exact : nat lambda *ℚ (U *ℚ exp_term y n) ≡ nat b *ℚ (U *ℚ exp_term y (suc n))
    exact = ap (λ x. x *ℚ (U *ℚ exp_term y n)) (sym (over_ok (nat lambda) unit unit_pos))
        ∙ ring3 ℚ_ring (λ u e y. u ⊗ y ⊗ (u ⊗ e) := u ⊗ u ⊗ (e ⊗ y)) tt U (exp_term y n) y
        ∙ ap (λ x. U *ℚ U *ℚ x) (sym (exp_term_suc y n))
        ∙ ring3 ℚ_ring (λ a u e. u ⊗ u ⊗ (a ⊗ e) := a ⊗ u ⊗ (u ⊗ e)) tt (nat (suc n)) U (exp_term y (suc n))
        ∙ ap (λ x. x *ℚ (U *ℚ exp_term y (suc n))) (sym (nat_mul (suc n) unit))

    numerator : abs (nat (v *ⁿ lambda) -ℚ nat b *ℚ (U *ℚ exp_term y (suc n))) ≤ℚ nat b *ℚ nat (up (e *ⁿ lambda) b)
    numerator =
        abs_subst (ring3 ℚ_ring (λ l v x. l ⊗ (v ⊝ x) := v ⊗ l ⊝ l ⊗ x) tt (nat lambda) (nat v) (U *ℚ exp_term y n)
        ∙ ap₂ ◌-ℚ◌ (sym (nat_mul v lambda)) exact)
        (≤_trans (≤_of_eq (abs_scale (nat lambda) (nat v -ℚ U *ℚ exp_term y n) (nat_nn lambda)))
        (≤_trans (≤_mul_left (nat lambda) (nat_nn lambda) h)
        (≤_trans (≤_of_eq (ℚ_ring.mul_comm (nat lambda) (nat e) ∙ sym (nat_mul e lambda))) (up_le (e *ⁿ lambda) b b_pos))))

-- with λ = 0 all but the first are 0
t_zero : (n : ℕ) → t 0 (suc n) ≡ 0
unfolding t
t_zero n = ap (λ x. near x (suc n *ⁿ unit)) none ∙ near_zero (suc n *ⁿ unit) (let h = unit_pos in omega arith)
  where
    none : t 0 n *ⁿ 0 ≡ 0
    none = omega arith

exp_term_zero : (n : ℕ) → exp_term (rate_of 0) (suc n) ≡ zero_q
exp_term_zero n = ap (λ y. exp_term y (suc n)) (ap (λ x. over x unit) nat_zero ∙ over_zero unit)
    ∙ ring2 ℚ_ring (λ f p. f ⊗ (𝟎 ⊗ p) := 𝟎) tt (ifact (suc n)) (pow_q zero_q n)

t_close : (lambda n : ℕ) → abs (nat (t lambda n) -ℚ U *ℚ exp_term (rate_of lambda) n) ≤ℚ nat (c lambda n)
unfolding t c
t_close zero zero = first_close (rate_of 0)
t_close zero (suc n) = abs_subst
    (ring1 ℚ_ring (λ u. 𝟎 := 𝟎 ⊝ u ⊗ 𝟎) tt U ∙ ap₂ (λ a b. a -ℚ U *ℚ b) (sym (ap nat (t_zero n) ∙ nat_zero)) (sym (exp_term_zero n)))
    (abs_zero_le (nat_nn 0))
t_close (suc lambda) zero = first_close (rate_of (suc lambda))
t_close (suc lambda) (suc n) = next_close (suc lambda) n (t (suc lambda) n) (c (suc lambda) n) (t_close (suc lambda) n)

-- ---- the alternating sum, of K terms
alternating_close : (lambda K : ℕ) →
    abs (ofℤ (B.sumℤ K (λ n. alternate n (pos (t lambda n)))) -ℚ U *ℚ sum K (exp_term (neg_q (rate_of lambda)))) ≤ℚ nat (B.sum K (c lambda))
alternating_close lambda K =
    subst (λ z. abs (ofℤ z -ℚ U *ℚ sum K (exp_term (neg_q y))) ≤ℚ nat (B.sum K (c lambda))) (sym (sumℤ_is K (λ n. alternate n (pos (t lambda n)))))
    (≤_trans (whole_sum_close U K (λ n. alternate n (pos (t lambda n))) (exp_term (neg_q y)) (c lambda) (λ n l.
    subst (λ x. abs (ofℤ (alternate n (pos (t lambda n))) -ℚ U *ℚ x) ≤ℚ nat (c lambda n)) (sym (exp_term_neg y n))
    (alternate_close n (pos (t lambda n)) U (exp_term y n) (nat (c lambda n)) (t_close lambda n))))
    (≤_of_eq (ap nat (sym (sum_is K (c lambda))))))
  where
    y : ℚ
    y = rate_of lambda

-- ---- the factors p / 10^6 of group 1, in order
unfoldable pub stays : List Life → ℚ
stays [] = one_q
stays (m ∷ ms) = if single m then over (nat (stay m)) (10 ^ 6) *ℚ stays ms else stays ms

factor_close : (v : ℤ) (s : ℚ) (e p : ℕ) → p ≤ⁿ 10 ^ 6 → abs (ofℤ v -ℚ U *ℚ s) ≤ℚ nat e →
    abs (ofℤ (nearest (v *ℤ pos p) (10 ^ 6)) -ℚ U *ℚ (s *ℚ over (nat p) (10 ^ 6))) ≤ℚ nat (e +ⁿ 1)
factor_close v s e p l h = ≤_trans (nearest_step (v *ℤ pos p) (10 ^ 6) (omega arith) (U *ℚ (s *ℚ o)) (nat e) numerator) (half_up e)
  where
    o : ℚ
    o = over (nat p) (10 ^ 6)

    exact : nat p *ℚ (ofℤ v -ℚ U *ℚ s) ≡ ofℤ (v *ℤ pos p) -ℚ nat (10 ^ 6) *ℚ (U *ℚ (s *ℚ o))
    exact = ring4 ℚ_ring (λ p v u s. p ⊗ (v ⊝ u ⊗ s) := v ⊗ p ⊝ u ⊗ s ⊗ p) tt (nat p) (ofℤ v) U s
        ∙ ap₂ ◌-ℚ◌ (sym (ofℤ_mul v (pos p)))
        (ap (λ x. U *ℚ s *ℚ x) (sym (over_ok (nat p) (10 ^ 6) (omega arith)))
        ∙ ring4 ℚ_ring (λ u s m o. u ⊗ s ⊗ (m ⊗ o) := m ⊗ (u ⊗ (s ⊗ o))) tt U s (nat (10 ^ 6)) o)

    numerator : abs (ofℤ (v *ℤ pos p) -ℚ nat (10 ^ 6) *ℚ (U *ℚ (s *ℚ o))) ≤ℚ nat (10 ^ 6) *ℚ nat e
    numerator = abs_subst exact (≤_trans (≤_of_eq (abs_scale (nat p) (ofℤ v -ℚ U *ℚ s) (nat_nn p))) (mul_mono (nat_nn p) (nat_nn e) (nat_le l) h))

multiplied_close : (ms : List Life) (v : ℤ) (s : ℚ) (e : ℕ) → abs (ofℤ v -ℚ U *ℚ s) ≤ℚ nat e →
    abs (ofℤ (multiplied v ms) -ℚ U *ℚ (s *ℚ stays ms)) ≤ℚ nat (e +ⁿ total (λ m. if single m then 1 else 0) ms)
unfolding multiplied stays total
multiplied_close [] v s e h = abs_subst (ring3 ℚ_ring (λ v u s. v ⊝ u ⊗ s := v ⊝ u ⊗ (s ⊗ 𝟏)) tt (ofℤ v) U s) (≤_trans h (nat_le (omega arith)))
multiplied_close (m ∷ ms) v s e h = go (single m) (multiplied_close ms)
  where
    singles : ℕ
    singles = total (λ m. if single m then 1 else 0) ms

    v' : ℤ
    v' = nearest (v *ℤ pos (stay m)) (10 ^ 6)

    o : ℚ
    o = over (nat (stay m)) (10 ^ 6)

    go : (b : Bool) →
        ((v : ℤ) (s : ℚ) (e : ℕ) → abs (ofℤ v -ℚ U *ℚ s) ≤ℚ nat e → abs (ofℤ (multiplied v ms) -ℚ U *ℚ (s *ℚ stays ms)) ≤ℚ nat (e +ⁿ singles)) →
        abs (ofℤ (multiplied (if b then v' else v) ms) -ℚ U *ℚ (s *ℚ (if b then o *ℚ stays ms else stays ms)))
        ≤ℚ nat (e +ⁿ ((if b then 1 else 0) +ⁿ singles))
    go true rest =
        ≤_trans (abs_subst (ap (λ x. ofℤ (multiplied v' ms) -ℚ U *ℚ x) (ℚ_ring.mul_assoc s o (stays ms)))
        (rest v' (s *ℚ o) (e +ⁿ 1) (factor_close v s e (stay m) (omega arith) h)))
        (nat_le (omega arith))
    go false rest = ≤_trans (rest v s e h) (nat_le (omega arith))

-- ---- f(0) and R(0)
pub start_close : (lambda : ℕ) (ms : List Life) →
    abs (ofℤ (start lambda ms) -ℚ nat unit *ℚ (exp_sum 63 (neg_q (over (nat lambda) unit)) *ℚ stays ms)) ≤ℚ nat (start_bound lambda ms)
unfolding start start_bound alternating
start_close lambda ms = multiplied_close ms (alternating lambda) (exp_sum 63 (neg_q (rate_of lambda))) (B.sum 64 (c lambda))
    (alternating_close lambda 64)
