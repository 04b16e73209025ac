-- With lambda 0 the exact premium is, in units, the average excess over M of all outcomes of the group 1 members
-- (average_excess), multiplied out over METHOD 10's denominator. No weight is left in group 2, so the exact distribution is
-- the convolution of group 1, and the outcomes' sums give the premium's.
use Rattle.std.specs.Prelude.{◌≡◌, refl, Bool, true, false, List, [], ◌∷◌, ℤ, ◌+ℤ◌, ◌-ℤ◌, ◌*ℤ◌, if◌then◌else◌}
use Rattle.std.proofs.Math.Path.{sym, ap, ap₂, fun_ext}
use Rattle.std.proofs.Common.{◌∙◌, mul_assoc, mul_comm, zero-mul, arith}
use Prim.Native.Nat.{ℕ, suc, ◌≤◌ as ◌≤ⁿ◌, ◌+◌ as ◌+ⁿ◌, ◌*◌ as ◌*ⁿ◌, ◌-◌ as ◌∸◌, ◌^◌}
use Rattle.std.proofs.Math.IntN.{pos}
use Rattle.algebra.specs.Laws as L
use Rattle.algebra.specs.SeriesRing as SR
use Rattle.algebra.specs.Q.{ℚ_ring, neg_q, zero_q, one_q, ◌+ℚ◌, ◌-ℚ◌, ◌*ℚ◌}
use Rattle.algebra.specs.Embedding.{ofℤ, ofℤ_add, ofℤ_mul, ofℤ_sub, ofℤ_injective, nat, nat_zero, nat_add, nat_mul}
use Rattle.algebra.specs.Quotient.{over, over_zero}
use Rattle.algebra.specs.RationalSum.{sum, sum_ext, sum_mul, sum_zero, sum_first, nat_sum, ofℤ_sum}
use Rattle.algebra.specs.NatSum.{sum_n_term}
use Rattle.algebra.specs.Power.{pow_q, nat_pow, ifact}
use Rattle.algebra.specs.PowerSeries.{Ser, ◌⋆◌, one_s, zero_s, pow, const_product}
use Rattle.algebra.specs.Solver.{ring2, ring3, ring4, ring5, ring6, ◌⊕◌, ◌⊗◌, ◌⊝◌, ◌:=◌}
use Rattle.expansion.specs.Member.{own_product}
use Rattle.expansion.specs.Poisson.{poisson}
use Rattle.expansion.specs.Exponential.{exp_sum}
use Rattle.fund.specs.declared.Frequencies.{Frequencies}
use Rattle.fund.specs.declared.Life.{Life}
use Rattle.fund.specs.Base.{total, sumℤ}
use Rattle.fund.specs.Folding.{single}
use Rattle.fund.specs.Transform.{unit, death_weight, disability_weight, lambda, mean}
use Rattle.fund.specs.Exact.{singles, denominator, single_part, weight_at, exact, exact_premium, outcomes, excess}
use Rattle.laws.specs.Accepted.{All, Limited}
use Rattle.laws.specs.Cells.{sumℤ_is}
use Rattle.distance.specs.Lives.{members, W, rate, FoldedLife}
use Rattle.distance.specs.Errors.{U, nat_units}
use Rattle.distance.specs.Exact.{sixes, single_is, P, exact_is}
use Rattle.distance.specs.Members.{weights_within}
use Rattle.distance.specs.Outcomes.{expect, below, claims, claims_are, excess_whole}

-- ---- no weight is left
no_weight : (a : Frequencies) (ms : List Life) → lambda a ms ≡ 0 → (k : ℕ) → weight_at a ms k ≡ 0
no_weight a ms z k = let h = weights_within a ms (suc k) in let l = sum_n_term (suc k) k (weight_at a ms) (omega arith) in omega arith

-- group 2 adds nothing to the mean
pub mean_claims : (a : Frequencies) (ms : List Life) → lambda a ms ≡ 0 → mean a ms ≡ 1000000 *ⁿ claims ms
unfolding mean lambda claims total
mean_claims a [] h = refl
mean_claims a (m ∷ ms) h = go (single m) h (mean_claims a ms)
  where
    A : ℕ
    A = m.q *ⁿ m.d +ⁿ m.i *ⁿ m.e

    times : (w d : ℕ) → w ≡ 0 → w *ⁿ d ≡ 0
    times w d z = ap (λ y. y *ⁿ d) z ∙ zero-mul d

    go : (b : Bool) → (if b then 0 else death_weight a m +ⁿ disability_weight a m) +ⁿ lambda a ms ≡ 0 → (lambda a ms ≡ 0 → mean a ms ≡ 1000000 *ⁿ claims ms) →
        (if b then A *ⁿ 10 ^ 6 else death_weight a m *ⁿ m.d +ⁿ disability_weight a m *ⁿ m.e) +ⁿ mean a ms ≡ 1000000 *ⁿ ((if b then A else 0) +ⁿ claims ms)
    go true h ih = let e = ih (omega arith) in omega arith
    go false h ih =
        omega (arith, ih (omega arith), times (death_weight a m) m.d (omega arith), times (disability_weight a m) m.e (omega arith))

-- ---- the exact distribution without weights
pow_none : (n x : ℕ) → pow zero_s (suc n) x ≡ zero_q
pow_none n x = SR.product_zero ℚ_ring x (pow zero_s n)

poisson_none : (x : ℕ) → poisson zero_s x ≡ one_s x
poisson_none x =
    sum_first x (λ n. ifact n *ℚ pow zero_s n x)
    ∙ ap₂ ◌+ℚ◌ (L.one-mul ℚ_ring (one_s x)) (sum_ext x (λ n. ifact (suc n) *ℚ pow zero_s (suc n) x) (λ n. zero_q) (λ n l. ap (λ y. ifact (suc n) *ℚ y) (pow_none n x) ∙ L.mul-zero ℚ_ring (ifact (suc n))) ∙ sum_zero x)
    ∙ ℚ_ring.add-zero (one_s x)

exp_none : (K : ℕ) → exp_sum K zero_q ≡ one_q
exp_none K =
    sum_first K (λ n. ifact n *ℚ pow_q zero_q n)
    ∙ ap₂ ◌+ℚ◌ (ℚ_ring.mul-one one_q) (sum_ext K (λ n. ifact (suc n) *ℚ pow_q zero_q (suc n)) (λ n. zero_q) (λ n l. ap (λ y. ifact (suc n) *ℚ y) (L.zero-mul ℚ_ring (pow_q zero_q n)) ∙ L.mul-zero ℚ_ring (ifact (suc n))) ∙ sum_zero K)
    ∙ ℚ_ring.add-zero one_q

module _ (X r : ℕ) (a : Frequencies) (ms : List Life) (limited : All Limited ms) (folded : All FoldedLife ms) (none : lambda a ms ≡ 0) where
  no_weights : W a ms ≡ zero_s
  unfolding W
  no_weights = fun_ext (λ k. ap (λ y. over (nat y) unit) (no_weight a ms none k) ∙ ap (λ y. over y unit) nat_zero ∙ over_zero unit)

  no_rate : neg_q (rate a ms) ≡ zero_q
  unfolding rate
  no_rate = ap neg_q (ap (λ y. over (nat y) unit) none ∙ ap (λ y. over y unit) nat_zero ∙ over_zero unit) ∙ L.neg_zero ℚ_ring

  P_is : (x : ℕ) → P r a ms x ≡ own_product (members r ms) x
  P_is x =
      const_product (exp_sum 63 (neg_q (rate a ms))) (poisson (W a ms) ⋆ own) x
      ∙ ap₂ ◌*ℚ◌ (ap (exp_sum 63) no_rate ∙ exp_none 63) (ap (λ Q. (Q ⋆ own) x) (ap poisson no_weights ∙ fun_ext poisson_none) ∙ SR.one_product ℚ_ring x own)
      ∙ L.one-mul ℚ_ring (own x)
    where
      own : Ser
      own = own_product (members r ms)

  abbrev G : ℕ
  G = 10 ^ (6 *ⁿ singles ms)

  -- the exact value times 10^(6g) is the denominator times the convolution's cell
  exact_single : (x : ℕ) → x ≤ⁿ X → ofℤ (exact X a ms x) *ℚ nat G ≡ nat (denominator X ms) *ℚ nat (single_part ms x)
  exact_single x l =
      ap₂ ◌*ℚ◌ (exact_is X r a ms limited folded x l ∙ ap (λ y. nat (denominator X ms) *ℚ y) (P_is x)) (nat_pow 10 (6 *ⁿ singles ms))
      ∙ ring3 ℚ_ring (λ d o g. d ⊗ o ⊗ g := d ⊗ (g ⊗ o)) tt (nat (denominator X ms)) (own_product (members r ms) x) (sixes ms)
      ∙ ap (λ y. nat (denominator X ms) *ℚ y) (sym (single_is r ms limited folded x))

  -- the premium's sum, times 10^(6g)
  sum_single : (M : ℕ) → M ≤ⁿ suc X → ofℤ (sumℤ M (λ x. pos ((M ∸ x) *ⁿ 10 ^ 12) *ℤ exact X a ms x)) *ℚ nat G ≡ nat (denominator X ms) *ℚ (U *ℚ nat (below (single_part ms) M))
  sum_single M l =
      ap (λ y. y *ℚ nat G) (ap ofℤ (sumℤ_is M g) ∙ ofℤ_sum M g) ∙ ℚ_ring.mul_comm (sum M (λ x. ofℤ (g x))) (nat G) ∙ sym (sum_mul M (nat G) (λ x. ofℤ (g x)))
      ∙ sum_ext M (λ x. nat G *ℚ ofℤ (g x)) (λ x. nat Δ *ℚ U *ℚ nat ((M ∸ x) *ⁿ single_part ms x))
      (λ x h. ap (λ y. nat G *ℚ y) (ofℤ_mul (pos ((M ∸ x) *ⁿ 10 ^ 12)) (exact X a ms x) ∙ ap (λ y. y *ℚ ofℤ (exact X a ms x)) (nat_units (M ∸ x)))
      ∙ ring4 ℚ_ring (λ g m u e. g ⊗ (m ⊗ u ⊗ e) := m ⊗ u ⊗ (e ⊗ g)) tt (nat G) (nat (M ∸ x)) U (ofℤ (exact X a ms x))
      ∙ ap (λ y. nat (M ∸ x) *ℚ U *ℚ y) (exact_single x (omega arith))
      ∙ ring4 ℚ_ring (λ m u d s. m ⊗ u ⊗ (d ⊗ s) := d ⊗ u ⊗ (m ⊗ s)) tt (nat (M ∸ x)) U (nat Δ) (nat (single_part ms x))
      ∙ ap (λ y. nat Δ *ℚ U *ℚ y) (sym (nat_mul (M ∸ x) (single_part ms x))))
      ∙ sum_mul M (nat Δ *ℚ U) (λ x. nat ((M ∸ x) *ⁿ single_part ms x))
      ∙ ap (λ y. nat Δ *ℚ U *ℚ y) (sym (nat_sum M (λ x. (M ∸ x) *ⁿ single_part ms x)))
      ∙ ℚ_ring.mul_assoc (nat Δ) U (nat (below (single_part ms) M))
    where
      Δ : ℕ
      Δ = denominator X ms

      g : ℕ → ℤ
      g x = pos ((M ∸ x) *ⁿ 10 ^ 12) *ℤ exact X a ms x

  -- mean × 10^(6g) is 10^12 times the weighted totals
  mean_single : nat (mean a ms) *ℚ nat G ≡ U *ℚ nat (expect (λ c. c) (outcomes ms))
  mean_single =
      sym (nat_mul (mean a ms) G)
      ∙ ap nat (ap (λ y. y *ⁿ G) (mean_claims a ms none) ∙ mul_assoc 1000000 (claims ms) G ∙ ap (λ y. 1000000 *ⁿ y) (sym (claims_are ms limited)) ∙ (let e : 1000000 *ⁿ (1000000 *ⁿ C) ≡ C *ⁿ 10 ^ 12 = omega arith in e))
      ∙ nat_units C ∙ ℚ_ring.mul_comm (nat C) U
    where
      C : ℕ
      C = expect (λ c. c) (outcomes ms)

  pub average_excess : (M : ℕ) → M ≤ⁿ suc X → exact_premium X M (mean a ms) a ms *ℤ pos G ≡ pos (10 ^ 12 *ⁿ excess M (outcomes ms) *ⁿ denominator X ms)
  unfolding exact_premium
  average_excess M l = ofℤ_injective (exact_premium X M (mean a ms) a ms *ℤ pos G) (pos (10 ^ 12 *ⁿ E *ⁿ Δ))
      (ofℤ_mul (first *ℤ pos Δ +ℤ rest) (pos G) ∙ ap (λ y. y *ℚ nat G) (ofℤ_add (first *ℤ pos Δ) rest ∙ ap (λ y. y +ℚ ofℤ rest) (ofℤ_mul first (pos Δ) ∙ ap (λ y. y *ℚ nat Δ) (ofℤ_sub (pos (mean a ms)) (pos (M *ⁿ 10 ^ 12)) ∙ ap (λ y. nat (mean a ms) -ℚ y) (nat_units M))))
      ∙ ring6 ℚ_ring (λ m k u d s g. ((m ⊝ k ⊗ u) ⊗ d ⊕ s) ⊗ g := d ⊗ (m ⊗ g ⊝ u ⊗ (k ⊗ g)) ⊕ s ⊗ g) tt (nat (mean a ms)) (nat M) U (nat Δ) (ofℤ rest) (nat G)
      ∙ ap₂ (λ x y. nat Δ *ℚ (x -ℚ U *ℚ (nat M *ℚ nat G)) +ℚ y) mean_single (sum_single M l)
      ∙ ring5 ℚ_ring (λ d u c k b. d ⊗ (u ⊗ c ⊝ u ⊗ k) ⊕ d ⊗ (u ⊗ b) := d ⊗ (u ⊗ ((c ⊕ b) ⊝ k))) tt (nat Δ) U (nat C) (nat M *ℚ nat G) (nat B)
      ∙ ap (λ y. nat Δ *ℚ (U *ℚ y)) whole
      ∙ ring3 ℚ_ring (λ d u e. d ⊗ (u ⊗ e) := e ⊗ u ⊗ d) tt (nat Δ) U (nat E)
      ∙ ap (λ y. y *ℚ nat Δ) (sym (nat_units E) ∙ ap nat (mul_comm E (10 ^ 12))) ∙ sym (nat_mul (10 ^ 12 *ⁿ E) Δ))
    where
      Δ : ℕ
      Δ = denominator X ms

      first : ℤ
      first = pos (mean a ms) -ℤ pos (M *ⁿ 10 ^ 12)

      rest : ℤ
      rest = sumℤ M (λ x. pos ((M ∸ x) *ⁿ 10 ^ 12) *ℤ exact X a ms x)

      C : ℕ
      C = expect (λ c. c) (outcomes ms)

      B : ℕ
      B = below (single_part ms) M

      E : ℕ
      E = excess M (outcomes ms)

      whole : nat C +ℚ nat B -ℚ nat M *ℚ nat G ≡ nat E
      whole = ap₂ ◌-ℚ◌ (sym (nat_add C B) ∙ ap nat (sym (excess_whole M ms limited)) ∙ nat_add E (M *ⁿ G)) (sym (nat_mul M G)) ∙ ring2 ℚ_ring (λ e k. (e ⊕ k) ⊝ k := e) tt (nat E) (nat (M *ⁿ G))
