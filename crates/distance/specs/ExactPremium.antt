-- The exact premium is never below half a unit under 0 (exact_premium_low). With t = M less the mean, in whole, it is e S - t times 10^12 for
-- the shortfall S of the exact distribution without its factor e; S is at least t Σ λⁿ / n!, and e times that sum is at least 1 - 10^-20.
use Rattle.std.specs.Prelude.{◌≡◌, List, ℕ, suc, ◌<◌, ◌≤◌ as ◌≤ⁿ◌, ◌*◌ as ◌*ⁿ◌, ◌-◌ as ◌∸◌, pos}
use Rattle.std.proofs.Common.{sym, ◌∙◌, ap, ap₂, arith}
use Rattle.algebra.specs.Solver.{ring1, ring3, ring4, ring5, con, 𝟎, 𝟏, ⊖◌, ◌⊕◌, ◌⊗◌, ◌⊝◌, ◌:=◌}
use Rattle.algebra.specs.Linear.{lin2, lin3, lin4, ◌≼◌, ◌⋅◌, rest, ◌∣◌, ◌⊢◌}
use Rattle.algebra.specs.Q.{ℚ, ℚ_ring, ℚ_ord, neg_q, zero_q, one_q, ◌+ℚ◌, ◌-ℚ◌, ◌*ℚ◌, ◌≤ℚ◌, ≤_trans, ≤_of_eq, ≤_total, ≤_mul_left, mul_nn, ≤_neg, sub_nn}
use Rattle.algebra.specs.Embedding.{ofℤ, nat, nat_add, nat_mul, nat_nn, nat_le}
use Rattle.algebra.specs.Quotient.{over, over_ok, over_nn, cancel}
use Rattle.algebra.specs.RationalSum.{sum, sum_ext, sum_mul}
use Rattle.algebra.specs.PowerSeries.{Ser, ◌⋆◌, const_product}
use Rattle.algebra.specs.SeriesOrder.{product_nn}
use Rattle.expansion.specs.Member.{own_product}
use Rattle.expansion.specs.Mass.{own_product_nn}
use Rattle.expansion.specs.Poisson.{poisson, poisson_nn}
use Rattle.expansion.specs.Exponential.{exp_sum}
use Rattle.expansion.specs.ExponentialProduct.{exp_63_nn, exp_63_low}
use Rattle.expansion.specs.Shortfall.{shortfall, shortfall_sum, shortfall_low}
use Rattle.expansion.specs.Total.{Group, exact_series}
use Rattle.fund.specs.declared.Frequencies.{Frequencies}
use Rattle.fund.specs.declared.Life.{Life}
use Rattle.fund.specs.Limits.{most_deductible}
use Rattle.fund.specs.Transform.{unit, mean}
use Rattle.fund.specs.Exact.{denominator, exact_premium}
use Rattle.laws.specs.Accepted.{All}
use Rattle.distance.specs.Errors.{U, unit_pos}
use Rattle.distance.specs.Lives.{members, W, rate}
use Rattle.distance.specs.Members.{Priceable, members_share, group}
use Rattle.distance.specs.Outcomes.{claims}
use Rattle.distance.specs.Weights.{replaced_mean, mean_parts, Below, moment, reach}
use Rattle.distance.specs.OwnShortfall.{own_mean, own_shortfall}
use Rattle.distance.specs.Whole.{exact_premium_is}

-- ---- in ℚ
small_unit : unit *ⁿ (2 *ⁿ most_deductible) ≤ⁿ 100000000000000000000
unfolding unit
small_unit = omega arith

-- e s ≥ 1 - 10^-20, S ≥ t s and t at most the largest deductible: 10^12 (e S - t) ≥ -1/2
above : (e s S t : ℚ) → zero_q ≤ℚ e → zero_q ≤ℚ S → (zero_q ≤ℚ t → t *ℚ s ≤ℚ S) → nat 99999999999999999999 ≤ℚ nat 100000000000000000000 *ℚ (e *ℚ s) → t ≤ℚ nat most_deductible →
    neg_q one_q ≤ℚ nat 2 *ℚ (U *ℚ (e *ℚ S -ℚ t))
above e s S t e_nn S_nn low near few = ≤_total zero_q t (neg_q one_q ≤ℚ nat 2 *ℚ (U *ℚ (e *ℚ S -ℚ t))) above_mean not_above
  where
    T : ℕ
    T = 100000000000000000000

    v : ℚ
    v = e *ℚ S -ℚ t

    far : zero_q ≤ℚ t → neg_q (nat most_deductible) ≤ℚ nat T *ℚ v
    far h = ≤_trans (≤_neg few) (lin4 ℚ_ring ℚ_ord (λ e s S t. 100000000000000000000 ⋅ e ⊗ (t ⊗ s) ≼ e ⊗ S
        ∣ 1 ⋅ t ⊗ con (pos 99999999999999999999) ≼ t ⊗ (con (pos 100000000000000000000) ⊗ (e ⊗ s)) ∣ rest 0
        ⊢ ⊖ t ≼ con (pos 100000000000000000000) ⊗ (e ⊗ S ⊝ t)) tt
        e s S t (≤_mul_left e e_nn (low h), (≤_mul_left t h near, tt)))

    above_mean : zero_q ≤ℚ t → neg_q one_q ≤ℚ nat 2 *ℚ (U *ℚ v)
    above_mean h = cancel T (omega arith) (lin3 ℚ_ring ℚ_ord (λ x u v. 2 ⋅ u ⊗ ⊖ con (pos most_deductible) ≼ u ⊗ (x ⊗ v) ∣ 1 ⋅ u ⊗ con (pos (2 *ⁿ most_deductible)) ≼ x ∣ rest 0
        ⊢ x ⊗ ⊖ 𝟏 ≼ x ⊗ (con (pos 2) ⊗ (u ⊗ v))) tt
        (nat T) U v (≤_mul_left U (nat_nn unit) (far h), (≤_trans (≤_of_eq (sym (nat_mul unit (2 *ⁿ most_deductible)))) (nat_le small_unit), tt)))

    not_above : t ≤ℚ zero_q → neg_q one_q ≤ℚ nat 2 *ℚ (U *ℚ v)
    not_above h = lin2 ℚ_ring ℚ_ord (λ u v. 2 ⋅ 𝟎 ≼ u ⊗ v ∣ rest 1 ⊢ ⊖ 𝟏 ≼ con (pos 2) ⊗ (u ⊗ v)) tt U v
        (mul_nn (nat_nn unit) (sub_nn (≤_trans h (mul_nn e_nn S_nn))), tt)

-- ---- the exact premium
-- group 2's part of the mean, in whole
abbrev rest_mean : Frequencies → List Life → ℚ
rest_mean a ms = over (nat (replaced_mean a ms)) unit

mean_is : (a : Frequencies) (ms : List Life) → nat (mean a ms) ≡ U *ℚ (own_mean ms +ℚ rest_mean a ms)
unfolding unit
mean_is a ms =
    ap nat (mean_parts a ms) ∙ nat_add (1000000 *ⁿ claims ms) (replaced_mean a ms)
    ∙ ap₂ ◌+ℚ◌ (nat_mul 1000000 (claims ms) ∙ ap (λ y. nat 1000000 *ℚ y) (sym (over_ok (nat (claims ms)) 1000000 (omega arith)))) (sym (over_ok (nat (replaced_mean a ms)) unit unit_pos))
    ∙ ring4 ℚ_ring (λ k u v w. k ⊗ (k ⊗ u) ⊕ v ⊗ w := (k ⊗ k) ⊗ u ⊕ v ⊗ w) tt (nat 1000000) (own_mean ms) U (rest_mean a ms)
    ∙ ap (λ y. y *ℚ own_mean ms +ℚ U *ℚ rest_mean a ms) (sym (nat_mul 1000000 1000000))
    ∙ sym (ℚ_ring.distrib U (own_mean ms) (rest_mean a ms))

module _ (X r : ℕ) (a : Frequencies) (ms : List Life) (small : r ≤ⁿ 12) (p : Priceable r a ms) (M : ℕ) (below : M ≤ⁿ suc X) where
  abbrev e : ℚ
  e = exp_sum 63 (neg_q (rate a ms))

  abbrev Q : Ser
  Q = poisson (W a ms)

  abbrev own : Ser
  own = own_product (members r ms)

  abbrev S : ℚ
  S = shortfall (Q ⋆ own) M

  -- M less the mean, in whole
  abbrev t : ℚ
  t = nat M -ℚ own_mean ms -ℚ rest_mean a ms

  weighted : sum M (λ x. nat (M ∸ x) *ℚ (U *ℚ exact_series 63 (rate a ms) (W a ms) (members r ms) x)) ≡ U *ℚ (e *ℚ S)
  weighted =
      sum_ext M (λ x. nat (M ∸ x) *ℚ (U *ℚ exact_series 63 (rate a ms) (W a ms) (members r ms) x)) (λ x. U *ℚ e *ℚ (nat (M ∸ x) *ℚ (Q ⋆ own) x))
      (λ x l. ap (λ y. nat (M ∸ x) *ℚ (U *ℚ y)) (const_product e (Q ⋆ own) x) ∙ ring4 ℚ_ring (λ k u e q. k ⊗ (u ⊗ (e ⊗ q)) := u ⊗ e ⊗ (k ⊗ q)) tt (nat (M ∸ x)) U e ((Q ⋆ own) x))
      ∙ sum_mul M (U *ℚ e) (λ x. nat (M ∸ x) *ℚ (Q ⋆ own) x)
      ∙ ap (λ y. U *ℚ e *ℚ y) (sym (shortfall_sum (Q ⋆ own) M))
      ∙ ℚ_ring.mul_assoc U e S

  premium_is : ofℤ (exact_premium X M (mean a ms) a ms) ≡ nat (denominator X ms) *ℚ (U *ℚ (e *ℚ S -ℚ t))
  premium_is =
      exact_premium_is X r a ms small p M (mean a ms) below
      ∙ ap₂ (λ x y. nat (denominator X ms) *ℚ (x -ℚ nat M *ℚ U +ℚ y)) (mean_is a ms) weighted
      ∙ ap (λ y. nat (denominator X ms) *ℚ y) (ring5 ℚ_ring (λ u o r m s. u ⊗ (o ⊕ r) ⊝ m ⊗ u ⊕ u ⊗ s := u ⊗ (s ⊝ (m ⊝ o ⊝ r))) tt U (own_mean ms) (rest_mean a ms) (nat M) (e *ℚ S))

  -- amounts below B
  module _ (B : ℕ) (amounts : All (Below B) ms) (deep : M < B) (few : M ≤ⁿ most_deductible) where
    g : Group (W a ms) (rate a ms)
    g = group r a ms p

    own_mean_nn : zero_q ≤ℚ own_mean ms
    own_mean_nn = over_nn (nat (claims ms)) 1000000 (nat_nn (claims ms))

    t_few : t ≤ℚ nat most_deductible
    t_few = lin3 ℚ_ring ℚ_ord (λ m o r. 1 ⋅ m ≼ con (pos most_deductible) ∣ 1 ⋅ 𝟎 ≼ o ∣ 1 ⋅ 𝟎 ≼ r ∣ rest 0 ⊢ m ⊝ o ⊝ r ≼ con (pos most_deductible)) tt (nat M) (own_mean ms) (rest_mean a ms)
        (nat_le few, (own_mean_nn, (over_nn (nat (replaced_mean a ms)) unit (nat_nn (replaced_mean a ms)), tt)))

    S_nn : zero_q ≤ℚ S
    S_nn = product_nn M (Q ⋆ own) nat (λ x. product_nn x Q own (poisson_nn (W a ms) g.W_nn) (own_product_nn (members r ms) (members_share r ms p.limited p.folded))) nat_nn

    S_low : zero_q ≤ℚ t → t *ℚ exp_sum 63 (rate a ms) ≤ℚ S
    S_low = shortfall_low (W a ms) own (own_mean ms) (rest_mean a ms) g.W_zero g.W_nn (moment a ms p.folded) (own_shortfall r ms p.limited p.folded) own_mean_nn M
        (rate a ms) B 63 (g.W_sum 0) (reach a ms B p.folded amounts) deep

    pub exact_premium_low : neg_q (nat (denominator X ms)) ≤ℚ nat 2 *ℚ ofℤ (exact_premium X M (mean a ms) a ms)
    exact_premium_low =
        ≤_trans (≤_of_eq (ring1 ℚ_ring (λ d. ⊖ d := d ⊗ ⊖ 𝟏) tt (nat (denominator X ms))))
        (≤_trans (≤_mul_left (nat (denominator X ms)) (nat_nn (denominator X ms))
        (above e (exp_sum 63 (rate a ms)) S t (exp_63_nn (rate a ms) (g.W_sum 0) g.ƛ_le) S_nn S_low (exp_63_low (rate a ms) (g.W_sum 0) g.ƛ_le) t_few))
        (≤_of_eq (ring3 ℚ_ring (λ d k v. d ⊗ (k ⊗ v) := k ⊗ (d ⊗ v)) tt (nat (denominator X ms)) (nat 2) (U *ℚ (e *ℚ S -ℚ t)) ∙ ap (λ y. nat 2 *ℚ y) (sym premium_is))))
