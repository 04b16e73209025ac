-- The premium and its bound are together not negative, for every fund that is accepted (not_negative_lem). The exact premium is not below half a
-- unit under 0, the premium is within its bound of it, and premium and bound are whole numbers.
use Rattle.std.specs.Prelude.{◌≡◌, List, ℕ, suc, ◌<◌, ◌≤◌ as ◌≤ⁿ◌, ◌*◌ as ◌*ⁿ◌, ℤ, pos, negsuc, nat_abs, ◌+ℤ◌, ◌-ℤ◌, ◌*ℤ◌, ◌≤ℤ◌, Ok}
use Rattle.std.proofs.Common.{sym, ◌∙◌, ap, arith, le→leb}
use Rattle.algebra.specs.Order as O
use Rattle.algebra.specs.Solver.{con, 𝟏, ⊖◌, ◌⊕◌, ◌⊗◌, ◌⊝◌}
use Rattle.algebra.specs.Linear.{lin1, lin4, ◌≼◌, ◌⋅◌, rest, ◌∣◌, ◌⊢◌}
use Rattle.algebra.specs.Q.{ℚ_ring, ℚ_ord, neg_q, one_q, ◌-ℚ◌, ◌*ℚ◌, ◌≤ℚ◌, ≤_trans, ≤_of_eq}
use Rattle.algebra.specs.Embedding.{ofℤ, nat, ofℤ_add, ofℤ_neg, ofℤ_sub, ofℤ_mul, nat_mul, nat_le, nat_reflect, abs_ofℤ}
use Rattle.algebra.specs.Quotient.{cancel}
use Rattle.fund.specs.Limits.{most_deductible, most_amount}
use Rattle.fund.specs.Reading.{FundFile, Reading, read}
use Rattle.fund.specs.Folding.{lives}
use Rattle.fund.specs.Refusals.{Lengths}
use Rattle.fund.specs.Answer.{fund_cells, fund_mean, answer_to}
use Rattle.fund.specs.Distance.{file_denominator, exact_premium_of}
use Rattle.laws.specs.Accepted.{Accepts, accepts}
use Rattle.laws.specs.Ranges.{FundOk}
use Rattle.laws.specs.Answer.{answer_accepted}
use Rattle.distance.specs.Weights.{amounts_below}
use Rattle.distance.specs.ExactPremium.{exact_premium_low}
use Rattle.distance.specs.Distance.{priceable, denominator_pos, distance}

-- ---- whole numbers
-- a whole number that is not below -1/2
half_whole : (z : ℤ) → neg_q one_q ≤ℚ nat 2 *ℚ ofℤ z → pos 0 ≤ℤ z
half_whole (pos n) h = record { le = le→leb 0 n (omega arith) }
half_whole (negsuc n) h = absurd (none (nat_reflect (2 *ⁿ suc n) 1 (≤_trans (≤_of_eq (nat_mul 2 (suc n)))
    (lin1 ℚ_ring ℚ_ord (λ y. 1 ⋅ ⊖ 𝟏 ≼ con (pos 2) ⊗ ⊖ y ∣ rest 0 ⊢ con (pos 2) ⊗ y ≼ con (pos 1)) tt (nat (suc n))
    (≤_trans h (≤_of_eq (ap (λ x. nat 2 *ℚ x) (ofℤ_neg (pos (suc n))))), tt)))))
  where
    none : 2 *ⁿ suc n ≤ⁿ 1 → ⊥
    none l = omega arith

-- D is a denominator: `exact` stands for a premium times D, and is not below -D/2
above_half : (D within : ℕ) (premium exact : ℤ) → 0 < D → nat_abs (pos D *ℤ premium -ℤ exact) ≤ⁿ D *ⁿ within → neg_q (nat D) ≤ℚ nat 2 *ℚ ofℤ exact →
    pos 0 ≤ℤ (premium +ℤ pos within)
above_half D within premium exact d h k = half_whole (premium +ℤ pos within) (cancel D d (≤_trans
    (lin4 ℚ_ring ℚ_ord (λ d p e w. 2 ⋅ ⊖ (d ⊗ p ⊝ e) ≼ d ⊗ w ∣ 1 ⋅ ⊖ d ≼ con (pos 2) ⊗ e ∣ rest 0 ⊢ d ⊗ ⊖ 𝟏 ≼ d ⊗ (con (pos 2) ⊗ (p ⊕ w))) tt
    (nat D) (ofℤ premium) (ofℤ exact) (nat within) (near, (k, tt)))
    (≤_of_eq (ap (λ x. nat D *ℚ (nat 2 *ℚ x)) (sym (ofℤ_add premium (pos within)))))))
  where
    gap : ℤ
    gap = pos D *ℤ premium -ℤ exact

    near : neg_q (nat D *ℚ ofℤ premium -ℚ ofℤ exact) ≤ℚ nat D *ℚ nat within
    near = ≤_trans (≤_of_eq (ap neg_q (ap (λ x. x -ℚ ofℤ exact) (sym (ofℤ_mul (pos D) premium)) ∙ sym (ofℤ_sub (pos D *ℤ premium) exact))))
        (≤_trans (O.abs_ge_neg ℚ_ring ℚ_ord (ofℤ gap)) (≤_trans (≤_of_eq (abs_ofℤ gap)) (≤_trans (nat_le h) (≤_of_eq (nat_mul D within)))))

-- ---- an accepted fund
exact_low : (fund : FundFile) (n : Lengths) → FundOk fund → Accepts fund n (fund_cells fund.header (lives fund)) →
    neg_q (nat (file_denominator fund)) ≤ℚ nat 2 *ℚ ofℤ (exact_premium_of fund)
unfolding exact_premium_of file_denominator fund_mean
exact_low fund n ok a =
    let few : fund.header.deductible ≤ⁿ most_deductible = ok.header.deductible in
    exact_premium_low fund.header.horizon fund.header.order fund.header.frequency (lives fund) ok.header.order_most (priceable fund n a)
    fund.header.deductible a.deductible (suc most_amount) (amounts_below fund ok.rows.members) (omega arith) few

pub not_negative_lem : (text : List ℕ) (n : Lengths) (r : Reading) (fund : FundFile) → FundOk fund → r ≡ read fund → (answer_to text n r).verdict ≡ Ok tt →
    pos 0 ≤ℤ ((answer_to text n r).figures.premium +ℤ pos (answer_to text n r).figures.within)
not_negative_lem text n r fund ok is e =
    let c = answer_accepted text n r fund is e in
    let a = accepts fund n (fund_cells fund.header (lives fund)) c.verdict_is in
    let given = answer_to text n r in
    above_half (file_denominator fund) given.figures.within given.figures.premium (exact_premium_of fund) (denominator_pos fund)
    (distance text n r fund ok is e).premium
    (exact_low fund n ok a)
