-- Refusal 6 from the first model point that is half (half_at, none_half), and the refusals of rows in their order.
use Rattle.std.specs.Prelude.{◌≡◌, refl, Bool, true, false, List, ℕ, suc, ◌+◌, ◌<◌, ◌≤◌, ltb, ◌-◌, ◌⊎◌, length, map, Option, None, Some, Ok, Err, option_map, position}
use Rattle.std.proofs.Common.{sym, ◌∙◌, ap, arith, inl, inr, lt-ltb, le-ltb, ltb-true, ltb-false}
use borrow.Author.Tests.{eq-eqb, ne_eqb, le-leb, lt-leb}
use Rattle.arrayvec.specs.ArrayVec.{ArrayVec}
use Rattle.fund.specs.declared.Refused.{Refused}
use Rattle.fund.specs.declared.ModelPoint.{ModelPoint}
use Rattle.fund.specs.declared.Refusal.{Refusal}
use Rattle.fund.specs.declared.Refusal.TheVariants.{Range, Edition, Deductible, Unmatched, Half}
use Rattle.fund.specs.Verdict.{Verdict}
use Rattle.fund.specs.Limits.{most_rates, most_members}
use Rattle.fund.specs.Folding.{point, points}
use Rattle.fund.specs.Refusals.{first, unmatched, half, half_line, refuse, at0, first_member, matched}
use Rattle.laws.specs.FirstPlace.{first_at}
use Rattle.rows.specs.declared.Rows.{Rows}
use Rattle.matching.specs.Matching.{with_points, file_of, matching, matched_rows}
use Rattle.matching.specs.Points.{model_points, not_half}

-- the answer of a search
stopped : (why : Refusal) (ps : List ModelPoint) (o : Option ℕ) (place : ℕ) → o ≡ Some place → Err (record { why = why; place = place }) ≡ with_points ps (refuse why o (Ok tt))
unfolding refuse with_points
stopped why ps o place e = rw e refl

gone_through : (why : Refusal) (ps : List ModelPoint) (o : Option ℕ) → o ≡ None → Ok (record { items = ps }) ≡ with_points ps (refuse why o (Ok tt))
unfolding refuse with_points
gone_through why ps o e = rw e refl

-- what follows 5
stops_alike : (e : Refused) (ps : List ModelPoint) (o : Option ℕ) (v : Verdict) → Err e ≡ with_points ps (refuse Unmatched o (Ok tt)) → Err e ≡ with_points ps (refuse Unmatched o v)
unfolding refuse with_points
stops_alike e ps None v k = let z : ◌≡◌ {A = ℕ} 0 1 = cc k in absurd (omega arith)
stops_alike e ps (Some place) v k = k

passes_alike : (vs : ArrayVec ModelPoint) (ps : List ModelPoint) (o : Option ℕ) (v : Verdict) → Ok vs ≡ with_points ps (refuse Unmatched o (Ok tt)) →
    (vs.items ≡ ps) × (with_points ps v ≡ with_points ps (refuse Unmatched o v))
unfolding refuse with_points
passes_alike vs ps None v k = let z : vs ≡ record { items = ps } = cc k in (ap (λ (w : ArrayVec ModelPoint). w.items) z, refl)
passes_alike vs ps (Some place) v k = let z : ◌≡◌ {A = ℕ} 0 1 = cc k in absurd (omega arith)

module _ (ps : List ModelPoint) (line : ℕ) where
  found : first half_line line ps ≡ option_map (λ k. line + k) (position (λ (p : ModelPoint). half p.life) ps)
  unfolding half_line
  found = first_at half_line line ps

  pub half_at : (k : ℕ) → position (λ (p : ModelPoint). half p.life) ps ≡ Some k → Err (record { why = Half; place = line + k }) ≡ not_half ps line
  unfolding not_half
  half_at k e = stopped Half ps _ _ (found ∙ ap (option_map (λ k. line + k)) e)

  pub none_half : position (λ (p : ModelPoint). half p.life) ps ≡ None → Ok (record { items = ps }) ≡ not_half ps line
  unfolding not_half
  none_half e = gone_through Half ps _ (found ∙ ap (option_map (λ k. line + k)) e)

-- 4 without the sum.
pub above_rest : (deductible horizon : ℕ) → ltb horizon (deductible - 1) ≡ ltb (suc horizon) deductible
above_rest deductible horizon = go (ltb (suc horizon) deductible) refl
  where
    go : (b : Bool) → ltb (suc horizon) deductible ≡ b → ltb horizon (deductible - 1) ≡ b
    go true e = let h = ltb-true _ _ e in lt-ltb _ _ (omega (arith, h))
    go false e = let h = ltb-false _ _ e in le-ltb _ _ (omega (arith, h))

-- 3 and 4, and the counts; then what follows for rows that a file may have.
module _ (r : Rows) where
  pub too_many : (most_rates < length r.rates.now) ⊎ ((length r.rates.now ≤ most_rates) × (most_members < length r.members.now)) →
      Err (record { why = Range; place = 0 }) ≡ matched_rows r
  unfolding matched_rows
  too_many (inl h) = rw (lt-leb _ _ h) refl
  too_many (inr h) = rw (le-leb _ _ h.0, lt-leb _ _ h.1) refl

  module _ (few_rates : length r.rates.now ≤ most_rates) (few_members : length r.members.now ≤ most_members) where
    fits : matched_rows r ≡ matching (file_of r)
    unfolding matched_rows
    fits = rw (le-leb _ _ few_rates, le-leb _ _ few_members) refl

    pub three : (r.fund.rates ≡ r.fund.members → ⊥) → Err (record { why = Edition; place = 0 }) ≡ matched_rows r
    unfolding matching matched refuse at0 with_points
    three d = sym (fits ∙ rw (ne_eqb _ _ d) refl)

    module _ (same : r.fund.rates ≡ r.fund.members) where
      pub four : ltb (suc r.fund.horizon) r.fund.deductible ≡ true → Err (record { why = Deductible; place = 0 }) ≡ matched_rows r
      unfolding matching matched refuse at0 with_points
      four d = sym (fits ∙ rw (eq-eqb _ _ same, d) refl)

      module _ (not_above : ltb (suc r.fund.horizon) r.fund.deductible ≡ false) (line : ℕ) (at : line ≡ first_member (file_of r)) where
        abbrev ps : List ModelPoint
        ps = map (point r.rates.now) r.members.now

        rest : matched_rows r ≡ with_points ps (refuse Unmatched (first (unmatched r.rates.now) line r.members.now) (refuse Half (first half_line line ps) (Ok tt)))
        unfolding matching matched at0 refuse points
        rest = fits ∙ rw (eq-eqb _ _ same, not_above, at) refl

        -- where 5 stops, and where it does not
        pub five : (e : Refused) → Err e ≡ model_points r.rates.now r.members.now line → Err e ≡ matched_rows r
        unfolding model_points
        five e k = stops_alike e ps (first (unmatched r.rates.now) line r.members.now) _ k ∙ sym rest

        pub six : (vs : ArrayVec ModelPoint) → Ok vs ≡ model_points r.rates.now r.members.now line → not_half vs.items line ≡ matched_rows r
        unfolding model_points not_half
        six vs k =
            let s = passes_alike vs ps (first (unmatched r.rates.now) line r.members.now) (refuse Half (first half_line line ps) (Ok tt)) k in
            ap (λ qs. with_points qs (refuse Half (first half_line line qs) (Ok tt))) s.0 ∙ s.1 ∙ sym rest
