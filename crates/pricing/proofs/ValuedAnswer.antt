-- The answer of a fund that is read, from the refusals 3 to 6 (matched_answers) and from the valuation (valued_answers).
use Rattle.std.specs.Prelude.{Err, Ok}
use mathlib.Core.Path.{◌≡◌, refl, sym, ◌∙◌, ap, subst}
use mathlib.Core.List.{List, []}
use Prim.Native.Nat.{ℕ, ◌≤◌}
use borrow.Author.Tests.{ltb-false}
use Rattle.fund.specs.declared.Fund.{Fund}
use Rattle.fund.specs.declared.ModelPoint.{ModelPoint}
use Rattle.fund.specs.declared.Refused.{Refused}
use Rattle.fund.specs.Verdict.{Verdict}
use Rattle.fund.specs.Limits.{most_members}
use Rattle.fund.specs.Reading.{FundFile, Reading, read}
use Rattle.fund.specs.Folding.{points, copies, lives}
use Rattle.fund.specs.Refusals.{Lengths, matched, valued}
use Rattle.fund.specs.Answer.{Answer, part, refused, accepted, fund_cells, answer_of, answer_to}
use Rattle.laws.specs.Accepted.{refuse_accepted, at0_none}
use Rattle.laws.specs.Ranges.{FundOk}
use Rattle.totals.specs.Table.{Points}
use Rattle.totals.specs.Inside.{HeaderIn}
use Rattle.transform.specs.Transformed.{outcome}
use Rattle.valuation.specs.Valued.{valuation}
use Rattle.valuation.proofs.ValuedInside.{valuation_inside}
use Rattle.pricing.specs.JoinedSteps.{points_in, answer_matched, answer_valued}
use Rattle.pricing.specs.Priced.{lined}

-- With its line, what a refusal or a valuation leaves is the answer of a verdict.
pub lined_refused : (text : List ℕ) (n : Lengths) (e : Refused) → lined text (refused [] n (Err e)) ≡ refused text n (Err e)
unfolding refused
lined_refused text n e = refl

lined_outcome : (text : List ℕ) (n : Lengths) (fund : FundFile) (v : Verdict) → lined text (outcome fund.header (lives fund) n v) ≡ answer_of text n fund v
unfolding answer_of accepted part
lined_outcome text n fund (Ok u) = refl
lined_outcome text n fund (Err stop) = lined_refused text n stop

module _ (text : List ℕ) (n : Lengths) (r : Reading) (fund : FundFile) (is : r ≡ read fund) where
  pub matched_answers : (e : Refused) (a : Answer) → matched fund (Ok tt) ≡ Err e → a ≡ refused [] n (Err e) → lined text a ≡ answer_to text n r
  matched_answers e a w k = ap (lined text) k ∙ lined_refused text n e ∙ sym (answer_matched text n r fund is e.why e.place w)

  module _ (ok : FundOk fund) (ps : List ModelPoint) (m : matched fund (Ok tt) ≡ Ok tt) (same : ps ≡ points fund) where
    in_range : Points ps
    in_range = subst (λ (qs : List ModelPoint). Points qs) (sym same) (points_in fund ok m)

    header_in : HeaderIn fund.header
    unfolding matched
    header_in =
        let h = ok.header in
        let e3 = refuse_accepted _ _ _ m in
        let e4 = refuse_accepted _ _ _ e3.1 in
        record { horizon = h.horizon; order = h.order_most; frequency = h.frequency; deductible = ltb-false _ _ (at0_none _ e4.0); worth_least = h.worth_least; worth_most = h.worth_most }

    pub valued_answers : (a : Answer) (header : Fund) (count : ℕ) → header ≡ fund.header → count ≤ most_members → a ≡ valuation header count ps n → lined text a ≡ answer_to text n r
    unfolding lives
    valued_answers a header count e few k =
        ap (lined text)
        (k
        ∙ ap (λ x. valuation x count ps n) e
        ∙ valuation_inside fund.header count ps n few header_in in_range
        ∙ ap (λ (qs : List ModelPoint). outcome fund.header (copies qs) n (valued fund.header (copies qs) n (fund_cells fund.header (copies qs)))) same)
        ∙ lined_outcome text n fund (valued fund.header (lives fund) n (fund_cells fund.header (lives fund)))
        ∙ sym (answer_valued text n r fund is m)
