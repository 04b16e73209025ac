-- What is answered of what a reading gives is the answer to the text (read_answer_is), so that the call on what was read meets the contract of the call on the text (prices_read).
use Rattle.std.specs.Prelude.{◌≡◌, refl, List, ℕ, length, Result, Ok, Err}
use Rattle.std.proofs.Common.{sym, ◌∙◌, ap, arith, le-leb}
use lib.ListN.{length-map}
use Rattle.arrayvec.specs.ArrayVec.{ArrayVec}
use Rattle.fund.specs.declared.Cells.{Cells}
use Rattle.fund.specs.declared.ModelPoint.{ModelPoint}
use Rattle.fund.specs.declared.Refused.{Refused}
use Rattle.fund.specs.Limits.{most_rates, most_members}
use Rattle.fund.specs.Verdict.{Verdict}
use Rattle.fund.specs.Reading.{FundFile, Reading, read, stopped}
use Rattle.fund.specs.Folding.{point, points}
use Rattle.fund.specs.Refusals.{Lengths, matched}
use Rattle.fund.specs.Answer.{answer_to}
use Rattle.fund.specs.Listing.{horizon_in}
use Rattle.laws.specs.Ranges.{FundOk}
use Rattle.rows.specs.declared.FileRead.{FileRead}
use Rattle.rows.specs.declared.Rows.{Rows}
use Rattle.rows.specs.Read.{with_rows, file_read}
use Rattle.matching.specs.Matching.{with_points, file_of, matching, matched_rows}
use Rattle.pricing.specs.declared.Priced.{Priced}
use Rattle.pricing.specs.declared.NotPriced.{NotPriced}
use Rattle.pricing.specs.JoinedSteps.{answer_stopped}
use Rattle.pricing.specs.Priced.{verdict_in, left_priced, lined, horizon_with, valued_by, found_in, found_horizon, read_answer, PricesRead, Prices}
use Rattle.pricing.proofs.ValuedAnswer.{matched_answers, valued_answers}
use Rattle.pricing.proofs.ToldAnswer.{prices}

-- ---- rows that are a reading's
pub rows_found : (x : Reading) (f : FileRead) (r : Rows) → Ok f ≡ file_read x → r.fund ≡ f.fund → r.rates.now ≡ f.rates.items → r.members.now ≡ f.members.items → read (file_of r) ≡ x
unfolding file_read
rows_found (read k) f r e a b c =
    let z : f ≡ with_rows k.header k.rates k.members = cc e in
    rw (a, b, c) (ap (λ (g : FileRead). read (record { header = g.fund; rates = g.rates.items; members = g.members.items })) z)
rows_found (stopped why place) f r e a b c = let z : ◌≡◌ {A = ℕ} 0 1 = cc e in absurd (omega arith)

pub stop_found : (x : Reading) (e : Refused) → Err e ≡ file_read x → stopped e.why e.place ≡ x
unfolding file_read
stop_found (read k) e c = let z : ◌≡◌ {A = ℕ} 0 1 = cc c in absurd (omega arith)
stop_found (stopped why place) e c = let z : e ≡ record { why = why; place = place } = cc c in ap (λ (x : Refused). stopped x.why x.place) z

-- ---- what 3 to 6 answered of rows that a file may have
stops : (ps : List ModelPoint) (v : Verdict) (e : Refused) → with_points ps v ≡ Err e → v ≡ Err e
unfolding with_points
stops ps (Ok u) e k = let z : ◌≡◌ {A = ℕ} 0 1 = cc k in absurd (omega arith)
stops ps (Err stop) e k = let z : stop ≡ e = cc k in ap Err z

passes : (ps : List ModelPoint) (v : Verdict) (vs : ArrayVec ModelPoint) → with_points ps v ≡ Ok vs → (v ≡ Ok tt) × (vs.items ≡ ps)
unfolding with_points
passes ps (Ok u) vs k = let z : record { items = ps } ≡ vs = cc k in (refl, ap (λ (w : ArrayVec ModelPoint). w.items) (sym z))
passes ps (Err stop) vs k = let z : ◌≡◌ {A = ℕ} 0 1 = cc k in absurd (omega arith)

count : (file : FundFile) → length (points file) ≡ length file.members
unfolding points
count file = length-map file.members (point file.rates)

module _ (r : Rows) (ok : FundOk (file_of r)) where
  fits : matched_rows r ≡ matching (file_of r)
  unfolding matched_rows
  fits = rw (le-leb (length r.rates.now) most_rates ok.rows.few_rates, le-leb (length r.members.now) most_members ok.rows.few_members) refl

  of_rows : (text : List ℕ) (n : Lengths) (o : Result (ArrayVec ModelPoint) Refused) → matched_rows r ≡ o → lined text (valued_by r.fund n o) ≡ answer_to text n (read (file_of r))
  unfolding matching
  of_rows text n (Err e) z = matched_answers text n (read (file_of r)) (file_of r) refl e _ (stops (points (file_of r)) (matched (file_of r) (Ok tt)) e (sym fits ∙ z)) refl
  of_rows text n (Ok vs) z =
      let k = passes (points (file_of r)) (matched (file_of r) (Ok tt)) vs (sym fits ∙ z) in
      valued_answers text n (read (file_of r)) (file_of r) refl ok vs.items k.0 k.1 _ r.fund (length vs.items) refl (omega (arith, ap length k.1, count (file_of r), ok.rows.few_members)) refl

read_answer_is : (text : List ℕ) (n : Lengths) (found : Result Rows Refused) → ((fund : FundFile) → found_in found ≡ read fund → FundOk fund) → read_answer text found n ≡ answer_to text n (found_in found)
read_answer_is text n (Err stop) ok = sym (answer_stopped text n _ stop.why stop.place refl)
read_answer_is text n (Ok r) ok = of_rows r (ok (file_of r) refl) text n (matched_rows r) refl

horizon_is : (found : Result Rows Refused) → found_horizon found ≡ horizon_in (found_in found)
unfolding horizon_in
horizon_is (Err stop) = refl
horizon_is (Ok r) = refl

pub prices_read : (text : List ℕ) (found : Result Rows Refused) (n : Lengths) (level : ℕ) (p : Result Priced NotPriced) (c : Cells) → PricesRead text found level n p (left_priced p c) → (r : Reading) → found_in found ≡ r →
    ((fund : FundFile) → r ≡ read fund → FundOk fund) → Prices text r level n p (left_priced p c)
prices_read text found n level p c k r e ok =
    prices text r level n p c
    (record {
      answer = k.answer ∙ read_answer_is text n found (λ fund z. ok fund (sym e ∙ z)) ∙ ap (answer_to text n) e;
      horizon = k.horizon ∙ ap (horizon_with (verdict_in p)) (horizon_is found ∙ ap horizon_in e);
      quantile = k.quantile;
      ordered = k.ordered;
      inside = k.inside;
    })
    ok
