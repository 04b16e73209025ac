-- What joins the steps of a pricing call: a fund that is read and matched has model points in their ranges (points_in); refusals 3 to 6
-- come before what follows them (matched_first); the answer of a call from the answers of its steps (answer_stopped,
-- answer_matched, answer_valued); and its answer at the level, by the definitions (told_horizon, quantile_is).
use Rattle.std.specs.Prelude.{◌≡◌, refl, Bool, true, false, List, [], ◌∷◌, map, ℕ, ◌+◌, ◌≤◌, eqb, ℤ, if◌then◌else◌, Err, None, Ok, Option, Some, Result}
use Rattle.std.proofs.Common.{◌∙◌, arith}
use Rattle.std.proofs.Math.Path.{ap}
use Rattle.fund.specs.declared.Rate.{Rate}
use Rattle.fund.specs.declared.Cells.{Cells}
use Rattle.fund.specs.declared.Member.{Member}
use Rattle.fund.specs.declared.ModelPoint.{ModelPoint}
use Rattle.fund.specs.declared.Refusal.{Refusal}
use Rattle.fund.specs.declared.Refusal.TheVariants.{Edition, Deductible, Unmatched, Half}
use Rattle.fund.specs.Verdict.{Verdict, refused_at}
use Rattle.fund.specs.Limits.{most_rate}
use Rattle.fund.specs.Reading.{FundFile, Reading, read, stopped}
use Rattle.fund.specs.Folding.{rate_in_force, folded, life, point, points, lives}
use Rattle.fund.specs.Refusals.{Lengths, refuse, valued, matched, verdict}
use Rattle.fund.specs.Quantile.{quantile_of}
use Rattle.fund.specs.Answer.{Answer, refused, fund_cells, answer_of, answer_to}
use Rattle.fund.specs.Listing.{horizon_in}
use Rattle.laws.specs.Accepted.{All, Limited, not_half_line, all_map, refuse_accepted, first_none}
use Rattle.laws.specs.Copies.{lives_points}
use Rattle.laws.specs.InForce.{in_force_all}
use Rattle.laws.specs.Ranges.{RateOk, MemberOk, FundOk}
use Rattle.widths.specs.Lives.{InRange}
use Rattle.totals.specs.Table.{PointIn, Points}
use Rattle.pricing.specs.declared.Priced.{Priced}
use Rattle.pricing.specs.declared.NotPriced.{NotPriced}
use Rattle.pricing.specs.Priced.{verdict_in, quantile_told, left_priced, horizon_with, Answers}

-- ---- model points in their ranges
folded_in : (o : Option Rate) (m : Member) → ((r : Rate) → o ≡ Some r → RateOk r) → MemberOk m → Limited (folded o m) → InRange (folded o m)
unfolding folded
folded_in None m k ok c =
    record {
      group_least = ok.group_least;
      group_most = ok.group_most;
      rates = omega arith;
      limited = c;
      death = ok.d;
      disability = ok.e;
      no_death = λ h. refl;
      no_disability = λ h. refl;
    }
folded_in (Some r) m k ok c =
    record {
      group_least = ok.group_least;
      group_most = ok.group_most;
      rates = both (eqb m.d 0) (eqb m.e 0);
      limited = c;
      death = ok.d;
      disability = ok.e;
      no_death = λ h. rw h;
      no_disability = λ h. rw h;
    }
  where
    both : (a b : Bool) → (if a then 0 else r.q) + (if b then 0 else r.i) ≤ most_rate
    both true true = omega arith
    both true false = let s = k r refl in omega (arith, s.i)
    both false true = let s = k r refl in omega (arith, s.q)
    both false false = let s = k r refl in omega (arith, s.both)

members_in : (rates : List Rate) (ms : List Member) → All RateOk rates → All MemberOk ms → All (λ (p : ModelPoint). Limited p.life) (map (point rates) ms) → All PointIn (map (point rates) ms)
unfolding point life
members_in rates [] k ok c = tt
members_in rates (m ∷ ms) k ok c = (
  record { life_in = folded_in (rate_in_force rates m.age) m (λ r e. in_force_all RateOk rates m.age r k e) ok.0 c.0; lives_most = ok.0.lives_most },
  members_in rates ms k ok.1 c.1,
)

pub points_in : (file : FundFile) → FundOk file → matched file (Ok tt) ≡ Ok tt → Points (points file)
unfolding matched points
points_in file ok e =
    let e3 = refuse_accepted _ _ _ e in
    let e4 = refuse_accepted _ _ _ e3.1 in
    let e5 = refuse_accepted _ _ _ e4.1 in
    let e6 = refuse_accepted _ _ _ e5.1 in
    record {
      few = rw (lives_points file) ok.rows.few_lives;
      in_range = members_in file.rates file.members ok.rows.rates ok.rows.members (all_map not_half_line (points file) (first_none _ _ _ e6.0));
    }

-- ---- refusals 3 to 6, then the rest
abbrev pub then_verdict : Verdict → Verdict → Verdict
then_verdict (Ok tt) v = v
then_verdict (Err stop) v = Err stop

refuse_after : (why : Refusal) (o : Option ℕ) (u v : Verdict) → refuse why o (then_verdict u v) ≡ then_verdict (refuse why o u) v
unfolding refuse
refuse_after why None u v = refl
refuse_after why (Some place) u v = refl

pub matched_first : (file : FundFile) (v : Verdict) → matched file v ≡ then_verdict (matched file (Ok tt)) v
unfolding matched
matched_first file v =
    ap (refuse Edition _) (ap (refuse Deductible _) (ap (refuse Unmatched _) (refuse_after Half _ (Ok tt) v) ∙ refuse_after Unmatched _ _ v) ∙ refuse_after Deductible _ _ v)
    ∙ refuse_after Edition _ _ v

-- ---- the answer of a call
pub answer_stopped : (text : List ℕ) (n : Lengths) (r : Reading) (why : Refusal) (place : ℕ) → r ≡ stopped why place → answer_to text n r ≡ refused text n (refused_at why place)
unfolding answer_to
answer_stopped text n r why place e = ap (answer_to text n) e

module _ (text : List ℕ) (n : Lengths) (r : Reading) (fund : FundFile) (e : r ≡ read fund) where
  abbrev rest : Verdict
  rest = valued fund.header (lives fund) n (fund_cells fund.header (lives fund))

  pub answer_matched : (why : Refusal) (place : ℕ) → matched fund (Ok tt) ≡ refused_at why place → answer_to text n r ≡ refused text n (refused_at why place)
  unfolding answer_to answer_of verdict
  answer_matched why place m = ap (answer_to text n) e ∙ ap (answer_of text n fund) (matched_first fund rest ∙ ap (λ u. then_verdict u rest) m)

  pub answer_valued : matched fund (Ok tt) ≡ Ok tt → answer_to text n r ≡ answer_of text n fund (valued fund.header (lives fund) n (fund_cells fund.header (lives fund)))
  unfolding answer_to verdict
  answer_valued m = ap (answer_to text n) e ∙ ap (answer_of text n fund) (matched_first fund rest ∙ ap (λ u. then_verdict u rest) m)

-- ---- the answer at the level
-- of a refusal the horizon does not count
pub told_horizon : (level X : ℕ) (F : List ℤ) (v : Verdict) → quantile_of level (horizon_with v X) F v ≡ quantile_of level X F v
told_horizon level X F (Ok u) = refl
told_horizon level X F (Err stop) = refl

pub quantile_is : {text : List ℕ} {r : Reading} {level : ℕ} {is : Answer} (p : Result Priced NotPriced) (c : Cells) → Answers text r level p (left_priced p c) is →
    quantile_told p ≡ quantile_of level (horizon_in r) is.F is.verdict
quantile_is {r = r} {level} p c k =
    k.quantile
    ∙ ap (λ X. quantile_of level X c.sums.now (verdict_in p)) k.horizon
    ∙ told_horizon level (horizon_in r) c.sums.now (verdict_in p)
    ∙ ap (λ (x : Answer). quantile_of level (horizon_in r) x.F x.verdict) k.answer
