-- From an outcome that is the definitions' answer, with the distance of an accepted fund and what its gross premium covers, to the three demands and to what the answer at
-- the level says (demands). Only what acceptance and a refusal say of the definitions' answer is used.
use Rattle.std.specs.Prelude.{Err, None, Ok, Option, Some}
use mathlib.Core.Path.{◌≡◌, refl, sym, ◌∙◌, ap, subst}
use mathlib.Core.List.{List}
use Prim.Native.Nat.{ℕ, ◌<◌, ◌≤◌}
use native.Mathlib.Numerals.{add-one}
use native.Mathlib.Omega.{arith}
use Rattle.fund.specs.declared.Refusal.{Refusal}
use Rattle.fund.specs.Verdict.{Verdict, refused_at}
use Rattle.fund.specs.Limits.{most_level}
use Rattle.fund.specs.Transform.{unit}
use Rattle.fund.specs.Reading.{FundFile, Reading, read, stopped}
use Rattle.fund.specs.Folding.{lives}
use Rattle.fund.specs.Refusals.{Lengths, number_in, verdict}
use Rattle.fund.specs.Quantile.{quantile_of}
use Rattle.fund.specs.Distribution.{distribution_bound}
use Rattle.fund.specs.Answer.{Answer, refused, fund_cells, accepted, answer_of, answer_to}
use Rattle.fund.specs.Listing.{horizon_in}
use Rattle.fund.specs.Distance.{apart, exact_sum, bound_at, WithinBounds, exact_loaded_worth, NeverBelow, QuantileWithin, AverageExcess}
use Rattle.laws.specs.Accepted.{Accepts, accepts, accepted_where}
use Rattle.laws.specs.Answer.{accepted_read, answer_accepted}
use Rattle.laws.specs.Sums.{F_cell, level_says}
use Rattle.laws.specs.Quantile.{quantile_above}
use Rattle.laws.specs.Numbers.{zero_accepted}
use Rattle.pricing.specs.Priced.{horizon_with}
use Rattle.claims.specs.Demands.{Received, Refuses, Zero, Method, Close, ExactSays, Quantiles, Demands}

-- ---- a refusal
-- An answer with a number above 0 is a refusal's.
record RefusedAs (text : List ℕ) (r : Reading) (n : Lengths) : Type 0 where
  why : Refusal
  place : ℕ
  is : answer_to text n r ≡ refused text n (refused_at why place)

refused_as : (text : List ℕ) (r : Reading) (n : Lengths) → 0 < number_in (answer_to text n r).verdict → RefusedAs text r n
unfolding answer_to answer_of accepted
refused_as text (read fund) n l = after (verdict fund n (fund_cells fund.header (lives fund))) refl l
  where
    after : (v : Verdict) → verdict fund n (fund_cells fund.header (lives fund)) ≡ v → 0 < number_in (answer_of text n fund v).verdict → RefusedAs text (read fund) n
    after (Ok tt) e h = absurd (omega (arith, h))
    after (Err stop) e h = record { why = stop.why; place = stop.place; is = ap (answer_of text n fund) e }
refused_as text (stopped why place) n l = record { why = why; place = place; is = refl }

-- ---- the demands
-- What is left is the answer, and the distance, the answer at the level and the gross premium's cover hold of it.
pub record Answered (text : List ℕ) (r : Reading) (level : ℕ) (n : Lengths) (o : Received) : Type 0 where
  pub refuses : Refuses text r n o
  pub horizon : o.horizon ≡ horizon_with (answer_to text n r).verdict (horizon_in r)
  pub method : Method text r n o
  pub quantile : o.quantile ≡ quantile_of level o.horizon o.F (answer_to text n r).verdict
  pub distance : (fund : FundFile) → r ≡ read fund → (answer_to text n r).verdict ≡ Ok tt → WithinBounds fund (answer_to text n r)
  pub level_within : (fund : FundFile) → r ≡ read fund → (answer_to text n r).verdict ≡ Ok tt → level ≤ most_level → QuantileWithin fund (answer_to text n r) level o.quantile
  pub never_below : (fund : FundFile) → r ≡ read fund → (answer_to text n r).verdict ≡ Ok tt → NeverBelow fund (answer_to text n r)
  pub average : (fund : FundFile) → r ≡ read fund → (answer_to text n r).verdict ≡ Ok tt → AverageExcess fund

module _ (text : List ℕ) (r : Reading) (level : ℕ) (n : Lengths) (o : Received) (k : Answered text r level n o) where
  zero_of : RefusedAs text r n → Zero n o
  unfolding refused
  zero_of s =
      let m = k.method in
      let e = s.is in
      record {
        horizon = k.horizon ∙ ap (λ (a : Answer). horizon_with a.verdict (horizon_in r)) e;
        figures = m.figures ∙ ap (λ (a : Answer). a.figures) e;
        quantile = k.quantile ∙ ap (λ (a : Answer). quantile_of level o.horizon o.F a.verdict) e;
        D = m.D ∙ ap (λ (a : Answer). a.D) e;
        H = m.H ∙ ap (λ (a : Answer). a.H) e;
        f = m.f ∙ ap (λ (a : Answer). a.f) e;
        R = m.R ∙ ap (λ (a : Answer). a.R) e;
        F = m.F ∙ ap (λ (a : Answer). a.F) e;
      }

  close_of : (answer_to text n r).verdict ≡ Ok tt → Close r o
  unfolding apart unit horizon_in exact_sum bound_at distribution_bound exact_loaded_worth
  close_of v =
      let a = accepted_read text n r v in
      let m = k.method in
      let w = k.distance a.fund a.is_read v in
      let X : o.horizon ≡ a.fund.header.horizon = k.horizon ∙ ap (λ x. horizon_with x (horizon_in r)) v ∙ ap horizon_in a.is_read in
      record {
        fund = a.fund;
        is_read = a.is_read;
        horizon = X;
        cell = λ x l. rw (m.f, m.R, m.figures) (w.cell x (omega (arith, l, X)));
        cells = λ x l. rw (add-one x, m.f, m.R, m.figures) (w.cells x (omega (arith, l, X)));
        sums = λ x l. rw (add-one x, m.F, m.R, m.figures) (w.sums x (omega (arith, l, X)));
        premium = rw m.figures w.premium;
        gross = rw m.figures (k.never_below a.fund a.is_read v).gross;
        average = k.average a.fund a.is_read v;
      }

  -- what is said of the definitions' answer is said of the outcome
  exact_says : (fund : FundFile) → o.horizon ≡ fund.header.horizon → (q : Option ℕ) → QuantileWithin fund (answer_to text n r) level q → ExactSays fund level o q
  unfolding unit exact_sum bound_at distribution_bound
  exact_says fund X (Some x) w =
      let m = k.method in
      record {
        reached = rw (add-one x, m.R, m.figures) w.reached;
        before = λ y l. rw (add-one y, m.R, m.figures) (w.before y l);
      }
  exact_says fund X None w = λ y l. let m = k.method in rw (add-one y, m.R, m.figures) (w y (omega (arith, l, X)))

  quantiles_of : (answer_to text n r).verdict ≡ Ok tt → Quantiles r level o
  unfolding horizon_in
  quantiles_of v =
      let a = accepted_read text n r v in
      let m = k.method in
      let c = answer_accepted text n r a.fund a.is_read v in
      let h = a.fund.header in
      let ms = lives a.fund in
      let told : (fund : FundFile) → r ≡ read fund → o.horizon ≡ fund.header.horizon = λ fund e. k.horizon ∙ ap (λ x. horizon_with x (horizon_in r)) v ∙ ap horizon_in e in
      let X = told a.fund a.is_read in
      let F : o.F ≡ (accepted h ms n).F = m.F ∙ ap (λ (x : Answer). x.F) c.answer_is in
      let f : o.f ≡ (accepted h ms n).f = m.f ∙ ap (λ (x : Answer). x.f) c.answer_is in
      record {
        sums = λ x l. rw (add-one x, F, f) (F_cell h ms n x (omega (arith, l, X)));
        says = λ l. rw (k.quantile, X, m.F) (level_says text n r a.fund a.is_read v level l);
        exact = λ fund e l. exact_says fund (told fund e) o.quantile (k.level_within fund e v l);
        above = λ l. k.quantile ∙ ap (quantile_of level o.horizon o.F) v ∙ quantile_above level o.horizon o.F l;
      }

  -- a fund that is read is accepted just where no condition is met
  number_zero : (fund : FundFile) → r ≡ read fund → Accepts fund n (fund_cells fund.header (lives fund)) → number_in (answer_to text n r).verdict ≡ 0
  unfolding answer_to answer_of accepted
  number_zero fund e a = rw e (ap (λ v. number_in (answer_of text n fund v).verdict) (accepted_where fund n (fund_cells fund.header (lives fund)) a))

  pub demands : Demands text r level n o
  demands =
      record {
        refuses = k.refuses;
        accepts = λ fund e a. k.refuses.number ∙ number_zero fund e a;
        accepted = λ fund e z. accepts fund n (fund_cells fund.header (lives fund)) (answer_accepted text n r fund e (zero_accepted (answer_to text n r).verdict (sym k.refuses.number ∙ z))).verdict_is;
        zero = λ l. zero_of (refused_as text r n (subst (λ x. 0 < x) k.refuses.number l));
        method = k.method;
        close = λ z. close_of (zero_accepted (answer_to text n r).verdict (sym k.refuses.number ∙ z));
        quantiles = λ z. quantiles_of (zero_accepted (answer_to text n r).verdict (sym k.refuses.number ∙ z));
      }
