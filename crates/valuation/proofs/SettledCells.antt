-- What follows the recursion of a fund: refusal 10 with its zeros (answers_wide), or cells that stand (Stands), from which the premium's sums are had (below_deductible)
-- and the fund's figures (answers_accepted).
use mathlib.Core.Path.{◌≡◌, refl, sym, ◌∙◌, ap, ap₂}
use mathlib.Core.Bool.{Bool, false}
use mathlib.Core.List.{List, []}
use Prim.Native.Nat.{ℕ, zero, suc, min, ◌<◌, ◌≤◌}
use native.Mathlib.Omega.{arith}
use lib.IntN.{ℤ, pos, nat_abs}
use lib.ListN.{length, get_or, replicate}
use Rattle.algebra.specs.NatSum.{sum_n_ext}
use Rattle.fund.specs.declared.Fund.{Fund}
use Rattle.fund.specs.declared.Frequencies.{Frequencies}
use Rattle.fund.specs.declared.Life.{Life}
use Rattle.fund.specs.declared.ModelPoint.{ModelPoint}
use Rattle.fund.specs.declared.Refusal.TheVariants as refusal
use Rattle.std.specs.Prelude.{⊤, Option, Some, None, Result, Ok, Err, unwrap_or}
use Rattle.fund.specs.declared.Refused.{Refused}
use Rattle.fund.specs.Base.{table}
use Rattle.fund.specs.Limits.{most_bound, most_load}
use Rattle.fund.specs.Folding.{copies}
use Rattle.fund.specs.Transform.{lambda, load, mean}
use Rattle.fund.specs.Recursion.{Cell, start, start_bound}
use Rattle.fund.specs.Premium.{premium, within}
use Rattle.fund.specs.Tariff.{gross}
use Rattle.fund.specs.Refusals.{Lengths, first, wide, refuse, valued}
use Rattle.fund.specs.Quantile.{running_sum}
use Rattle.fund.specs.Answer.{Answer, part, fund_terms, fund_start, fund_cells, fund_truncation, fund_mean, fund_premium, fund_within, fund_figures, lent, refused, accepted}
use Rattle.laws.specs.Accepted.{all_map, all_table, first_none, Long, long_of}
use Rattle.laws.specs.Slices.{table_ext}
use Rattle.laws.specs.Valued.{valued_rest}
use Rattle.laws.specs.Answer.{fund_cell, fund_cells_are, f_cell, R_cell}
use Rattle.laws.specs.Sums.{running_lent, fund_fs, length_fs}
use Rattle.distance.specs.Widths.{f_sum_small}
use Rattle.widths.specs.Lives.{InRange}
use Rattle.widths.specs.Parts.{load_part, mean_part}
use Rattle.widths.specs.PartBounds.{mean_le, load_is}
use Rattle.widths.specs.Sums.{total_le}
use Rattle.recursion_limits.specs.declared.Broken.{Broken}
use Rattle.recursion_limits.specs.declared.Broken.TheVariants.{Wide}
use Rattle.recursion_limits.specs.Limits.{most_cell}
use Rattle.recursion.specs.Slices.{cell_in}
use Rattle.recursion.specs.Recursion.{Left, leaves}
use Rattle.recursion.specs.Recursion as Rec
use Rattle.valuation.specs.declared.premium.StopLoss.{StopLoss}
use Rattle.tariff.specs.Gross.{gross_of}
use Rattle.tariff.proofs.GrossAnswers.{gross_inside}
use Rattle.totals.specs.declared.Totals.{Totals}
use Rattle.totals.specs.Inside.{HeaderIn}
use Rattle.totals.specs.Table.{Members, members_of_lem, most_mean}
use Rattle.totals.specs.Totals.{start_lambda, LivesTotals, TotalsIn}
use Rattle.transform.specs.Transformed.{lengths_of, outcome}
use Rattle.valuation.specs.Premium.{Cells, StopLossIs, levels}
use Rattle.valuation.specs.Sums.{SumsFit}
use Rattle.valuation.specs.Valued.{left_in}
use Rattle.valuation.specs.Steps.{ReadyFor, Ready, RecursionLeft, RecursedFor, refusal_of, ValuedAnswer, SettledFor, AnsweredFor}
use Rattle.valuation.proofs.OwnLimits.{answer_of, narrow_of, FundFits, recursion_is}

-- a mean that the cap does not change
mean_is : (ms : List Life) → Members ms → (a : Frequencies) (m : ℕ) → load a ms ≤ most_load → m ≡ min (mean a ms) most_mean → m ≡ mean a ms
unfolding mean
mean_is ms l a m h e = omega (arith, e, load_is a ms, total_le InRange (mean_part a) (load_part a) 65535 0 (λ m r. mean_le m a r) ms l.in_range)

-- answers that agree field by field
same_answer : {d d' f f' s s' : List ℤ} {h h' r r' : List ℕ} {e e' m m' w w' g g' : ℕ} {p p' : ℤ} → d ≡ d' → h ≡ h' → f ≡ f' → r ≡ r' → s ≡ s' → e ≡ e' → m ≡ m' → p ≡ p' → w ≡ w' → g ≡ g' →
    left_in (Ok (record { truncation = e; mean = m; premium = p; within = w; gross = g })) d h f r s
    ≡ left_in (Ok (record { truncation = e'; mean = m'; premium = p'; within = w'; gross = g' })) d' h' f' r' s'
same_answer a b c q s x y z u g = λ i. left_in (Ok (record { truncation = x i; mean = y i; premium = z i; within = u i; gross = g i })) (a i) (b i) (c i) (q i) (s i)

-- a search that found none
none_of : {A : Type 0} (met : A → Bool) (at n : ℕ) (g : ℕ → A) → first met at (table n g) ≡ None → (x : ℕ) → x < n → met (g x) ≡ false
none_of met at n g e x l = all_table (λ a. met a ≡ false) n g (first_none met at (table n g) e) x l

module _ (fund : Fund) (count : ℕ) (ps : List ModelPoint) (t : Totals) (d : List ℤ) (h : List ℕ) (f : List ℤ) (r : List ℕ) (ns : ℕ) (k : ReadyFor fund count ps t d h (length f) (length r) ns) where
  abbrev ms : List Life
  ms = copies ps

  abbrev X : ℕ
  X = fund.horizon

  abbrev n : Lengths
  n = lengths_of d h (length f) (length r) ns

  pub in_ranges : TotalsIn fund count ps t
  in_ranges = k.totals_are

  header : HeaderIn fund
  header = in_ranges.header

  members : Members ms
  members = members_of_lem ps in_ranges.points

  sums : LivesTotals fund ms t
  sums = in_ranges.sums

  within_load : load fund.frequency ms ≤ most_load
  within_load = omega (arith, sums.load_is, k.known_is.load_within)

  figure_is : t.truncation ≡ fund_truncation fund ms
  unfolding fund_truncation
  figure_is = omega (arith, sums.truncation_is, k.known_is.truncation_within)

  long : Long n X
  long = long_of n X k.known_is.long

  fits : FundFits fund ms
  unfolding fund_truncation
  fits =
      record {
        members = members;
        header = header;
        priceable =
            record {
              limited = all_map (λ m r. r.limited) ms members.in_range;
              folded = all_map (λ m r. record { q_folded = r.no_death; i_folded = r.no_disability }) ms members.in_range;
              load_within = within_load;
              truncation_within = omega (arith, figure_is, k.known_is.truncation_within);
            };
      }

  -- lambda is a part of the load
  lambda_is : start_lambda fund ms ≡ lambda fund.frequency ms
  unfolding load
  lambda_is = omega (arith, within_load)

  start_is : record { f = t.cell; R = t.bound } ≡ fund_start fund ms
  unfolding fund_start
  start_is = ap₂ (λ x z. record { f = x; R = z }) (sums.cell_is ∙ ap (λ l. start l ms) lambda_is) (sums.bound_is ∙ ap (λ l. start_bound l ms) lambda_is)

  abbrev found : Option ℕ
  found = first wide 0 (fund_cells fund ms)

  rest : valued fund ms n (fund_cells fund ms) ≡ refuse refusal.Wide found (Ok tt)
  unfolding fund_truncation
  rest = valued_rest fund ms n (fund_cells fund ms) within_load (omega (arith, figure_is, k.known_is.truncation_within)) k.known_is.long

  leaves_is : (a : Result ⊤ Broken) → RecursionLeft fund t a d h f r → Rec.left_cells a f r ≡ leaves (fund_cells fund ms) (length f) (length r) (answer_of found)
  unfolding accepted lent
  leaves_is a e =
      e
      ∙ ap (λ y. Rec.recursion X d h y (length f) (length r)) start_is
      ∙ recursion_is fund ms fits d h _ _ k.d_is k.h_is (omega (arith, ap (λ (y : Cell). y.R) start_is, sums.bound_within)) (length f) (length r) long.f_long long.r_long

  -- ---- a wide cell
  pub answers_wide : (limit : Broken) → RecursionLeft fund t (Err limit) d h f r → (stop : Refused) (d' : List ℤ) (h' : List ℕ) (s' : List ℤ) →
      stop ≡ refusal_of limit → d' ≡ replicate (length d) (pos 0) → h' ≡ replicate (length h) 0 → s' ≡ replicate ns (pos 0) → ValuedAnswer fund ms n (left_in (Err stop) d' h' f r s')
  unfolding leaves refuse refused part
  answers_wide limit e stop d' h' s' stop_is d_is h_is s-is = go found refl
    where
      go : (x : Option ℕ) → found ≡ x → ValuedAnswer fund ms n (left_in (Err stop) d' h' f r s')
      go None s =
          let e' = leaves_is (Err limit) e ∙ ap (λ x. leaves (fund_cells fund ms) (length f) (length r) (answer_of x)) s in
          let done = ap (λ (l : Left). l.answer) e' in
          cc
      go (Some x) s =
          let e' = leaves_is (Err limit) e ∙ ap (λ x. leaves (fund_cells fund ms) (length f) (length r) (answer_of x)) s in
          let answer = ap (λ (l : Left). l.answer) e' in
          let same : limit ≡ Wide x = cc in
          let w : stop ≡ record { why = refusal.Wide; place = x } = stop_is ∙ ap refusal_of same in
          let f₀ : f ≡ replicate (length f) (pos 0) = ap (λ (l : Left). l.f) e' in
          let r₀ : r ≡ replicate (length r) 0 = ap (λ (l : Left). l.R) e' in
          let z : left_in (Err stop) d' h' f r s' ≡ refused [] n (Err (record { why = refusal.Wide; place = x })) = λ i. left_in (Err (w i)) (d_is i) (h_is i) (f₀ i) (r₀ i) (s-is i) in
          z ∙ ap (outcome fund ms n) (sym (rest ∙ ap (λ x. refuse refusal.Wide x (Ok tt)) s))

  -- ---- cells that stand
  pub record Stands : Type 0 where
    pub accepts : valued fund ms n (fund_cells fund ms) ≡ Ok tt
    pub f_is : f ≡ (accepted fund ms n).f
    pub r_is : r ≡ (accepted fund ms n).R
    pub narrow : (x : ℕ) → x ≤ X → (fund_cell fund ms x).R ≤ most_bound

  all_narrow : found ≡ None → (x : ℕ) → x ≤ X → (fund_cell fund ms x).R ≤ most_bound
  all_narrow e x l = narrow_of (fund_cell fund ms x) (none_of wide 0 (suc X) (fund_cell fund ms) (ap (first wide 0) (sym (fund_cells_are fund ms)) ∙ e) x (omega arith))

  pub stands : RecursionLeft fund t (Ok tt) d h f r → Stands
  unfolding leaves refuse accepted
  stands e = go found refl
    where
      go : (x : Option ℕ) → found ≡ x → Stands
      go None s =
          let e' = leaves_is (Ok tt) e ∙ ap (λ x. leaves (fund_cells fund ms) (length f) (length r) (answer_of x)) s in
          record { accepts = rest ∙ ap (λ x. refuse refusal.Wide x (Ok tt)) s; f_is = ap (λ (l : Left). l.f) e'; r_is = ap (λ (l : Left). l.R) e'; narrow = all_narrow s }
      go (Some x) s =
          let e' = leaves_is (Ok tt) e ∙ ap (λ x. leaves (fund_cells fund ms) (length f) (length r) (answer_of x)) s in
          let done = ap (λ (l : Left). l.answer) e' in
          cc

  module _ (s : Stands) where
    f_at : (x : ℕ) → x ≤ X → get_or f x (pos 0) ≡ (fund_cell fund ms x).f
    f_at x l = ap (λ c. get_or c x (pos 0)) s.f_is ∙ f_cell fund ms n x l

    r_at : (x : ℕ) → x ≤ X → get_or r x 0 ≡ (fund_cell fund ms x).R
    r_at x l = ap (λ c. get_or c x 0) s.r_is ∙ R_cell fund ms n x l

    cells_in : table (suc X) (cell_in f r) ≡ fund_cells fund ms
    cells_in =
        table_ext (suc X) (cell_in f r) (fund_cell fund ms) (λ k g. ap₂ (λ x y. record { f = x; R = y }) (f_at k (omega arith)) (r_at k (omega arith)))
        ∙ sym (fund_cells_are fund ms)

    levels_within : (m : ℕ) → m ≤ suc X → levels f m ≤ most_cell
    unfolding fund_terms fund_start
    levels_within zero g = omega arith
    levels_within (suc m) g =
        omega (
          arith,
          sum_n_ext (suc m) (λ x. nat_abs (get_or f x (pos 0))) (λ x. nat_abs (fund_cell fund ms x).f) (λ x k. ap nat_abs (f_at x (omega arith))),
          f_sum_small X fund.order fund.frequency ms header.order fits.priceable header.horizon m (omega arith) (λ k b. s.narrow k (omega arith)),
        )

    pub below_deductible : Cells fund.deductible f r
    below_deductible =
        let m = header.deductible in
        record {
          few = let b = header.horizon in omega arith;
          f_long = omega (arith, long.f_long);
          r_long = omega (arith, long.r_long);
          levels_within = levels_within fund.deductible m;
          narrow = λ x g. omega (arith, r_at x (omega arith), s.narrow x (omega arith));
        }

    pub sums_fit : SumsFit X f ns
    sums_fit = record { horizon = header.horizon; f_long = long.f_long; sums_long = long.sums_long; levels_within = levels_within (suc X) (omega arith) }

    -- the figures and the slices
    pub answers_accepted : (pr : ℤ) (p : StopLoss) (g : ℕ) (s' : List ℤ) → StopLossIs fund.deductible t.mean t.truncation f r p → pr ≡ p.premium → g ≡ unwrap_or (gross_of fund p.premium p.within) 0 → s' ≡ lent (pos 0) ns (table (suc X) (running_sum f)) →
        ValuedAnswer fund ms n (left_in (Ok (record { truncation = t.truncation; mean = t.mean; premium = pr; within = p.within; gross = g })) d h f r s')
    unfolding accepted fund_figures fund_mean fund_premium fund_within
    answers_accepted pr p g s' priced pr-is gross_is sums-is = same_answer k.d_is k.h_is s.f_is s.r_is s_lent figure_is m_is pr_of p_of g_of ∙ ap (outcome fund ms n) (sym s.accepts)
      where
        m_is : t.mean ≡ mean fund.frequency ms
        m_is = mean_is ms (members) fund.frequency t.mean within_load sums.mean_is

        s_lent : s' ≡ lent (pos 0) ns (table (suc X) (running_sum (fund_fs fund ms)))
        s_lent =
            sums-is
            ∙ ap (λ (l : List ℤ). lent (pos 0) ns (table (suc X) (running_sum l))) s.f_is
            ∙ ap (lent (pos 0) ns) (running_lent (length f) (fund_fs fund ms) X (let w = length_fs fund ms in omega arith))

        pr_of : pr ≡ premium fund.deductible (mean fund.frequency ms) (fund_cells fund ms)
        pr_of = pr-is ∙ priced.premium_is (suc X) header.deductible ∙ ap₂ (premium fund.deductible) m_is cells_in

        p_of : p.within ≡ within fund.deductible (fund_truncation fund ms) (fund_cells fund ms)
        p_of = priced.within_is (suc X) header.deductible ∙ ap₂ (within fund.deductible) figure_is cells_in

        g_of : g ≡ gross fund.deductible fund.worth (fund_premium fund ms) (fund_within fund ms)
        g_of =
            gross_is
            ∙ ap (λ o. unwrap_or o 0) (gross_inside fund p.premium p.within header.worth_least header.worth_most)
            ∙ ap₂ (gross fund.deductible fund.worth) (sym pr-is ∙ pr_of) p_of

-- ---- slices whose lengths are those of others
module _ (fund : Fund) (t : Totals) (a : Result ⊤ Broken) (d : List ℤ) (h : List ℕ) (f : List ℤ) (r : List ℕ) (nf nr ns : ℕ) (ef : length f ≡ nf) (er : length r ≡ nr) where
  pub recursed_for : Ready fund t d h nf nr ns → Rec.left_cells a f r ≡ Rec.recursion fund.horizon d h (record { f = t.cell; R = t.bound }) nf nr → RecursedFor fund t a d h f r ns
  recursed_for k e = record { ready = rw (ef, er) k; left_is = rw (ef, er) e }

  pub answered_for : (answer : Answer) → SettledFor fund t d h f r ns answer → AnsweredFor fund t d h nf nr ns answer
  answered_for answer s count ps k = rw (ef, er) at (s count ps (rw (ef, er) k))
