-- From two pricings to the contract of a comparison (compares): what is told of the files as they are read is the definition's, and the exact move is where it says.
use Rattle.std.specs.Prelude.{Err, Ok, Result, Option, Some, None, option_map}
use mathlib.Core.Path.{◌≡◌, refl, sym, ◌∙◌, ap, ap₂, subst}
use mathlib.Core.List.{List}
use Prim.Native.Nat.{ℕ}
use native.Mathlib.Omega.{arith}
use lib.IntN.{pos, ◌+ℤ◌}
use Rattle.std.proofs.lemmas.List.{take_all}
use lib.Signed.{◌≤ℤ◌}
use Rattle.fund.specs.declared.Cells.{Cells}
use Rattle.fund.specs.declared.Refused.{Refused}
use Rattle.fund.specs.declared.Refusal.{Refusal}
use Rattle.fund.specs.Verdict.{Verdict}
use Rattle.fund.specs.Limits.{most_rates, most_members}
use Rattle.fund.specs.Reading.{FundFile, Reading, read, stopped, reading}
use Rattle.fund.specs.Folding.{lives}
use Rattle.fund.specs.Refusals.{Lengths}
use Rattle.fund.specs.Answer.{Answer, fund_figures, accepted, answer_to}
use Rattle.laws.specs.Answer.{Read, accepted_read, answer_accepted}
use Rattle.laws.specs.Ranges.{FundOk, read_ranges}
use Rattle.distance.specs.NotNegative.{not_negative_lem}
use Rattle.pricing.specs.declared.Priced.{Priced}
use Rattle.pricing.specs.declared.NotPriced.{NotPriced}
use Rattle.pricing.specs.Priced.{left_priced, found_in, Prices}
use Rattle.rows.specs.declared.Rows.{Rows}
use Rattle.matching.specs.Matching.{file_of}
use Rattle.moves.specs.Differences.{first_member_line, in_both, member_difference, differences, file_in}
use Rattle.moves.specs.Move.{FiguresIn, move_of, moved_of}
use Rattle.moves.proofs.FiguresRange.{in_figures}
use Rattle.comparison.specs.declared.Comparison.{Comparison}
use Rattle.comparison.specs.Exact.{ExactMove, RatesAlone}
use Rattle.comparison.specs.Comparison.{if_accepted, compared, Compares}
use Rattle.comparison.specs.Steps.{told_by, told_of}
use Rattle.comparison.proofs.ExactMoves.{Known, exact_move_lem}
use Rattle.comparison.proofs.RatesAlone.{rates_alone}
use Rattle.comparison.proofs.FigureSizes.{figures_small}

-- ---- the file of what was read
file_in_lem : (r : Rows) → FundOk (file_of r) → file_in r ≡ file_of r
unfolding file_in
file_in_lem r ok = λ i. record { header = r.fund; rates = take_all most_rates r.rates.now ok.rows.few_rates i; members = take_all most_members r.members.now ok.rows.few_members i }

-- what is told of two funds that were read, whose figures are within the limits
told_is : (r s : Rows) (x y : Priced) → FundOk (file_of r) → FundOk (file_of s) → FiguresIn r.fund x.figures → FiguresIn s.fund y.figures →
    told_of (Ok x) (Ok y) (Ok r) (Ok s) ≡ Some (record { moved = move_of r.fund x.figures s.fund y.figures; differences = differences (file_of r) (file_of s) })
unfolding told_by moved_of
told_is r s x y ok fine h k =
    rw (in_figures r.fund x.figures h, in_figures s.fund y.figures k)
    (ap₂ (λ f g. Some (record { moved = move_of r.fund x.figures s.fund y.figures; differences = differences f g })) (file_in_lem r ok) (file_in_lem s fine))

-- what is told where one of the four is missing
pub no_before : (b a : Option Priced) (o n : Option Rows) → b ≡ None → None ≡ told_by b a o n
unfolding told_by
no_before b a o n e = rw e refl

pub no_after : (b a : Option Priced) (o n : Option Rows) → a ≡ None → None ≡ told_by b a o n
unfolding told_by
no_after (Some b) a o n e = rw e refl
no_after None a o n e = refl

pub no_old : (b a : Option Priced) (o n : Option Rows) → o ≡ None → None ≡ told_by b a o n
unfolding told_by
no_old (Some b) (Some a) o n e = rw e refl
no_old (Some b) None o n e = refl
no_old None a o n e = refl

pub no_new : (b a : Option Priced) (o n : Option Rows) → n ≡ None → None ≡ told_by b a o n
unfolding told_by
no_new (Some b) (Some a) (Some o) n e = rw e refl
no_new (Some b) (Some a) None n e = refl
no_new (Some b) None o n e = refl
no_new None a o n e = refl

-- ---- an accepted fund
module _ (text : List ℕ) (level : ℕ) (n : Lengths) (p : Result Priced NotPriced) (a : Answer) (k : Prices text (reading text) level n p a) (v : a.verdict ≡ Ok tt) where
  same : answer_to text n (reading text) ≡ a
  same = sym k.answers.answer

  accepts : (answer_to text n (reading text)).verdict ≡ Ok tt
  accepts = ap (λ (x : Answer). x.verdict) same ∙ v

  pub is_read : Read (reading text)
  is_read = accepted_read text n (reading text) accepts

  module _ (fund : FundFile) (is : reading text ≡ read fund) where
    ok : FundOk fund
    ok = read_ranges text fund is

    figures_are : a.figures ≡ fund_figures fund.header (lives fund)
    unfolding accepted
    figures_are = ap (λ (x : Answer). x.figures) (k.answers.answer ∙ (answer_accepted text n (reading text) fund is accepts).answer_is)

    pub small : FiguresIn fund.header a.figures
    small = subst (FiguresIn fund.header) (sym figures_are) (figures_small fund n ok (answer_accepted text n (reading text) fund is accepts).verdict_is)

    pub known : Known fund a
    unfolding fund_figures
    known =
        record {
          near = k.distance fund is v;
          below = k.never_below fund is v;
          not_negative_lem = subst (λ (x : Answer). pos 0 ≤ℤ (x.figures.premium +ℤ pos x.figures.within)) same (not_negative_lem text n (reading text) fund ok is accepts);
          gross_is = rw figures_are refl;
        }

-- ---- both
never_stopped : (why : Refusal) (place : ℕ) (fund : FundFile) → stopped why place ≡ read fund → ⊥
never_stopped why place fund e = let z : ◌≡◌ {A = ℕ} 0 1 = cc e in omega arith

-- a refused fund, of which nothing is told
old_refused : (r s : Reading) (a b : Answer) (e : Refused) → a.verdict ≡ Err e → compared r a s b ≡ None
unfolding compared
old_refused (read f) (read g) a b e k = ap (λ v. if_accepted v (if_accepted b.verdict (Some (record { moved = move_of f.header a.figures g.header b.figures; differences = differences f g })))) k
old_refused (read f) (stopped w x) a b e k = refl
old_refused (stopped w x) s a b e k = refl

new_refused : (r s : Reading) (a b : Answer) (e : Refused) → a.verdict ≡ Ok tt → b.verdict ≡ Err e → compared r a s b ≡ None
unfolding compared
new_refused (read f) (read g) a b e h k = ap₂ (λ v w. if_accepted v (if_accepted w (Some (record { moved = move_of f.header a.figures g.header b.figures; differences = differences f g })))) h k
new_refused (read f) (stopped w x) a b e h k = refl
new_refused (stopped w x) s a b e h k = refl

module _ (old new : List ℕ) (level : ℕ) (n m : Lengths) (cs ds : Cells) where
  pub told_as_defined : (p q : Result Priced NotPriced) (u v : Result Rows Refused) → Prices old (reading old) level n p (left_priced p cs) → Prices new (reading new) level m q (left_priced q ds) →
      found_in u ≡ reading old → found_in v ≡ reading new → told_of p q u v ≡ compared (reading old) (left_priced p cs) (reading new) (left_priced q ds)
  unfolding told_by compared
  told_as_defined (Err e) q u v k l h g = sym (old_refused (reading old) (reading new) (left_priced (Err e) cs) (left_priced q ds) e.refused refl)
  told_as_defined (Ok x) (Err e) u v k l h g = sym (new_refused (reading old) (reading new) (left_priced (Ok x) cs) (left_priced (Err e) ds) e.refused refl refl)
  told_as_defined (Ok x) (Ok y) (Err e) v k l h g =
      let f = is_read old level n (Ok x) (left_priced (Ok x) cs) k refl in absurd (never_stopped e.why e.place f.fund (h ∙ f.is_read))
  told_as_defined (Ok x) (Ok y) (Ok r) (Err e) k l h g =
      let f = is_read new level m (Ok y) (left_priced (Ok y) ds) l refl in absurd (never_stopped e.why e.place f.fund (g ∙ f.is_read))
  told_as_defined (Ok x) (Ok y) (Ok r) (Ok s) k l h g =
      told_is r s x y (ok old level n (Ok x) (left_priced (Ok x) cs) k refl (file_of r) (sym h)) (ok new level m (Ok y) (left_priced (Ok y) ds) l refl (file_of s) (sym g))
      (small old level n (Ok x) (left_priced (Ok x) cs) k refl (file_of r) (sym h)) (small new level m (Ok y) (left_priced (Ok y) ds) l refl (file_of s) (sym g))
      ∙ ap₂ (λ t u. compared t (left_priced (Ok x) cs) u (left_priced (Ok y) ds)) h g

no_member : (f g : FundFile) → member_difference f g ≡ None → first_member_line 1 f.members g.members ≡ None
unfolding member_difference
no_member f g e = go (first_member_line 1 f.members g.members) e
  where
    go : (o : Option ℕ) → option_map (in_both f g) o ≡ None → o ≡ None
    go None k = refl
    go (Some l) k = let z : ◌≡◌ {A = ℕ} 0 1 = cc k in absurd (omega arith)

module _ (old new : List ℕ) (level : ℕ) (n m : Lengths) (p q : Result Priced NotPriced) (a b : Answer) (k : Prices old (reading old) level n p a) (l : Prices new (reading new) level m q b) where
  -- a move was told: both funds are accepted, and it is theirs
  record Told (f g : FundFile) (t : Comparison) : Type 0 where
    old_accepted : a.verdict ≡ Ok tt
    new_accepted : b.verdict ≡ Ok tt
    told_is : record { moved = move_of f.header a.figures g.header b.figures; differences = differences f g } ≡ t

  told_of_lem : (f g : FundFile) (t : Comparison) → compared (read f) a (read g) b ≡ Some t → Told f g t
  unfolding compared
  told_of_lem f g t = go a.verdict b.verdict refl refl
    where
      go : (x y : Verdict) → a.verdict ≡ x → b.verdict ≡ y →
          if_accepted x (if_accepted y (Some (record { moved = move_of f.header a.figures g.header b.figures; differences = differences f g }))) ≡ Some t → Told f g t
      go (Ok u) (Ok v) e h z = record { old_accepted = e; new_accepted = h; told_is = cc z }
      go (Ok u) (Err stop) e h z = let y : ◌≡◌ {A = ℕ} 0 1 = cc z in absurd (omega arith)
      go (Err stop) y e h z = let y : ◌≡◌ {A = ℕ} 0 1 = cc z in absurd (omega arith)

  module _ (c : Option Comparison) (is : c ≡ compared (reading old) a (reading new) b) (f g : FundFile) (r : reading old ≡ read f) (s : reading new ≡ read g) (t : Comparison) (h : c ≡ Some t) where
    found : Told f g t
    found = told_of_lem f g t (sym (ap₂ (λ x y. compared x a y b) r s) ∙ sym is ∙ h)

    exact : ExactMove f g t.moved
    exact =
        subst (λ (x : Comparison). ExactMove f g x.moved) found.told_is
        (exact_move_lem f a g b (known old level n p a k found.old_accepted f r) (known new level m q b l found.new_accepted g s))

    rates : t.differences.header ≡ None → t.differences.member ≡ None → RatesAlone f g t.moved
    unfolding differences
    rates e₁ e₂ =
        subst (λ (x : Comparison). RatesAlone f g x.moved) found.told_is
        (rates_alone f a g b (known old level n p a k found.old_accepted f r) (known new level m q b l found.new_accepted g s)
        (ap (λ (x : Comparison). x.differences.header) found.told_is ∙ e₁) (no_member f g (ap (λ (x : Comparison). x.differences.member) found.told_is ∙ e₂)))

  pub compares : (c : Option Comparison) → c ≡ compared (reading old) a (reading new) b → Compares old new level n m (record { old = p; new = q; comparison = c }) a b
  compares c is = record { old_priced = k; new_priced = l; comparison = is; exact = exact c is; rates = rates c is }
