-- Where no header line but the editions' and no member line differs, the terms and the members are the same (same_terms, same_members); so the two exact premiums are those of
-- the same terms and members under two rate tables, over one denominator (rates_alone).
use mathlib.Core.Path.{◌≡◌, refl, sym, ◌∙◌, ap, ap₂, subst}
use mathlib.Core.Bool.{Bool, true, false, not}
use mathlib.Core.List.{List, [], ◌∷◌, map}
use Prim.Native.Nat.{ℕ, suc, ◌+◌, ◌*◌, ◌^◌, ◌≤◌}
use native.Mathlib.Nat as N
use native.Mathlib.Omega.{arith}
use borrow.Author.Tests.{eqb-true}
use lib.Dec.{eqb}
use lib.IntN.{ℤ, pos, nat_abs, ◌+ℤ◌, ◌-ℤ◌, ◌*ℤ◌}
use lib.Signed.{◌≤ℤ◌}
use Rattle.algebra.specs.Integer.{ℤ_ring}
use Rattle.algebra.specs.IntegerOrder.{ℤ_ord, ◌≤Z◌}
use Rattle.algebra.specs.Order as O
use Rattle.algebra.specs.Solver.{ring3, ring5, ◌⊕◌, ◌⊗◌, ◌⊝◌, ◌:=◌}
use Rattle.fund.specs.declared.Fund.{Fund}
use Rattle.fund.specs.declared.Rate.{Rate}
use Rattle.fund.specs.declared.Member.{Member}
use Rattle.fund.specs.declared.Life.{Life}
use Rattle.fund.specs.declared.ModelPoint.{ModelPoint}
use Rattle.std.specs.Prelude.{if◌then◌else◌, Option, Some, None}
use Rattle.fund.specs.Base.{total}
use Rattle.fund.specs.Reading.{FundFile}
use Rattle.fund.specs.Folding.{rate_in_force, folded, life, point, points, copies, lives, single}
use Rattle.fund.specs.Transform.{mean}
use Rattle.fund.specs.Tariff.{loading}
use Rattle.fund.specs.Answer.{Answer, fund_mean}
use Rattle.fund.specs.Exact.{factorial, singles, denominator, exact_premium}
use Rattle.fund.specs.Distance.{file_denominator, exact_premium_of, exact_loaded_worth}
use Rattle.laws.specs.Copies.{total_copies}
use Rattle.laws.specs.Ranges.{and-true}
use Rattle.moves.specs.declared.Move.{Move}
use Rattle.moves.specs.Differences.{first_header_line, same_member, first_member_line}
use Rattle.moves.specs.Move.{excess, move_of}
use Rattle.comparison.specs.Exact.{under_rates, exact_under, SameTerms, RatesAlone}
use Rattle.comparison.proofs.Near.{to_≤ℤ, moved_near, low_end, high_end, interval_low, interval_high, above_low, above_high}
use Rattle.comparison.proofs.ExactMoves.{Known, gross_over, excess_over, gross_low, gross_high}

-- ---- no difference
-- a test that does not answer its line
none_some : {n : ℕ} → ◌≡◌ {A = Option ℕ} None (Some n) → ⊥
none_some e = let z : ◌≡◌ {A = ℕ} 0 1 = cc e in omega arith

no_line_lem : (same : Bool) (line : ℕ) (behind : Option ℕ) → (if not same then Some line else behind) ≡ None → (same ≡ true) × (behind ≡ None)
no_line_lem true line behind e = (refl, e)
no_line_lem false line behind e = absurd (none_some (sym e))

pub same_terms : (old new : Fund) → first_header_line old new ≡ None → SameTerms old new
unfolding first_header_line
same_terms old new e =
    let horizon = no_line_lem _ _ _ e in
    let order = no_line_lem _ _ _ horizon.1 in
    let death = no_line_lem _ _ _ order.1 in
    let disability = no_line_lem _ _ _ death.1 in
    let deductible = no_line_lem _ _ _ disability.1 in
    let worth = no_line_lem _ _ _ deductible.1 in
    let e₁ = sym (eqb-true _ _ death.0) in
    let e₂ = sym (eqb-true _ _ disability.0) in
    record {
      horizon = sym (eqb-true _ _ horizon.0);
      order = sym (eqb-true _ _ order.0);
      frequency = λ i. record { death = e₁ i; disability = e₂ i };
      deductible = sym (eqb-true _ _ deductible.0);
      worth = sym (eqb-true _ _ worth.0);
    }

same_member_lem : (m n : Member) → same_member m n ≡ true → n ≡ m
unfolding same_member
same_member_lem m n e =
    let age = and-true _ _ e in
    let group = and-true _ _ age.1 in
    let d = and-true _ _ group.1 in
    let ee = and-true _ _ d.1 in
    let a = sym (eqb-true _ _ age.0) in
    let g = sym (eqb-true _ _ group.0) in
    let x = sym (eqb-true _ _ d.0) in
    let y = sym (eqb-true _ _ ee.0) in
    let l = sym (eqb-true _ _ ee.1) in
    λ i. record { age = a i; group = g i; d = x i; e = y i; lives = l i }

pub same_members : (at : ℕ) (ms ns : List Member) → first_member_line (suc at) ms ns ≡ None → ns ≡ ms
unfolding first_member_line
same_members at [] [] e = refl
same_members at [] (n ∷ ns) e = absurd (none_some (sym e))
same_members at (m ∷ ms) [] e = absurd (none_some (sym e))
same_members at (m ∷ ms) (n ∷ ns) e = go (same_member m n) refl e (same_members (suc at) ms ns)
  where
    go : (t : Bool) → same_member m n ≡ t → (if t then first_member_line (suc (suc at)) ms ns else Some (suc at)) ≡ None → (first_member_line (suc (suc at)) ms ns ≡ None → ns ≡ ms) → n ∷ ns ≡ m ∷ ms
    go true s f h = ap₂ ◌∷◌ (same_member_lem m n s) (h f)
    go false s f h = absurd (none_some (sym f))

-- ---- one denominator: the group 1 members are counted by their lines' groups
abbrev one_if_single : Life → ℕ
one_if_single m = if single m then 1 else 0

group_is : (o : Option Rate) (m : Member) → (folded o m).group ≡ m.group
unfolding folded
group_is None m = refl
group_is (Some r) m = refl

counted : (rates others : List Rate) (ms : List Member) →
    total (λ (p : ModelPoint). p.lives * one_if_single p.life) (map (point rates) ms) ≡ total (λ (p : ModelPoint). p.lives * one_if_single p.life) (map (point others) ms)
unfolding total point life
counted rates others [] = refl
counted rates others (m ∷ ms) =
    ap₂ ◌+◌ (ap (λ g. m.lives * (if eqb g 1 then 1 else 0)) (group_is (rate_in_force rates m.age) m ∙ sym (group_is (rate_in_force others m.age) m))) (counted rates others ms)

module _ (old new : FundFile) (t : SameTerms old.header new.header) (s : new.members ≡ old.members) where
  lives_under : lives new ≡ lives (under_rates old new.rates)
  unfolding lives points under_rates
  lives_under = ap (λ ms. copies (map (point new.rates) ms)) s

  same_singles : singles (lives new) ≡ singles (lives old)
  unfolding singles lives points
  same_singles =
      total_copies one_if_single (map (point new.rates) new.members)
      ∙ ap (λ ms. total (λ (p : ModelPoint). p.lives * one_if_single p.life) (map (point new.rates) ms)) s
      ∙ counted new.rates old.rates old.members
      ∙ sym (total_copies one_if_single (map (point old.rates) old.members))

  pub one_denominator : file_denominator new ≡ file_denominator old
  unfolding file_denominator denominator
  one_denominator = λ i. 10 ^ (6 * same_singles i + 12 * t.horizon i + 756) * factorial (t.horizon i) * factorial 63

  pub exact_under_lem : exact_premium_of new ≡ exact_under old new.rates
  unfolding exact_premium_of fund_mean exact_under under_rates
  exact_under_lem = λ i. exact_premium (t.horizon i) (t.deductible i) (mean (t.frequency i) (lives_under i)) (t.frequency i) (lives_under i)

-- ---- the move over one denominator
module _ (old : FundFile) (a : Answer) (new : FundFile) (b : Answer) (k : Known old a) (l : Known new b) (h : first_header_line old.header new.header ≡ None) (g : first_member_line 1 old.members new.members ≡ None) where
  abbrev t : SameTerms old.header new.header
  t = same_terms old.header new.header h

  abbrev s : new.members ≡ old.members
  s = same_members 0 old.members new.members g

  abbrev m : Move
  m = move_of old.header a.figures new.header b.figures

  abbrev D : ℕ
  D = file_denominator old

  abbrev L : ℕ
  L = old.header.worth * loading old.header.deductible

  -- the exact premiums under the old and under the new rates
  abbrev A : ℤ
  A = exact_under old old.rates

  abbrev B : ℤ
  B = exact_under old new.rates

  old_exact : exact_premium_of old ≡ A
  unfolding exact_under under_rates
  old_exact = refl

  new_exact : exact_premium_of new ≡ B
  new_exact = exact_under_lem old new t s

  same_denominator : file_denominator new ≡ D
  same_denominator = one_denominator old new t s

  premium_near : nat_abs (pos D *ℤ m.premium -ℤ (B -ℤ A)) ≤ D * m.arithmetic
  unfolding move_of
  premium_near =
      N.le_trans (N.le_of_eq (ap (λ z. nat_abs (z -ℤ (B -ℤ A))) (ring3 ℤ_ring (λ n q p. n ⊗ (q ⊝ p) := n ⊗ q ⊝ n ⊗ p) tt (pos D) b.figures.premium a.figures.premium)))
      (N.le_trans (moved_near (pos D *ℤ a.figures.premium) (pos D *ℤ b.figures.premium) A B (D * a.figures.within) (D * b.figures.within) old_near new_near)
      (N.le_of_eq (sym (N.mul-add D a.figures.within b.figures.within))))
    where
      old_near : nat_abs (pos D *ℤ a.figures.premium -ℤ A) ≤ D * a.figures.within
      old_near = subst (λ z. nat_abs (pos D *ℤ a.figures.premium -ℤ z) ≤ D * a.figures.within) old_exact k.near.premium

      new_near : nat_abs (pos D *ℤ b.figures.premium -ℤ B) ≤ D * b.figures.within
      new_near =
          subst (λ n. nat_abs (pos n *ℤ b.figures.premium -ℤ B) ≤ n * b.figures.within) same_denominator
          (subst (λ z. nat_abs (pos (file_denominator new) *ℤ b.figures.premium -ℤ z) ≤ file_denominator new * b.figures.within) new_exact l.near.premium)

  -- the loaded worths, of the same terms
  old_worth : exact_loaded_worth old ≡ A *ℤ pos L
  unfolding exact_loaded_worth
  old_worth = ap (λ z. z *ℤ pos L) old_exact

  new_worth : exact_loaded_worth new ≡ B *ℤ pos L
  unfolding exact_loaded_worth
  new_worth = λ i. new_exact i *ℤ pos (t.worth i * loading (t.deductible i))

  worth_move : exact_loaded_worth new -ℤ exact_loaded_worth old ≡ (B -ℤ A) *ℤ pos L
  worth_move = ap₂ ◌-ℤ◌ new_worth old_worth ∙ ring3 ℤ_ring (λ b a l. b ⊗ l ⊝ a ⊗ l := (b ⊝ a) ⊗ l) tt B A (pos L)

  gross_least_end : (pos (D * 10 ^ 15) *ℤ m.gross_least) ≤ℤ ((B -ℤ A) *ℤ pos L)
  unfolding move_of
  gross_least_end = to_≤ℤ (O.≤_trans ℤ_ring ℤ_ord
      (O.≤_of_eq ℤ_ring ℤ_ord (ring5 ℤ_ring (λ d t h g x. d ⊗ t ⊗ (h ⊝ g ⊝ x) := (h ⊗ t ⊗ d ⊝ g ⊗ t ⊗ d) ⊝ x ⊗ t ⊗ d) tt (pos D) (pos (10 ^ 15)) (pos b.figures.gross) (pos a.figures.gross) (pos (excess new.header b.figures.within))))
      (O.≤_trans ℤ_ring ℤ_ord
      (subst (λ n. ((pos (b.figures.gross * 10 ^ 15 * n) -ℤ gross_over old a) -ℤ pos (excess new.header b.figures.within * 10 ^ 15 * n)) ≤Z (exact_loaded_worth new -ℤ exact_loaded_worth old)) same_denominator
      (above_low (exact_loaded_worth old) (gross_over old a) (exact_loaded_worth new) (gross_over new b) (excess_over new b) (gross_low old a k) (gross_high new b l)))
      (O.≤_of_eq ℤ_ring ℤ_ord worth_move)))

  gross_most_end : ((B -ℤ A) *ℤ pos L) ≤ℤ (pos (D * 10 ^ 15) *ℤ m.gross_most)
  unfolding move_of
  gross_most_end = to_≤ℤ (O.≤_trans ℤ_ring ℤ_ord (O.≤_of_eq ℤ_ring ℤ_ord (sym worth_move))
      (O.≤_trans ℤ_ring ℤ_ord
      (subst (λ n. (exact_loaded_worth new -ℤ exact_loaded_worth old) ≤Z ((pos (b.figures.gross * 10 ^ 15 * n) -ℤ gross_over old a) +ℤ excess_over old a)) same_denominator
      (above_high (exact_loaded_worth old) (gross_over old a) (exact_loaded_worth new) (gross_over new b) (excess_over old a) (gross_high old a k) (gross_low new b l)))
      (O.≤_of_eq ℤ_ring ℤ_ord (sym (ring5 ℤ_ring (λ d t h g x. d ⊗ t ⊗ (h ⊝ g ⊕ x) := (h ⊗ t ⊗ d ⊝ g ⊗ t ⊗ d) ⊕ x ⊗ t ⊗ d) tt (pos D) (pos (10 ^ 15)) (pos b.figures.gross) (pos a.figures.gross) (pos (excess old.header a.figures.within)))))))

  pub rates_alone : RatesAlone old new m
  unfolding move_of
  rates_alone =
      record {
        terms = t;
        members = s;
        denominator = same_denominator;
        old_exact = old_exact;
        new_exact = new_exact;
        premium = premium_near;
        least = to_≤ℤ (O.≤_trans ℤ_ring ℤ_ord (O.≤_of_eq ℤ_ring ℤ_ord (low_end D m.premium m.arithmetic)) (interval_low (pos D *ℤ m.premium) (B -ℤ A) (D * m.arithmetic) premium_near));
        most = to_≤ℤ (O.≤_trans ℤ_ring ℤ_ord (interval_high (pos D *ℤ m.premium) (B -ℤ A) (D * m.arithmetic) premium_near) (O.≤_of_eq ℤ_ring ℤ_ord (sym (high_end D m.premium m.arithmetic))));
        gross_least = gross_least_end;
        gross_most = gross_most_end;
      }
