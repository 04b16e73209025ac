-- What a host has of two funds after a comparison, in plain words (plainly): from the demands on both, that the comparison is the definition's, and the theorem on the exact move. So
-- of the comparison call (compares_plainly), of the call for C (hosts_plainly), and of the listing (prints_move).
use Rattle.std.specs.Prelude.{Bool, true, false, not, eqb, ◌∷◌, [], suc, zero, if◌then◌else◌, Ok, Err, Option, Some, None, option_map, unwrap_or}
use mathlib.Core.Path.{◌≡◌, refl, sym, ◌∙◌, ap, ap₂, subst}
use mathlib.Core.List.{List}
use Prim.Native.Nat.{ℕ, ◌+◌, ◌<◌}
use native.Mathlib.Omega.{arith}
use lib.IntN.{pos, ◌+ℤ◌, ◌-ℤ◌}
use lib.ListN.{length, get_or}
use Rattle.fund.specs.declared.Cells.{Cells}
use Rattle.fund.specs.declared.Figures.{Figures}
use Rattle.fund.specs.declared.Member.{Member}
use Rattle.fund.specs.Verdict.{Verdict}
use Rattle.fund.specs.Reading.{FundFile, Reading, read, stopped, reading}
use Rattle.fund.specs.Refusals.{Lengths, number_in}
use Rattle.fund.specs.Answer.{Answer, answer}
use Rattle.laws.specs.Answer.{accepted_read}
use Rattle.laws.specs.Numbers.{zero_accepted}
use Rattle.pricing.specs.Priced.{left_priced}
use Rattle.moves.specs.declared.files.MemberLine.{MemberLine}
use Rattle.moves.specs.declared.files.Differences.{Differences}
use Rattle.moves.specs.Differences.{differences, member_difference, first_header_line, same_member, first_member_line, in_both}
use Rattle.moves.specs.Move.{excess, move_of}
use Rattle.comparison.specs.declared.Compared.{Compared}
use Rattle.comparison.specs.declared.Comparison.{Comparison}
use Rattle.comparison.specs.Comparison.{if_accepted, compared, Compares}
use Rattle.comparison.specs.Exact.{ExactMove, RatesAlone}
use Rattle.comparison_printing.specs.Printed.{comparison_listing, shown_comparison, PrintsComparison}
use Rattle.miguepo_comparison.specs.HostComparison.{Handed, member_fields, comparison_fields, ReadBack, HostsComparison}
use Rattle.claims.specs.Demands.{Received, Demands}
use Rattle.claims.specs.Calls.{priced, hosted}
use Rattle.claims.specs.Comparison.{SaysMove, TellsMove, ComparesPlainly, PrintsMove, line_read, comparison_read, ComparisonStruct}
use Rattle.claims.proofs.Calls.{price_demands, host_demands, shows}

-- What is told of two funds that are accepted.
abbrev told_of : FundFile → Figures → FundFile → Figures → Comparison
told_of fund a other b = record { moved = move_of fund.header a other.header b; differences = differences fund other }

-- ---- the definition's comparison of two answers
module _ (a b : Answer) where
  no_move : (v w : Verdict) → a.verdict ≡ v → b.verdict ≡ w → 0 < number_in v + number_in w → (x y : Reading) → compared x a y b ≡ None
  unfolding compared
  no_move (Ok u) (Ok w) e g l x y = absurd (omega arith)
  no_move (Ok tt) (Err stop) e g l (read fund) (read other) = ap₂ (λ v w. if_accepted v (if_accepted w (Some (told_of fund a.figures other b.figures)))) e g
  no_move (Err stop) w e g l (read fund) (read other) = ap (λ v. if_accepted v (if_accepted b.verdict (Some (told_of fund a.figures other b.figures)))) e
  no_move (Ok tt) (Err stop) e g l (read fund) (stopped t u) = refl
  no_move (Ok tt) (Err stop) e g l (stopped t u) y = refl
  no_move (Err stop) w e g l (read fund) (stopped t u) = refl
  no_move (Err stop) w e g l (stopped t u) y = refl

  the_move : (fund other : FundFile) → a.verdict ≡ Ok tt → b.verdict ≡ Ok tt → compared (read fund) a (read other) b ≡ Some (told_of fund a.figures other b.figures)
  unfolding compared
  the_move fund other e g = ap₂ (λ v w. if_accepted v (if_accepted w (Some (told_of fund a.figures other b.figures)))) e g

-- the words of the move, of figures that a host has
says_move : (fund other : FundFile) (o p : Received) (a b : Figures) → o.figures ≡ a → p.figures ≡ b → SaysMove fund other o p (move_of fund.header a other.header b) (differences fund other)
unfolding move_of differences member_difference
says_move fund other o p a b e g =
    let z = pos b.gross -ℤ pos a.gross in
    record {
      premium = ap₂ (λ (x y : Figures). y.premium -ℤ x.premium) (sym e) (sym g);
      arithmetic = ap₂ (λ (x y : Figures). x.within + y.within) (sym e) (sym g);
      least = refl;
      most = refl;
      gross = ap₂ (λ (x y : Figures). pos y.gross -ℤ pos x.gross) (sym e) (sym g);
      gross_least = ap (λ (y : Figures). z -ℤ pos (excess other.header y.within)) (sym g);
      gross_most = ap (λ (x : Figures). z +ℤ pos (excess fund.header x.within)) (sym e);
      header = refl;
      member = refl;
    }

-- ---- from the demands
module _ (old new : List ℕ) (level : ℕ) (n m : Lengths) (o p : Received) (c : Option Comparison) (first : Demands old (reading old) level n o) (second : Demands new (reading new) level m p)
    (is : c ≡ compared (reading old) (answer old n) (reading new) (answer new m))
    (exact : (f g : FundFile) → reading old ≡ read f → reading new ≡ read g → (t : Comparison) → compared (reading old) (answer old n) (reading new) (answer new m) ≡ Some t → ExactMove f g t.moved)
    (rates : (f g : FundFile) → reading old ≡ read f → reading new ≡ read g → (t : Comparison) → compared (reading old) (answer old n) (reading new) (answer new m) ≡ Some t → t.differences.header ≡ None → t.differences.member ≡ None → RatesAlone f g t.moved) where
  tells : (answer old n).verdict ≡ Ok tt → (answer new m).verdict ≡ Ok tt → TellsMove old new o p c
  tells e g =
      let x = accepted_read old n (reading old) e in
      let y = accepted_read new m (reading new) g in
      let F = x.fund in
      let G = y.fund in
      let t = ap₂ (λ z w. compared z (answer old n) w (answer new m)) x.is_read y.is_read ∙ the_move (answer old n) (answer new m) F G e g in
      record {
        old_fund = F;
        new_fund = G;
        old_read = x.is_read;
        new_read = y.is_read;
        comparison = told_of F (answer old n).figures G (answer new m).figures;
        told = is ∙ t;
        says = says_move F G o p (answer old n).figures (answer new m).figures first.method.figures second.method.figures;
        exact = exact F G x.is_read y.is_read _ t;
        rates = rates F G x.is_read y.is_read _ t;
      }

  plainly : ComparesPlainly old new level n m o p c
  plainly =
      let e = first.refuses.number in
      let g = second.refuses.number in
      record {
        old_demands = first;
        new_demands = second;
        refused = λ l. is ∙ no_move (answer old n) (answer new m) (answer old n).verdict (answer new m).verdict refl refl (omega (arith, e, g)) (reading old) (reading new);
        moved = λ h k. tells (zero_accepted (answer old n).verdict (sym e ∙ h)) (zero_accepted (answer new m).verdict (sym g ∙ k));
      }

-- ---- the comparison call
module _ (old new : List ℕ) (level : ℕ) (n m : Lengths) (c : Compared) (x y : Cells) (k : Compares old new level n m c (left_priced c.old x) (left_priced c.new y)) where
  old_is : left_priced c.old x ≡ answer old n
  old_is = k.old_priced.answers.answer

  new_is : left_priced c.new y ≡ answer new m
  new_is = k.new_priced.answers.answer

  comparison_is : c.comparison ≡ compared (reading old) (answer old n) (reading new) (answer new m)
  comparison_is = k.comparison ∙ ap₂ (λ a b. compared (reading old) a (reading new) b) old_is new_is

  pub compares_plainly : ComparesPlainly old new level n m (priced old c.old x) (priced new c.new y) c.comparison
  compares_plainly =
      plainly old new level n m (priced old c.old x) (priced new c.new y) c.comparison
      (price_demands old (reading old) level n c.old x k.old_priced) (price_demands new (reading new) level m c.new y k.new_priced) comparison_is
      (λ F G p q v t. k.exact F G p q v (comparison_is ∙ t)) (λ F G p q v t. k.rates F G p q v (comparison_is ∙ t))

-- ---- the call for C
-- a line above 0 is read from its field, and none from 0
abbrev Back : Option ℕ → Type 0
Back o = line_read (unwrap_or o 0) ≡ o

back_if : (b : Bool) (line : ℕ) (o : Option ℕ) → Back o → Back (if b then Some (suc line) else o)
back_if true line o k = refl
back_if false line o k = k

header_back : (old new : FundFile) → Back (first_header_line old.header new.header)
unfolding first_header_line
header_back old new =
    let a = old.header in
    let b = new.header in
    back_if (not (eqb a.horizon b.horizon)) 2 _
    (back_if (not (eqb a.order b.order)) 3 _
    (back_if (not (eqb a.frequency.death b.frequency.death)) 4 _
    (back_if (not (eqb a.frequency.disability b.frequency.disability)) 4 _
    (back_if (not (eqb a.deductible b.deductible)) 5 _ (back_if (not (eqb a.worth b.worth)) 6 None refl)))))

member_line_back : (at : ℕ) (ms ns : List Member) → Back (first_member_line (suc at) ms ns)
unfolding first_member_line
member_line_back at [] [] = refl
member_line_back at [] (n ∷ ns) = refl
member_line_back at (m ∷ ms) [] = refl
member_line_back at (m ∷ ms) (n ∷ ns) = go (same_member m n) (member_line_back (suc at) ms ns)
  where
    go : (b : Bool) → Back (first_member_line (suc (suc at)) ms ns) → Back (if b then first_member_line (suc (suc at)) ms ns else Some (suc at))
    go true k = k
    go false k = refl

abbrev member_read : MemberLine → Option MemberLine
member_read m = option_map (λ (k : ℕ). record { member = k; old_line = m.old_line; new_line = m.new_line }) (line_read m.member)

member_back : (old new : FundFile) (o : Option ℕ) → Back o → member_read (member_fields (option_map (in_both old new) o)) ≡ option_map (in_both old new) o
member_back old new None k = refl
member_back old new (Some zero) k = let z : ◌≡◌ {A = ℕ} 0 1 = cc k in absurd (omega arith)
member_back old new (Some (suc line)) k = refl

record LinesBack (d : Differences) : Type 0 where
  header : Back d.header
  member : member_read (member_fields d.member) ≡ d.member

lines_back : (old new : FundFile) → LinesBack (differences old new)
unfolding differences member_difference
lines_back old new = record { header = header_back old new; member = member_back old new _ (member_line_back 0 old.members new.members) }

compared_lines : (x y : Reading) (a b : Answer) (t : Comparison) → compared x a y b ≡ Some t → LinesBack t.differences
unfolding compared
compared_lines (read f) (read g) a b t e = go a.verdict b.verdict e
  where
    go : (v w : Verdict) → if_accepted v (if_accepted w (Some (told_of f a.figures g b.figures))) ≡ Some t → LinesBack t.differences
    go (Ok u) (Ok w) z = let k : told_of f a.figures g b.figures ≡ t = cc z in subst (λ (x : Comparison). LinesBack x.differences) k (lines_back f g)
    go (Ok u) (Err stop) z = let k : ◌≡◌ {A = ℕ} 0 1 = cc z in absurd (omega arith)
    go (Err stop) w z = let k : ◌≡◌ {A = ℕ} 0 1 = cc z in absurd (omega arith)
compared_lines (read f) (stopped why place) a b t e = let k : ◌≡◌ {A = ℕ} 0 1 = cc e in absurd (omega arith)
compared_lines (stopped why place) y a b t e = let k : ◌≡◌ {A = ℕ} 0 1 = cc e in absurd (omega arith)

-- where no member line is read, its lines are 0 too
no_member_line : (m : Option MemberLine) → member_read (member_fields m) ≡ m → (member_fields m).member ≡ 0 → ((member_fields m).old_line ≡ 0) × ((member_fields m).new_line ≡ 0)
no_member_line None k e = (refl, refl)
no_member_line (Some m) k e =
    let z : None ≡ Some m = ap (λ (n : ℕ). option_map (λ (k : ℕ). record { member = k; old_line = m.old_line; new_line = m.new_line }) (line_read n)) (sym e) ∙ k in
    let y : ◌≡◌ {A = ℕ} 0 1 = cc z in
    absurd (omega arith)

no_member_fields : (c : Option Comparison) → ((t : Comparison) → c ≡ Some t → LinesBack t.differences) → get_or (comparison_fields c) 9 0 ≡ 0 →
    (get_or (comparison_fields c) 10 0 ≡ 0) × (get_or (comparison_fields c) 11 0 ≡ 0)
no_member_fields None l e = (refl, refl)
no_member_fields (Some t) l e = no_member_line t.differences.member (l t refl).member e

-- the comparison that C reads from its fields
read_back : (c : Option Comparison) → ReadBack c → ((t : Comparison) → c ≡ Some t → LinesBack t.differences) → comparison_read (comparison_fields c) ≡ c
read_back (Some t) k l =
    let s = k t refl in
    let d = l t refl in
    λ i.
    Some
    (record {
      moved = record { premium = s.premium i; arithmetic = t.moved.arithmetic; least = s.least i; most = s.most i; gross = s.gross i; gross_least = s.gross_least i; gross_most = s.gross_most i };
      differences = record { header = d.header i; member = d.member i };
    })
read_back None k l = refl

pub hosts_plainly : (old new : List ℕ) (level : ℕ) (n m : Lengths) (a b : Handed) (comparison : List ℕ) → HostsComparison old new level n m a b comparison →
    ComparesPlainly old new level n m (hosted old a.result a.D a.H a.f a.R a.F) (hosted new b.result b.D b.H b.f b.R b.F) (comparison_read comparison)
hosts_plainly old new level n m a b comparison k =
    plainly old new level n m (hosted old a.result a.D a.H a.f a.R a.F) (hosted new b.result b.D b.H b.f b.R b.F) (comparison_read comparison)
    (host_demands old (reading old) level n a.result a.D a.H a.f a.R a.F k.old_hosted) (host_demands new (reading new) level m b.result b.D b.H b.f b.R b.F k.new_hosted)
    (ap comparison_read k.comparison_is ∙ read_back _ k.read_back (compared_lines (reading old) (reading new) _ _)) k.exact k.rates

-- the struct's own fields
module _ (old new : List ℕ) (level : ℕ) (n m : Lengths) (a b : Handed) (comparison : List ℕ) (k : HostsComparison old new level n m a b comparison) where
  abbrev o : Received
  o = hosted old a.result a.D a.H a.f a.R a.F

  abbrev p : Received
  p = hosted new b.result b.D b.H b.f b.R b.F

  fields_of : (c : Option Comparison) → length (comparison_fields c) ≡ 12
  fields_of (Some t) = refl
  fields_of None = refl

  abbrev is : Option Comparison
  is = compared (reading old) (answer old n) (reading new) (answer new m)

  moved_is : (answer old n).verdict ≡ Ok tt → (answer new m).verdict ≡ Ok tt → get_or comparison 0 0 ≡ 1
  moved_is e g =
      let x = accepted_read old n (reading old) e in
      let y = accepted_read new m (reading new) g in
      ap (λ fs. get_or fs 0 0) k.comparison_is
      ∙ ap (λ c. get_or (comparison_fields c) 0 0) (ap₂ (λ z w. compared z (answer old n) w (answer new m)) x.is_read y.is_read ∙ the_move (answer old n) (answer new m) x.fund y.fund e g)

  old_demands : Demands old (reading old) level n o
  old_demands = host_demands old (reading old) level n a.result a.D a.H a.f a.R a.F k.old_hosted

  new_demands : Demands new (reading new) level m p
  new_demands = host_demands new (reading new) level m b.result b.D b.H b.f b.R b.F k.new_hosted

  pub comparison_struct : ComparisonStruct o p comparison
  comparison_struct =
      let e = old_demands.refuses.number in
      let g = new_demands.refuses.number in
      record {
        fields = ap length k.comparison_is ∙ fields_of is;
        moved = λ h l. moved_is (zero_accepted (answer old n).verdict (sym e ∙ h)) (zero_accepted (answer new m).verdict (sym g ∙ l));
        no_member = λ z. subst (λ (fs : List ℕ). (get_or fs 10 0 ≡ 0) × (get_or fs 11 0 ≡ 0)) (sym k.comparison_is)
            (no_member_fields is (compared_lines (reading old) (reading new) _ _) (subst (λ (fs : List ℕ). get_or fs 9 0 ≡ 0) k.comparison_is z));
        refused = λ l. k.comparison_is ∙ ap comparison_fields (no_move (answer old n) (answer new m) (answer old n).verdict (answer new m).verdict refl refl (omega (arith, e, g, l)) (reading old) (reading new));
      }

-- ---- the listing
pub prints_move : (old new before after : List ℕ) (size : ℕ) → PrintsComparison old new before after size → PrintsMove old new before after size
unfolding shown_comparison
prints_move old new before after size k = record { shows = shows 512 (comparison_listing old new) before after size k.written; exact = k.exact; rates = k.rates }
