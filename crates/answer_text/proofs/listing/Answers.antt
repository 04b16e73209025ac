-- The listing where it is in range; and where it is not, nothing.
use mathlib.Core.Path.{◌≡◌, sym, ap, ◌∙◌}
use mathlib.Core.Bool.{true}
use native.Mathlib.Omega.{arith}
use lib.ListN.{length}
use borrow.Author.Rules.{rules}
use Rattle.fund.specs.Listing.{printed}
use Rattle.writing.proofs.NumberSizes.{refusal_length}
use Rattle.writing.proofs.PieceLaws.{written_none, written_as}
use Rattle.answer_text.specs.Shown.{printable}
use Rattle.answer_text.proofs.Range.{Printable, in_range, given, listing_out, listing_in, listed_lines}
use Rattle.answer_text.proofs.listing.Goals as goal
use Rattle.answer_text.proofs.listing.Goals.{Else-not-printable}

-- Past the range test.
test : (c : Else-not-printable) → let a = c.args in printable a.figures.truncation a.horizon (length a.f.now) a.r.now (length a.sums.now) (length a.text.now) ≡ true
test c = sym c.printable.ensures ∙ c.if-not-printable.false

range : (c : Else-not-printable) → let a = c.args in Printable a.figures.truncation a.horizon (length a.f.now) a.r.now (length a.sums.now) (length a.text.now)
range c = in_range _ _ _ _ _ _ (test c)

pub returns-then-not-printable : goal.returns-then-not-printable
returns-then-not-printable c = written_as _ (listing_out _ _ _ (sym c.printable.ensures ∙ c.if-not-printable.true)) (written_none _)

pub overflow_add-accepted : goal.overflow_add-accepted
overflow_add-accepted c = omega (arith, (range c).horizon)

pub invariant_of-accepted : goal.invariant_of-accepted
invariant_of-accepted c = record { in_range = given _ _ _ (range (goal.at.invariant_of-accepted c).Else-not-printable) }

pub returns-in-Ok : goal.returns-in-Ok
unfolding printed
returns-in-Ok c =
    let e = (goal.at.returns-in-Ok c).Else-not-printable in
    written_as _ (listing_in _ _ _ (test e) ∙ ap (printed _ c.args.horizon) c.in-Ok.is ∙ listed_lines _ _ c.args.horizon) (c.write.ensures (range e).enough_text)

pub returns-in-Err : goal.returns-in-Err
unfolding printed
returns-in-Err c =
    let a = c.args in
    let e = (goal.at.returns-in-Err c).Else-not-printable in
    let stop = c.in-Err.refused in
    written_as _ (listing_in _ _ _ (test e) ∙ ap (printed _ a.horizon) c.in-Err.is)
    (c.write-in-Err.ensures (omega (arith, (range e).enough_text, refusal_length stop.why stop.place (search rules))))
