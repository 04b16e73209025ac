-- What was divided is rounded to the nearest by its remainder: less than half of the unit, or not
-- (`near_rest_low`, `near_rest_high`); where it does not fit, `round_many`.
use mathlib.Core.Path.{sym, ◌∙◌, ap}
use native.Mathlib.Omega.{arith}
use Rattle.rounding.specs.Word.{word}
use Rattle.rounding.proofs.Rest.{near_rest_low, near_rest_high}
use Rattle.rounding.proofs.Word.{near_rounds, round_many, word_is}
use Rattle.rounding.proofs.nearest_of.Goals as goal

pub returns-in-None : goal.returns-in-None
returns-in-None g c = λ p d. sym (round_many near_rounds p g.row.U c.requires.0 (rw c.in-None.is at d))

pub returns-then-d : goal.returns-then-d
returns-then-d g c = λ p d.
    let s = rw c.in-Some.is at d in
    sym (ap word (near_rest_low p _ _ _ s.0 (omega arith)) ∙ word_is _ (omega arith))

pub returns-else-d : goal.returns-else-d
unfolding word
returns-else-d g c = λ p d.
    let s = rw c.in-Some.is at d in
    c.saturating_add.ensures ∙ ap word (sym (near_rest_high p _ _ _ s.0 (omega arith) s.1))
