-- What was divided is rounded up by its remainder: zero, or not
-- (`up_rest_zero`, `up_rest`); where it does not fit, `round_many`.
use mathlib.Core.Path.{sym, ◌∙◌, ap}
use native.Mathlib.Nat.{le_of_lt}
use native.Mathlib.Omega.{arith}
use Rattle.rounding.specs.Word.{word}
use Rattle.rounding.proofs.Rest.{up_rest_zero, up_rest}
use Rattle.rounding.proofs.Word.{up_rounds, round_many, word_is}
use Rattle.rounding.proofs.up_of.Goals as goal

pub returns-in-None : goal.returns-in-None
returns-in-None c = λ p d. sym (round_many up_rounds p _ (omega arith) (rw c.in-None.is at d))

pub returns-then-d-eq0 : goal.returns-then-d-eq0
returns-then-d-eq0 c = λ p d.
    let s = rw c.in-Some.is at d in
    sym (ap word (up_rest_zero p _ _ _ s.0 c.if-d-eq0.true (omega arith)) ∙ word_is _ (omega arith))

pub returns-else-d-eq0 : goal.returns-else-d-eq0
unfolding word
returns-else-d-eq0 c = λ p d.
    let s = rw c.in-Some.is at d in
    c.saturating_add.ensures ∙ ap word (sym (up_rest p _ _ _ s.0 (omega arith) (le_of_lt s.1)))
