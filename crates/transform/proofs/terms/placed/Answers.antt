-- The three tests are those of the definition, in its order.
use Rattle.std.proofs.Common.{sym, ◌∙◌}
use borrow.Author.Tests.{lt-leb, le-leb}
use mathlib.Core.Bool.{true≢false}
use Rattle.fund.specs.Transform.{placed}
use Rattle.transform.proofs.terms.placed.Goals as goal
use Rattle.transform.proofs.terms.placed.Goals.{then-x-horizon, else-x-horizon}

pub returns-then-reached : goal.returns-then-reached
unfolding placed
returns-then-reached c =
    elim c.if-x-horizon.branch [
      | then-x-horizon w ↦
          rw (sym c.requires, le-leb _ _ w.if-x-horizon.true, sym w.reached.ensures, sym w.value-is, c.if-reached.true) c.reached-then-reached.ensures
      | else-x-horizon w ↦ absurd (true≢false (sym c.if-reached.true ∙ w.value-is ∙ lt-leb _ _ w.if-x-horizon.false))
    ]

pub returns-else-reached : goal.returns-else-reached
unfolding placed
returns-else-reached c =
    elim c.if-x-horizon.branch [
      | then-x-horizon w ↦ rw (sym c.requires, le-leb _ _ w.if-x-horizon.true, sym w.reached.ensures, sym w.value-is, c.if-reached.false)
      | else-x-horizon w ↦ rw (sym c.requires, lt-leb _ _ w.if-x-horizon.false, c.if-reached.false)
    ]
