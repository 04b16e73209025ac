-- The group decides; a life of group 1 stays with a rate above a half.
use borrow.Author.Tests.{eq-eqb, ne_eqb}
use Rattle.fund.specs.Transform.{unit}
use Rattle.totals.proofs.figures.single_part.Goals as goal

pub returns-then-m-eq-SINGLE : goal.returns-then-m-eq-SINGLE
unfolding unit
returns-then-m-eq-SINGLE c = rw (eq-eqb _ _ c.if-m-eq-SINGLE.true) c.up.ensures

pub returns : goal.returns
returns c = rw (ne_eqb _ _ c.if-m-eq-SINGLE.false)
