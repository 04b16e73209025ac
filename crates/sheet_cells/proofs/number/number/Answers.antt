-- `sheet_cells::number::number`: by the two cases of a cell, and of what is taken.
use Rattle.std.proofs.Common.{sym, ap, ◌∙◌}
use borrow.Author.Tests.{lt-ltb, le-ltb}
use Rattle.sheet_cells.specs.Plain.{number_no_nan}
use Rattle.fund.specs.SheetCells.{at_least, whole_in}
use Rattle.sheet_cells.proofs.number.number.Goals as goal

pub returns-in_err-x : goal.returns-in_err-x
unfolding whole_in
returns-in_err-x c = c.from_residual.ensures ∙ sym (ap (whole_in c.args.least c.args.most) c.in_err-x.was)

pub whole_of-requires : goal.whole_of-requires
whole_of-requires c = (c.requires.0, number_no_nan _ c.in_ok-x.was c.requires.1)

pub returns-in_err-n : goal.returns-in_err-n
unfolding whole_in at_least
returns-in_err-n c = c.from_residual-in_err-n.ensures ∙ rw (c.in_ok-x.was, sym c.whole_of.ensures ∙ c.in_err-n.was)

pub returns-then-n-least : goal.returns-then-n-least
unfolding whole_in at_least
returns-then-n-least c = rw (c.in_ok-x.was, sym c.whole_of.ensures ∙ c.in_ok-n.was, lt-ltb _ _ c.if-n-least.true)

pub returns : goal.returns
unfolding whole_in at_least
returns c = rw (c.in_ok-x.was, sym c.whole_of.ensures ∙ c.in_ok-n.was, le-ltb _ _ c.if-n-least.false)
