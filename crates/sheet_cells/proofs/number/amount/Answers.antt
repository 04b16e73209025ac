-- `sheet_cells::number::amount`: by the two cases of a cell.
use Rattle.std.proofs.Common.{sym, ap, ◌∙◌, arith}
use Rattle.fund.specs.SheetCells.{amount_of}
use Rattle.sheet_cells.specs.Plain.{number_no_nan}
use Rattle.sheet_cells.proofs.number.amount.Goals as goal

pub whole_of-requires : goal.whole_of-requires
whole_of-requires c = (omega arith, number_no_nan _ c.in-Some.is c.requires)

pub returns-in-None : goal.returns-in-None
unfolding amount_of
returns-in-None c = sym (ap amount_of c.in-None.is)

pub returns-in-Some : goal.returns-in-Some
unfolding amount_of
returns-in-Some c = c.whole_of.ensures ∙ sym (ap amount_of c.in-Some.is)
