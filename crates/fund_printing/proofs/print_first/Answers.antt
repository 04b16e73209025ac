-- The listing of the bytes that were read is that of the file.
use Rattle.fund_printing.proofs.ShownAsked.{prints_first}
use Rattle.fund_printing.proofs.print_first.Goals as goal

pub returns-clause-shows_first : goal.returns-clause-shows_first
returns-clause-shows_first c = prints_first c.args.asked c.args.buffer.now c.args.size c.requires c.print.ensures.written
