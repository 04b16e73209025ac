-- A number in decimal is what the library prints.
use Rattle.writing.proofs.PieceLaws.{puts_as}
use Rattle.writing.proofs.Decimal.{decimal_is}
use Rattle.writing.proofs.U64Printed.print.Goals as goal

pub returns : goal.returns
returns c = puts_as _ (decimal_is _ c.ranges.self.fits) c.put_integer.ensures
