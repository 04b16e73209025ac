-- A number in decimal is what the library prints.
use mir.Facts.{to_z-of_z}
use Rattle.writing.proofs.PieceLaws.{puts_as}
use Rattle.writing.proofs.Decimal.{signed_is}
use Rattle.writing.proofs.I64Printed.print.Goals as goal

pub returns : goal.returns
returns c = puts_as _ (signed_is _ c.ranges.self) (rw (to_z-of_z c.ranges.self) at c.put_integer.ensures)
