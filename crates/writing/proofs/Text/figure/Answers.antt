-- `writing::Text::figure` meets its contract: the number, and the byte behind it.
use Rattle.writing.proofs.PieceLaws.{puts_then}
use Rattle.writing.proofs.Text.figure.Goals as goal

pub returns : goal.returns
returns g c = puts_then c.print.ensures c.byte.ensures
