-- A piece that the bytes have room for is written.
use mathlib.Core.Path.{refl}
use borrow.Author.Rules.{rules}
use Rattle.writing.proofs.PieceLaws.{puts_written, written_to}
use Rattle.writing.proofs.write.Goals as goal

pub returns : goal.returns
returns g c = λ room. written_to c.print.new.text.bytes.now (search rules) (puts_written refl room c.print.ensures)
