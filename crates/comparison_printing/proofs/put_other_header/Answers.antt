-- Nothing, or the line.
use mathlib.Core.Path.{ap}
use borrow.Author.Rules.{rules}
use Rattle.fund.specs.Base.{bytes}
use Rattle.writing.proofs.PieceLaws.{puts_none, puts_as}
use Rattle.comparison_printing.specs.Lines.{other_header}
use Rattle.comparison_printing.proofs.LineSizes.{header_size}
use Rattle.comparison_printing.proofs.put_other_header.Goals as goal

pub returns-in-Some : goal.returns-in-Some
unfolding other_header bytes
returns-in-Some c = record { puts = puts_as _ (ap other_header c.in-Some.is) c.line.ensures; in_room = header_size _ (search rules) }

pub returns-in_default : goal.returns-in_default
unfolding other_header
returns-in_default c = record { puts = puts_as _ (ap other_header c.in_default.is) (puts_none _); in_room = header_size _ (search rules) }
