-- Nothing, or the line.
use mathlib.Core.Path.{ap}
use mathlib.Core.List.{append_assoc}
use borrow.Author.Rules.{rules}
use Rattle.fund.specs.Base.{bytes}
use Rattle.fund.specs.Listing.{joined}
use Rattle.writing.proofs.PieceLaws.{puts_none, puts_then, puts_as}
use Rattle.comparison_printing.specs.Lines.{other_member}
use Rattle.comparison_printing.proofs.LineSizes.{member_size}
use Rattle.comparison_printing.proofs.put_other_member.Goals as goal

pub returns : goal.returns
unfolding other_member joined bytes
returns c =
    let pieces = puts_then c.key.ensures (puts_then c.figure.ensures (puts_then c.figure-2.ensures c.figure-3.ensures)) in
    record { puts = puts_as _ (ap other_member c.in-Some.is) (simp append_assoc at pieces); in_room = member_size _ (search rules) }

pub returns-in_default : goal.returns-in_default
unfolding other_member
returns-in_default c = record { puts = puts_as _ (ap other_member c.in_default.is) (puts_none _); in_room = member_size _ (search rules) }
