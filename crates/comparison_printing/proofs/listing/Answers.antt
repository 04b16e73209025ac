-- Both funds and the comparison, which are within the room together.
use mathlib.Core.Path.{refl}
use native.Mathlib.Omega.{arith}
use borrow.Author.Rules.{rules}
use borrow.Author.Tests.{le-leb, lt-leb}
use lib.ListN.{length-append}
use Rattle.fund.specs.Base.{bytes}
use Rattle.writing.proofs.PieceLaws.{puts_then, puts_written, written_none, written_to}
use Rattle.comparison_printing.specs.Printed.{listing_of}
use Rattle.comparison_printing.proofs.listing.Goals as goal

pub returns-then-text-lt-ROOM : goal.returns-then-text-lt-ROOM
unfolding listing_of
returns-then-text-lt-ROOM c = rw (lt-leb _ _ c.if-text-lt-ROOM.true) (written_none _)

pub returns : goal.returns
unfolding listing_of bytes
returns c =
    let room = c.if-text-lt-ROOM.false in
    let first = c.put_fund.ensures in
    let second = c.put_fund-2.ensures in
    let told = c.put_comparison.ensures in
    rw (le-leb _ _ room)
    (written_to c.put_comparison.new.text.bytes.now (search rules)
    (puts_written refl (simp length-append (omega (arith, first.in_room, second.in_room, told.in_room, room)))
    (puts_then first.puts (puts_then second.puts told.puts))))
