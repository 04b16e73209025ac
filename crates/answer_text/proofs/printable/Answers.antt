-- Each test that fails decides.
use Rattle.std.proofs.Common.{arith}
use native.Mathlib.Numerals.{add-one}
use Rattle.std.proofs.lemmas.Bool.Decides.{nat_tests}
use Rattle.answer_text.specs.Shown.{printable}
use Rattle.answer_text.proofs.printable.Goals as goal

pub returns-then-room-ge-ROOM : goal.returns-then-room-ge-ROOM
unfolding printable
returns-then-room-ge-ROOM c = let e = rw add-one at c.all_bounded.ensures in grind (arith, nat_tests, e)

pub returns-else-room-ge-ROOM : goal.returns-else-room-ge-ROOM
unfolding printable
returns-else-room-ge-ROOM c = grind (arith, nat_tests)
