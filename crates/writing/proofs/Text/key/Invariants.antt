-- The bytes before the place in the key are put.
use lib.ListN.{take}
use Rattle.writing.specs.Writing.{Puts}
use Rattle.writing.proofs.Text.key.Given as goal

abbrev pub invariant-loop-byte : goal.invariant-loop-byte
invariant-loop-byte l = Puts l.initial.self (take l.byte-index l.key) l.self
