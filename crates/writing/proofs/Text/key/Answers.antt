-- `writing::Text::key` meets its contract: one byte more.
use native.Mathlib.Omega.{arith}
use native.Mathlib.Numerals.{add-one}
use lib.Seq.{take-suc}
use Rattle.writing.proofs.PieceLaws.{puts_then}
use Rattle.writing.proofs.Text.key.Goals as goal

pub loop-byte-preserved : goal.loop-byte-preserved
loop-byte-preserved c =
    let l = c.loop-byte in
    rw (add-one, take-suc c.args.key.now l.byte-index 0 (omega arith)) (puts_then l.invariant c.byte.ensures)
