-- Each turn reads some bytes behind those that were read; or the file ends, or a read fails.
use Rattle.std.proofs.Common.{◌≡◌, ◌-◌, ◌≤◌, length}
use Rattle.input.specs.Input.{InMemory, Closed, SameSource}
use Rattle.input.proofs.Memory.{BytesSoFar}
use Rattle.input.proofs.read_source.Given as goal

abbrev pub invariant-loop-size : goal.invariant-loop-size
invariant-loop-size g l =
    (l.size ≤ length l.buffer) × (length l.buffer ≡ length l.initial.buffer) × SameSource l.fn.source l.source ×
    (InMemory l.fn.source → BytesSoFar l.fn.file l.fn.pieces l.buffer l.given l.size) × (Closed l.fn.source → l.size ≡ 0)

abbrev pub decreases-loop-size : goal.decreases-loop-size
decreases-loop-size g l = length l.initial.buffer - l.size
