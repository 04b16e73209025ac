-- `sums` meets its contract. The loop's invariant: the sums are those over all k up to the places that were visited, since what
-- lies between is blank.
use Prim.Native.Nat.{suc, ◌≤◌}
use Rattle.recursion.specs.Places.{from}
use Rattle.recursion.specs.Steps.{SumsTo}
use Rattle.recursion.proofs.steps.sums.Given as goal

abbrev pub invariant-loop-place : goal.invariant-loop-place
invariant-loop-place l =
    (from l.place-items l.place-index ≤ suc l.last) × SumsTo l.t.d.now l.t.h.now l.f l.r l.last (from l.place-items l.place-index) l.s
