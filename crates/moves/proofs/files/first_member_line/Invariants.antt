-- What is left to compare are the lines that both iterators have not given yet.
use Rattle.std.proofs.Common.{◌≡◌, ◌+◌, suc, length}
use Rattle.moves.specs.Differences.{first_member_line}
use Rattle.moves.proofs.files.first_member_line.Given as goal

abbrev pub invariant-loop-k : goal.invariant-loop-k
invariant-loop-k l =
    (first_member_line 1 l.old l.new ≡ first_member_line (suc l.k-iterator.count) l.k-iterator.iter.a.rest.now l.k-iterator.iter.b.rest.now) ×
    (l.k-iterator.count + length l.k-iterator.iter.a.rest.now ≡ length l.old) ×
    (l.k-iterator.count + length l.k-iterator.iter.b.rest.now ≡ length l.new)
