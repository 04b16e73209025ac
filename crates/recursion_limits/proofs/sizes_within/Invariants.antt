-- What is left of the limit and the sizes so far add up to the limit.
use mathlib.Core.Path.{◌≡◌}
use Prim.Native.Nat.{◌+◌}
use Rattle.recursion_limits.specs.Limits.{most_transform, sizes}
use Rattle.recursion_limits.proofs.sizes_within.Given as goal

abbrev pub invariant-loop-k : goal.invariant-loop-k
invariant-loop-k l = l.left + sizes l.d l.k ≡ most_transform
