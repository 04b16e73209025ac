-- No H up to k is above its limit.
use Prim.Native.Nat.{ℕ, suc, ◌<◌, ◌≤◌}
use lib.ListN.{get_or}
use Rattle.recursion_limits.specs.Limits.{most_error}
use Rattle.recursion_limits.proofs.error_at.Given as goal

abbrev pub invariant-loop-k : goal.invariant-loop-k
invariant-loop-k l = (j : ℕ) → j < l.k → get_or l.h (suc j) 0 ≤ most_error
