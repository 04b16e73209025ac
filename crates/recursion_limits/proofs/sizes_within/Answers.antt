-- What is left of the limit and the sizes so far add up to the limit.
use native.Mathlib.Omega.{arith}
use Rattle.std.proofs.Common.{rules}
use Rattle.recursion_limits.proofs.TestedLimits.{sizes_above}
use Rattle.recursion_limits.proofs.sizes_within.Goals as goal

pub returns-then-left-size : goal.returns-then-left-size
returns-then-left-size c =
    sizes_above c.args.d.now c.args.horizon c.loop-k.k c.loop-k.left c.unsigned_abs-size.result (omega arith) c.loop-k.invariant (search rules) c.if-left-size.true
