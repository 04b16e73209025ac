-- The four tests are those of the definition.
use Rattle.std.proofs.Common.{arith}
use Rattle.std.proofs.lemmas.Bool.Decides.{nat_tests}
use Rattle.fund.specs.Refusals.{any_short}
use Rattle.recursion_limits.proofs.short.Goals as goal

pub returns-then-f-horizon : goal.returns-then-f-horizon
unfolding any_short
returns-then-f-horizon c = grind (arith, nat_tests, c.if-f-horizon.either)

pub returns-else-f-horizon : goal.returns-else-f-horizon
unfolding any_short
returns-else-f-horizon c = grind (arith, nat_tests, c.if-f-horizon.false)
