-- `rows::ranges::within` is the test of the definitions.
use Rattle.std.proofs.Common.{rules}
use Rattle.fund.specs.Reading.{between}
use Rattle.rows.proofs.ranges.within.Goals as goal

pub returns-then-least-n : goal.returns-then-least-n
unfolding between
returns-then-least-n c = search rules

pub returns-else-least-n : goal.returns-else-least-n
unfolding between
returns-else-least-n c = search rules
