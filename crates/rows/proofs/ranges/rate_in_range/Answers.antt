-- `rows::ranges::rate_in_range`: the flags are the tests of the definition.
use Rattle.std.proofs.Common.{rules}
use Rattle.rows.specs.Rows.{rate_fits}
use Rattle.rows.proofs.ranges.rate_in_range.Goals as goal

pub returns-then-r-le-MOST_RATE-2 : goal.returns-then-r-le-MOST_RATE-2
unfolding rate_fits
returns-then-r-le-MOST_RATE-2 c = search rules

pub returns-else-r-le-MOST_RATE-2 : goal.returns-else-r-le-MOST_RATE-2
unfolding rate_fits
returns-else-r-le-MOST_RATE-2 c = search rules
