-- `rows::ranges::member_in_range`: each flag is that of the tests so far; behind them stand those of the lives.
use Rattle.std.proofs.Common.{rules}
use Rattle.rows.specs.Rows.{member_fits}
use Rattle.rows.proofs.ranges.member_in_range.Goals as goal

pub returns-then-m-le-MOST_AMOUNT-2 : goal.returns-then-m-le-MOST_AMOUNT-2
unfolding member_fits
returns-then-m-le-MOST_AMOUNT-2 c = search rules

pub returns-else-m-le-MOST_AMOUNT-2 : goal.returns-else-m-le-MOST_AMOUNT-2
unfolding member_fits
returns-else-m-le-MOST_AMOUNT-2 c = search rules
