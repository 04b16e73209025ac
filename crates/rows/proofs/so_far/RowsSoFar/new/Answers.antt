-- `rows::so_far::RowsSoFar::new`: no rows have no ages and no lives.
use Rattle.std.proofs.Common.{ap}
use Rattle.fund.specs.Base.{total}
use Rattle.fund.specs.Reading.{lives_in_all}
use Rattle.rows.specs.Rows.{least_age}
use Rattle.rows.proofs.so_far.RowsSoFar.new.Goals as goal

pub invariant_of-result : goal.invariant_of-result
unfolding least_age lives_in_all total
invariant_of-result c = record { least_is = ap least_age c.new.ensures; lives_are = ap lives_in_all c.new-2.ensures }
