-- `rows::so_far::RowsSoFar::line`: the header lines are as many as the definition's.
use Rattle.std.proofs.Common.{arith}
use Rattle.fund.specs.Reading.{header_lines}
use Rattle.rows.proofs.so_far.RowsSoFar.line.Goals as goal

pub returns-clause-value : goal.returns-clause-value
unfolding header_lines
returns-clause-value c = omega arith
