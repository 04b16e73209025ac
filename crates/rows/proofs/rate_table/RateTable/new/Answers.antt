-- `rows::rate_table::RateTable::new`: all places are blank.
use Rattle.std.proofs.Common.{refl, arith}
use Rattle.fund.specs.Answer.{lent}
use Rattle.rows.proofs.rate_table.RateTable.new.Goals as goal

pub invariant_of-result : goal.invariant_of-result
unfolding lent
invariant_of-result c = (omega arith, refl, refl)
