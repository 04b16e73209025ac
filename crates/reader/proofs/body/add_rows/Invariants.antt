-- `reader::body::add_rows`: the reading is that from the place on, behind the rows so far.
use Rattle.std.proofs.Common.{◌≡◌, ◌-◌, [], length}
use Rattle.fund.specs.declared.Fund.{Fund}
use Rattle.reader.specs.Rows.{rows_from}
use Rattle.reader.proofs.body.add_rows.Given as goal

abbrev pub invariant-loop-row : goal.invariant-loop-row
invariant-loop-row l = (fund : Fund) → rows_from fund l.file l.start [] [] ≡ rows_from fund l.file l.at l.rows.rates.items l.rows.members.items

abbrev pub decreases-loop-row : goal.decreases-loop-row
decreases-loop-row l = length l.file - l.at
