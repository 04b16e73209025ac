-- The rows before this one stand in the table.
use Rattle.std.proofs.Common.{◌≡◌, take}
use Rattle.rows.proofs.rate_table.RateTable.of.Given as goal

abbrev pub invariant-loop-row : goal.invariant-loop-row
invariant-loop-row l = l.table.items ≡ take l.row-index l.rows
