-- `lines::row::row_at`: the line at the place, and what it says.
use Rattle.std.proofs.Common.{sym}
use Rattle.lines.proofs.Said.{missing, other, there}
use Rattle.lines.proofs.row.row_at.Goals as goal

pub returns-in_err-line : goal.returns-in_err-line
returns-in_err-line c = rw c.from_residual.ensures (missing c.args.file.now c.args.at c.in_err-line.ensures.line)

pub returns-in_err-row : goal.returns-in_err-row
returns-in_err-row c = rw c.from_residual-in_err-row.ensures (other _ _ _ _ c.in_ok-line.ensures.line (sym c.in_err-row.ensures))

pub returns : goal.returns
returns c = there _ _ _ _ c.in_ok-line.ensures.line _ (sym c.in_ok-row.ensures)
