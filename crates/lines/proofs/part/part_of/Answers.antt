-- `lines::part::part_of`: the line at the place of a refusal that names one.
use Rattle.std.proofs.Common.{sym}
use Rattle.lines.proofs.Parts.{spans_accepted, spans_line, spans_no_line}
use Rattle.lines.proofs.part.part_of.Goals as goal

pub returns-then-names_line : goal.returns-then-names_line
returns-then-names_line c = spans_line c.args.file.now c.args.verdict _ c.in-Err.is (sym c.if-names_line.ensures) c.line_at.ensures

pub returns-else-names_line : goal.returns-else-names_line
returns-else-names_line c = spans_no_line c.args.file.now c.args.verdict _ c.in-Err.is (sym c.if-names_line.ensures)

pub returns-in_default : goal.returns-in_default
returns-in_default c = spans_accepted c.args.file.now c.args.verdict c.in_default.is
