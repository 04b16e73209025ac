-- `lines::row::row_in`: by the numbers of each spelling in turn.
use Rattle.std.proofs.Common.{ap, ◌∙◌}
use Rattle.fund.specs.Base.{bytes}
use Rattle.lines.specs.Lines.{line_of}
use Rattle.lines.specs.Row.{row_said}
use Rattle.lines.proofs.Said.{rate_said, member_said, end_said, none_said}
use Rattle.lines.proofs.row.row_in.Goals as goal

pub returns-in-Some : goal.returns-in-Some
unfolding bytes
returns-in-Some c = rate_said (line_of c.args.line) c.spelled.ensures _ c.in-Some.is

pub returns-in-Some-spelled : goal.returns-in-Some-spelled
unfolding bytes
returns-in-Some-spelled c = member_said (line_of c.args.line) c.spelled.ensures c.in_default.is c.spelled-2.ensures _ c.in-Some-spelled.is

pub returns-in_err-count : goal.returns-in_err-count
unfolding bytes
returns-in_err-count c =
    ap row_said c.from_residual.ensures
    ∙ none_said (line_of c.args.line) c.spelled.ensures c.in_default.is c.spelled-2.ensures c.in_default-spelled.is c.spelled-3.ensures c.in_err-count.was

pub returns : goal.returns
unfolding bytes
returns c = end_said (line_of c.args.line) c.spelled.ensures c.in_default.is c.spelled-2.ensures c.in_default-spelled.is c.spelled-3.ensures _ c.in_ok-count.was
