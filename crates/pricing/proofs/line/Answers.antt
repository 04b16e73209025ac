-- The bytes from start to end of a refusal; an answer that is no refusal has none.
use Rattle.std.proofs.Common.{sym, ◌∙◌, ap}
use Rattle.pricing.specs.Priced.{line_of}
use Rattle.pricing.proofs.ToldAnswer.{no_line}
use Rattle.pricing.proofs.line.Goals as goal

pub returns-in-Ok : goal.returns-in-Ok
returns-in-Ok c = sym (no_line c.args.file.now) ∙ sym (ap (line_of c.args.file.now) c.in-Ok.is)

pub returns-in-Err : goal.returns-in-Err
returns-in-Err c = c.line_between.ensures ∙ ap (line_of c.args.file.now) (sym c.in-Err.is)
