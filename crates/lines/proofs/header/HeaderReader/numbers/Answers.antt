-- `lines::header::HeaderReader::numbers`: form before range, as in the definition.
use Rattle.std.proofs.Common.{sym, add-one, ◌∙◌, arith}
use lib.Seq.{length-take-le}
use Rattle.lines.proofs.Headers.{step_missing, step_form, step_range, step_next}
use Rattle.lines.proofs.header.HeaderReader.numbers.Goals as goal

pub returns-in_default-clause-step : goal.returns-in_default-clause-step
returns-in_default-clause-step c = rw c.at.ensures (step_missing _ _ _ _ _ _ c.in_default.ensures.line)

pub returns-in_default-spelled-clause-step : goal.returns-in_default-spelled-clause-step
returns-in_default-spelled-clause-step c =
    rw c.at-in_default-spelled.ensures (step_form _ _ _ _ _ _ _ _ c.in-Some.ensures.line _ c.spelled.ensures c.in_default-spelled.is)

pub returns-then-not-all_within-clause-step : goal.returns-then-not-all_within-clause-step
returns-then-not-all_within-clause-step c =
    let few = length-take-le c.args.count c.in-Some-spelled.numbers (omega arith) in
    rw c.at-then-not-all_within.ensures
    (step_range _ _ _ _ _ _ _ _ c.in-Some.ensures.line _ c.spelled.ensures _ c.in-Some-spelled.is (sym (rw few at c.all_within.ensures) ∙ c.if-not-all_within.true))

pub returns-clause-step : goal.returns-clause-step
returns-clause-step c =
    let few = length-take-le c.args.count c.in-Some-spelled.numbers (omega arith) in
    rw add-one (step_next _ _ _ _ _ _ _ _ c.in-Some.ensures.line _ c.spelled.ensures _ c.in-Some-spelled.is (sym (rw few at c.all_within.ensures) ∙ c.if-not-all_within.false))
