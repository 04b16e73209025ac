-- A limit that is broken is the answer; else the steps are.
use mathlib.Core.Path.{◌≡◌}
use Rattle.std.proofs.Common.{rules, Err}
use Rattle.recursion_limits.specs.Tests.{cell_of}
use Rattle.recursion.proofs.Outcomes.{outcome_tested, outcome_steps}
use Rattle.recursion.proofs.carried_out.Goals as goal

pub returns-in_err-tested : goal.returns-in_err-tested
returns-in_err-tested c =
    let t = c.args.t in
    let e : c.from_residual.result ≡ Err c.in_err-tested.field-0.0 = search rules in
    rw e (outcome_tested t.horizon t.d.now t.h.now (cell_of c.args.start) _ _ c.args.f.now c.args.r.now _ c.in_err-tested.ensures)

pub returns : goal.returns
returns c =
    let t = c.args.t in
    outcome_steps t.horizon t.d.now t.h.now (cell_of c.args.start) _ _ c.in_ok-tested.ensures _ _ c.all_steps.result c.all_steps.ensures
