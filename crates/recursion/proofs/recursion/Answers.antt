-- What the tests and the steps left is what the definition leaves, with zeros where a limit is broken.
use mathlib.Core.Path.{sym, ap, ◌∙◌}
use lib.IntN.{pos}
use Prim.Native.Nat.{ℕ}
use lib.ListN.{replicate}
use Rattle.recursion_limits.specs.Tests.{cell_of}
use Rattle.recursion.proofs.Outcomes.{outcome_broken, outcome_done}
use Rattle.recursion.proofs.recursion.Goals as goal

pub returns-then-is_err : goal.returns-then-is_err
returns-then-is_err c =
    let t = c.args.t in
    let o = c.carried_out-done in
    outcome_broken t.horizon t.d.now t.h.now (cell_of c.args.start) _ _ _ _ _ _ o.result (sym c.is_err.ensures.value ∙ c.if-is_err.true) o.ensures
    (c.clear_cells.ensures.0 ∙ ap (λ n. replicate n (pos 0)) o.auto.f) (c.clear_cells.ensures.1 ∙ ap (λ (n : ℕ). replicate n 0) o.auto.r)

pub returns-else-is_err : goal.returns-else-is_err
returns-else-is_err c =
    let t = c.args.t in
    let o = c.carried_out-done in
    outcome_done t.horizon t.d.now t.h.now (cell_of c.args.start) _ _ _ _ o.result (sym c.is_err.ensures.value ∙ c.if-is_err.false) o.ensures
