-- `next_term` meets its contract: nothing is rounded to nothing.
use mathlib.Core.Path.{sym, ap, ◌∙◌}
use Prim.Native.Nat.{ℕ, ◌*◌, ◌^◌}
use native.Mathlib.Nat as N
use native.Mathlib.Omega.{arith}
use Rattle.rounding.specs.Rounding.{near}
use Rattle.rounding.proofs.Laws.{near_zero}
use Rattle.rounding.proofs.Word.{near_rounds, per_units_is}
use Rattle.start.proofs.next_term.Goals as goal

pub returns-then-t-eq0 : goal.returns-then-t-eq0
returns-then-t-eq0 c =
    let a = c.args in
    sym (ap (λ (k : ℕ). near (k * a.lambda) (a.n * 10 ^ 12)) c.if-t-eq0.true ∙ ap (λ (k : ℕ). near k (a.n * 10 ^ 12)) (N.zero-mul a.lambda)
    ∙ near_zero (a.n * 10 ^ 12) (omega (arith, c.requires.2)))

pub returns : goal.returns
returns c =
    let a = c.args in
    let p = c.requires in
    c.nearest_per_units.ensures ∙ per_units_is near_rounds a.t a.lambda (omega (arith, p.0)) a.n (omega (arith, p.1))
