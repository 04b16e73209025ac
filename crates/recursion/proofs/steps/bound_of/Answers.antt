-- One more than the quotient fits a word.
use Prim.Native.Nat.{◌*◌, ◌≤◌}
use native.Mathlib.Nat as N
use native.Mathlib.Omega.{arith}
use Rattle.rounding.proofs.Laws.{up_least}
use Rattle.recursion.proofs.steps.bound_of.Goals as goal

pub overflow_add-result : goal.overflow_add-result
overflow_add-result c =
    let a = c.args in
    let p = c.requires in
    let m : a.s.bound * 1 ≤ a.s.bound * a.x = N.mul-le-mul_left a.s.bound p.1 in
    omega (arith, c.up.ensures, up_least a.s.bound a.x a.s.bound p.1 (omega arith), p.0)
