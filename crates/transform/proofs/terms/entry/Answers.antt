-- The sum before the division is below 5×10^17, and both products with it.
use mathlib.Core.Path.{sym, ◌∙◌, ap}
use Prim.Native.Nat.{ℕ}
use native.Mathlib.Omega.{arith}
use Rattle.rounding.specs.Rounding.{near}
use Rattle.rounding.proofs.Laws.{near_zero}
use Rattle.fund.specs.Folding.{stay}
use Rattle.transform.proofs.terms.entry.Goals as goal

pub overflow_mul-sum : goal.overflow_mul-sum
overflow_mul-sum c = omega (arith, c.requires.1)

pub overflow_mul-sum-2 : goal.overflow_mul-sum-2
overflow_mul-sum-2 c = omega (arith, c.requires.1)

pub overflow_add-sum : goal.overflow_add-sum
overflow_add-sum c = omega (arith, c.requires.1)

pub returns-then-sum-eq0 : goal.returns-then-sum-eq0
returns-then-sum-eq0 c =
    let m = c.args.m in
    sym (ap (λ (k : ℕ). near k (stay m)) c.if-sum-eq0.true ∙ near_zero (stay m) (omega (arith, c.requires.0)))
