-- `next_bound` meets its contract: c is 0 where lambda is, and otherwise one more than a product that is rounded up.
use mathlib.Core.Path.{sym, ap, ◌∙◌}
use Prim.Native.Nat.{◌+◌}
use native.Mathlib.Omega.{arith}
use Rattle.start.proofs.TermBounds.{next_none, next_some, next_within, product_within}
use Rattle.start.proofs.next_bound.Goals as goal

pub returns-then-lambda-eq0 : goal.returns-then-lambda-eq0
returns-then-lambda-eq0 c =
    let a = c.args in
    sym (next_none a.lambda a.c a.n c.if-lambda-eq0.true)

pub overflow_mul-c : goal.overflow_mul-c
overflow_mul-c c =
    let a = c.args in
    let p = c.requires in
    omega (arith, product_within a.c a.lambda p.0 p.1)

pub returns : goal.returns
returns c =
    let o = c in
    ap (λ x. x + 1) c.up.ensures ∙ sym (next_some o.args.lambda o.args.c o.args.n c.if-lambda-eq0.false)

pub overflow_add-result : goal.overflow_add-result
overflow_add-result c =
    let a = c.args in
    let p = c.requires in
    omega (arith, returns c, next_within a.lambda a.c a.n p.0 p.1 (omega (arith, p)))
