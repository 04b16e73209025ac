-- `nearest` meets its contract: the rest of the division tells whether one is added.
use Rattle.std.proofs.Common.{◌%◌, ◌<◌, sym, ap, ◌∙◌, arith}
use native.Mathlib.Nat as N
use Rattle.rounding.specs.Rounding.{near}
use Rattle.rounding.proofs.Laws.{near_by_zero}
use Rattle.rounding.proofs.Rest.{near_rest_low, near_rest_high}
use Rattle.whole.proofs.Quotients.{parts, next_within}
use Rattle.whole.proofs.nearest.Goals as goal
use Rattle.whole.proofs.nearest.Goals.{Else-b-eq0}

below : (c : Else-b-eq0) → c.before.args.a % c.before.args.b < c.before.args.b
below c = N.mod-lt c.before.args.a (omega (arith, c.if-b-eq0.false))

pub returns-then-b-eq0 : goal.returns-then-b-eq0
returns-then-b-eq0 c = sym (ap (near c.before.args.a) c.if-b-eq0.true ∙ near_by_zero c.before.args.a)

pub overflow_sub-b : goal.overflow_sub-b
overflow_sub-b c = omega (arith, below c)

pub returns-then-rest-b : goal.returns-then-rest-b
returns-then-rest-b c =
    let a = c.before.before.args in
    sym (near_rest_low a.a a.b _ _ (parts a.a a.b) (omega (arith, c.if-rest-b.true, below c.before)))

pub overflow_add-result : goal.overflow_add-result
overflow_add-result c =
    let a = c.before.before.args in
    omega (arith, next_within a.a a.b (omega (arith, below c.before)) (omega (arith, c.if-rest-b.false, below c.before)))

pub returns : goal.returns
returns c =
    let a = c.before.before.args in
    sym (near_rest_high a.a a.b _ _ (parts a.a a.b) (omega (arith, c.if-rest-b.false, below c.before)) (below c.before))
