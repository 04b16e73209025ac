-- w is at most 10^12, and both products fit; the divisor is not 0, as q + i is below a half.
use borrow.Author.Tests.{eq-eqb, ne_eqb}
use Prim.Native.Nat.{◌+◌, ◌-◌, ◌*◌, ◌≤◌, ◌<◌}
use native.Mathlib.Nat.{mul-le-mul}
use native.Mathlib.Numerals.{add-one}
use native.Mathlib.Omega.{arith}
use Rattle.fund.specs.Folding.{claim, stay}
use Rattle.fund.specs.Transform.{unit}
use Rattle.widths.specs.PartBounds.{w_le}
use Rattle.totals.proofs.figures.truncation_part.Goals as goal
use Rattle.totals.proofs.figures.truncation_part.Goals.{After-struct_known-then-m-eq-SINGLE-1, After-weight}

limited : (c : After-struct_known-then-m-eq-SINGLE-1) → claim c.args.m < 500000
limited c = c.requires.0.limited (eq-eqb _ _ c.if-m-eq-SINGLE.true)

pub weight-requires : goal.weight-requires
weight-requires c = limited c

product : (c : After-weight) → c.weight.result * stay c.args.m ≤ 1000000000000 * 1000000
unfolding unit
product c =
    let m = c.args.m in
    let v : c.weight.result ≤ 1000000000000 = rw c.weight.ensures (w_le m (limited c.before) _) in
    let s : stay m ≤ 1000000 = omega arith in
    mul-le-mul v s

divisor : (c : After-weight) → let a = c.args in
    (1 * 1 ≤ (stay a.m - claim a.m) * (a.r + 1)) × ((stay a.m - claim a.m) * (a.r + 1) ≤ 1000000 * 13)
divisor c =
    let a = c.args in
    let h = limited c.before in
    let x : 1 ≤ stay a.m - claim a.m = omega arith in
    let y : stay a.m - claim a.m ≤ 1000000 = omega arith in
    let u : 1 ≤ a.r + 1 = omega arith in
    let v : a.r + 1 ≤ 13 = omega arith in
    (mul-le-mul x u, mul-le-mul y v)

pub overflow_mul-weight : goal.overflow_mul-weight
overflow_mul-weight c = omega (arith, product c)

pub overflow_sub-stay-then-m-eq-SINGLE : goal.overflow_sub-stay-then-m-eq-SINGLE
overflow_sub-stay-then-m-eq-SINGLE c = omega (arith, limited (goal.at.overflow_sub-stay-then-m-eq-SINGLE c).After-struct_known-then-m-eq-SINGLE-1)

pub overflow_mul-stay : goal.overflow_mul-stay
overflow_mul-stay c = omega (arith, (divisor c).1)

pub returns-then-m-eq-SINGLE : goal.returns-then-m-eq-SINGLE
returns-then-m-eq-SINGLE c =
    let a = c.args in
    rw (eq-eqb _ _ c.if-m-eq-SINGLE.true, ← add-one a.r, ← c.weight.ensures) c.up.ensures

pub returns : goal.returns
returns c = rw (ne_eqb _ _ c.if-m-eq-SINGLE.false)
