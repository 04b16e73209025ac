-- The group decides, and the products fit: 65,535 × 10^6 × 1,000, and 65,535 times a thousandth of the weights.
use mathlib.Core.Path.{◌≡◌, ap₂}
use Prim.Native.Nat.{◌+◌, ◌*◌, ◌≤◌}
use native.Mathlib.Nat.{mul-le-mul}
use native.Mathlib.Omega.{arith}
use borrow.Author.Tests.{eq-eqb, ne_eqb}
use Rattle.fund.specs.Transform.{death_weight, disability_weight}
use Rattle.laws.specs.Weights.{most_weight, Products, products, by_thousand, weights_most}
use Rattle.widths.specs.PartBounds.{amount_le, weighted_le}
use Rattle.totals.proofs.figures.mean_part.Goals as goal
use Rattle.totals.proofs.figures.mean_part.Goals.{After-weighed-3, After-weighed-then-m-eq-SINGLE, Start}

-- ---- group 1
amounts : (c : Start) → c.args.m.q * c.args.m.d + c.args.m.i * c.args.m.e ≤ 65535 * 1000000
amounts c = omega (arith, amount_le c.args.m c.requires.0, c.requires.0.rates)

pub weighed-requires : goal.weighed-requires
weighed-requires c = omega (arith, amounts (goal.at.weighed-requires c).Start)

pub weighed-requires-then-m-eq-SINGLE : goal.weighed-requires-then-m-eq-SINGLE
weighed-requires-then-m-eq-SINGLE c = omega (arith, amounts (goal.at.weighed-requires-then-m-eq-SINGLE c).Start)

both : (c : After-weighed-then-m-eq-SINGLE) → let m = c.args.m in c.weighed.result + c.weighed-then-m-eq-SINGLE.result ≡ m.q * m.d + m.i * m.e
both c = ap₂ ◌+◌ c.weighed.ensures c.weighed-then-m-eq-SINGLE.ensures

pub overflow_add-result : goal.overflow_add-result
overflow_add-result c = omega (arith, both c, amounts (goal.at.overflow_add-result c).Start)

pub overflow_mul-result : goal.overflow_mul-result
overflow_mul-result c = rw (both c) (omega (arith, amounts (goal.at.overflow_mul-result c).Start))

pub returns-then-m-eq-SINGLE : goal.returns-then-m-eq-SINGLE
returns-then-m-eq-SINGLE c = rw (eq-eqb _ _ c.if-m-eq-SINGLE.true, both c) (omega arith)

-- ---- group 2
fits : (c : Start) → let a = c.args in Products a.ab a.m.q × Products a.ab a.m.i
fits c = products c.args.ab c.args.m c.requires.1 c.requires.0.rates

weighted : (c : Start) → let a = c.args in death_weight a.ab a.m * a.m.d + disability_weight a.ab a.m * a.m.e ≤ 65535 * most_weight
weighted c = let a = c.args in omega (arith, weighted_le a.m a.ab c.requires.0, weights_most a.ab a.m c.requires.1 c.requires.0.rates)

by_weights : (c : Start) → let a = c.args in
    (a.m.q * a.ab.death * a.m.d + a.m.i * a.ab.disability * a.m.e) * 1000 ≡ death_weight a.ab a.m * a.m.d + disability_weight a.ab a.m * a.m.e
unfolding death_weight disability_weight
by_weights c =
    let a = c.args in
    omega (arith, by_thousand (a.m.q * a.ab.death) a.m.d, by_thousand (a.m.i * a.ab.disability) a.m.e)

pub overflow_mul-m : goal.overflow_mul-m
overflow_mul-m c = omega (arith, fits (goal.at.overflow_mul-m c).Start)

pub weighed-requires-2 : goal.weighed-requires-2
weighed-requires-2 c =
    let s = c in
    let f = fits (goal.at.weighed-requires-2 c).Start in
    omega (arith, mul-le-mul f.0.0 s.requires.0.death, mul-le-mul f.0.1 s.requires.0.death)

pub overflow_mul-m-2 : goal.overflow_mul-m-2
overflow_mul-m-2 c = omega (arith, fits (goal.at.overflow_mul-m-2 c).Start)

pub weighed-requires-3 : goal.weighed-requires-3
weighed-requires-3 c =
    let s = c in
    let f = fits (goal.at.weighed-requires-3 c).Start in
    omega (arith, mul-le-mul f.1.0 s.requires.0.disability, mul-le-mul f.1.1 s.requires.0.disability)

both_weighed : (c : After-weighed-3) → let a = c.args in
    c.weighed-2.result + c.weighed-3.result ≡ a.m.q * a.ab.death * a.m.d + a.m.i * a.ab.disability * a.m.e
both_weighed c = ap₂ ◌+◌ c.weighed-2.ensures c.weighed-3.ensures

pub overflow_add-result-2 : goal.overflow_add-result-2
overflow_add-result-2 c = let s = c in omega (arith, both_weighed c, by_weights (goal.at.overflow_add-result-2 c).Start, weighted (goal.at.overflow_add-result-2 c).Start)

pub returns : goal.returns
returns c = rw (ne_eqb _ _ c.if-m-eq-SINGLE.false, both_weighed c) (by_weights (goal.at.returns c).Start)
