-- The product is at most 10^12 × 500,000.
use Prim.Native.Nat.{◌*◌, ◌≤◌}
use native.Mathlib.Nat.{mul-le-mul, le_of_lt}
use native.Mathlib.Omega.{arith}
use Rattle.fund.specs.Folding.{claim}
use Rattle.fund.specs.Transform.{unit}
use Rattle.totals.proofs.figures.next_weight.Goals as goal
use Rattle.totals.proofs.figures.next_weight.Goals.{Start}

product : (c : Start) → c.args.last * claim c.args.m ≤ 1000000000000 * 500000
unfolding unit
product c = mul-le-mul c.requires.1 (le_of_lt c.requires.0)

pub overflow_mul-last : goal.overflow_mul-last
overflow_mul-last c = omega (arith, product (goal.at.overflow_mul-last c).Start)

pub returns : goal.returns
returns c = c.up.ensures
