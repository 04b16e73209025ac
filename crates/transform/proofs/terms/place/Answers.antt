-- The products are at most 65,535 × 12.
use Prim.Native.Nat.{◌-◌, ◌*◌, ◌≤◌}
use native.Mathlib.Nat.{mul-le-mul}
use native.Mathlib.Omega.{arith}
use Rattle.transform.proofs.terms.place.Goals as goal
use Rattle.transform.proofs.terms.place.Goals.{Start}

deaths : (c : Start) → c.args.m.d * c.args.l ≤ 65535 * 12
deaths c = let h : c.args.l ≤ 12 = omega arith in mul-le-mul c.requires.0.death h

disabilities : (c : Start) → c.args.m.e * (c.args.n - c.args.l) ≤ 65535 * 12
disabilities c = let h : c.args.n - c.args.l ≤ 12 = omega arith in mul-le-mul c.requires.0.disability h

pub overflow_mul-result : goal.overflow_mul-result
overflow_mul-result c = omega (arith, deaths (goal.at.overflow_mul-result c).Start)

pub overflow_mul-result-2 : goal.overflow_mul-result-2
overflow_mul-result-2 c = omega (arith, disabilities (goal.at.overflow_mul-result-2 c).Start)

pub overflow_add-result : goal.overflow_add-result
overflow_add-result c = omega (arith, deaths (goal.at.overflow_add-result c).Start, disabilities (goal.at.overflow_add-result c).Start)
