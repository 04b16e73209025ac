-- A line adds at most 10^12 for each of 1,000 lives.
use Prim.Native.Nat.{◌*◌, ◌≤◌}
use native.Mathlib.Nat.{mul-le-mul}
use native.Mathlib.Omega.{arith}
use Rattle.fund.specs.Limits.{most_lives}
use Rattle.widths.specs.PartBounds.{single_le}
use Rattle.totals.proofs.figures.LoadFigureFigure.with_line.Goals as goal
use Rattle.totals.proofs.figures.LoadFigureFigure.with_line.Goals.{After-single_part}

line : (c : After-single_part) → c.args.p.lives * c.single_part.result ≤ most_lives * 1000000000000
line c =
    let p = c.requires.0 in
    let w : c.single_part.result ≤ 1000000000000 = omega (arith, c.single_part.ensures, single_le c.args.p.life p.life_in) in
    mul-le-mul p.lives_most w

pub overflow_mul-line : goal.overflow_mul-line
overflow_mul-line c = omega (arith, line (goal.at.overflow_mul-line c).After-single_part)

pub overflow_add-sum : goal.overflow_add-sum
overflow_add-sum c = omega (arith, line (goal.at.overflow_add-sum c).After-single_part, c.requires.1)
