-- A line adds at most 5 × 10^12 for each of 1,000 lives.
use Prim.Native.Nat.{◌*◌, ◌≤◌}
use native.Mathlib.Nat.{mul-le-mul}
use native.Mathlib.Omega.{arith}
use Rattle.laws.specs.Weights.{most_weight}
use Rattle.fund.specs.Limits.{most_lives}
use Rattle.widths.specs.PartBounds.{lambda_le}
use Rattle.totals.proofs.figures.LambdaFigureFigure.with_line.Goals as goal
use Rattle.totals.proofs.figures.LambdaFigureFigure.with_line.Goals.{After-lambda_part}

line : (c : After-lambda_part) → c.args.p.lives * c.lambda_part.result ≤ most_lives * most_weight
line c =
    let p = c.requires.0 in
    let w : c.lambda_part.result ≤ most_weight = omega (arith, c.lambda_part.ensures, lambda_le c.args.p.life c.args.self.now.frequency p.0.life_in p.1) in
    mul-le-mul p.0.lives_most w

pub overflow_mul-line : goal.overflow_mul-line
overflow_mul-line c = omega (arith, line (goal.at.overflow_mul-line c).After-lambda_part)

pub overflow_add-sum : goal.overflow_add-sum
overflow_add-sum c = omega (arith, line (goal.at.overflow_add-sum c).After-lambda_part, c.requires.1)
