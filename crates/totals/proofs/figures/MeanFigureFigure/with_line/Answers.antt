-- A part is at most 65,535 × 6 × 10^12 units, so 1,000 of them fit a word in thousands of units; a cap in thousands is one in units.
use mathlib.Core.Path.{ap, ◌∙◌}
use Prim.Native.Nat.{◌*◌}
use native.Mathlib.Nat.{mul_assoc, mul-le-mul_right}
use native.Mathlib.Omega.{arith}
use Rattle.widths.specs.PartBounds.{mean_le, lambda_le, single_le}
use Rattle.totals.proofs.figures.MeanFigureFigure.with_line.Goals as goal
use Rattle.totals.proofs.figures.MeanFigureFigure.with_line.Goals.{After-mean_part}

pub overflow_mul-p : goal.overflow_mul-p
overflow_mul-p c =
    let p = c.requires.0 in
    let m = c.args.p.life in
    let ab = c.args.self.now.frequency in
    omega (
      arith,
      c.mean_part.ensures,
      mul-le-mul_right c.mean_part.result p.0.lives_most,
      mean_le m ab p.0.life_in,
      lambda_le m ab p.0.life_in p.1,
      single_le m p.0.life_in,
    )

pub returns : goal.returns
returns c =
    let n = c.args.p.lives in
    let in_units = mul_assoc n c.mean_part.result 1000 ∙ ap (λ k. n * k) c.mean_part.ensures in
    omega (arith, in_units)
