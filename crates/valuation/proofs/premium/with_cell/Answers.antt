-- `with_cell` meets its contract, by the sign of f. The products fit, since the weight, f and R are bounded.
use mathlib.Core.Path.{◌≡◌, ap}
use Prim.Native.Nat.{◌*◌, ◌≤◌}
use native.Mathlib.Nat.{mul-le-mul}
use native.Mathlib.Omega.{arith}
use lib.IntN.{nat_abs}
use mir.Facts.{to_z-of_z}
use Rattle.std.proofs.Common.{rules}
use Rattle.fund.specs.Limits.{most_deductible, most_bound}
use Rattle.whole.specs.Sums.{PartFits}
use Rattle.whole.proofs.Signs.{with_part_is}
use Rattle.recursion_limits.specs.Limits.{most_cell}
use Rattle.valuation.proofs.WeighedCells.{weighed}
use Rattle.valuation.proofs.premium.with_cell.Goals as goal

pub returns : goal.returns
returns c =
    let a = c.args in
    let p = c.requires.plus_bound in
    let q = c.requires.weight_le_most_deductible in
    let size : c.unsigned_abs.result ≡ nat_abs a.f = search rules in
    let part : a.weight * c.unsigned_abs.result ≤ most_deductible * most_cell = rw size (mul-le-mul q.0 q.1) in
    let bound : a.weight * a.r ≤ most_deductible * most_bound = mul-le-mul q.0 q.2 in
    let fits : PartFits a.s (a.weight * c.unsigned_abs.result) (a.weight * a.r) =
    record { plus_fits = omega (arith, part, p.0); minus_fits = omega (arith, part, p.1); bound_fits = omega (arith, bound, p.2) } in
    weighed a.s c.with_part.result a.weight (record { f = a.f; R = a.r }) (a.weight * c.unsigned_abs.result) (ap (λ m. a.weight * m) size)
    (rw (c.with_part.ensures, to_z-of_z c.ranges.f) (with_part_is a.s _ _ _ fits))
