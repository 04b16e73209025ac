-- `cell_of` meets its contract: the nearest of a number with a sign has that sign, and the nearest of its magnitude.
use mathlib.Core.Path.{◌≡◌, sym, ap, ap₂, ◌∙◌}
use Prim.Native.Nat.{min, ◌*◌, ◌≤◌}
use native.Mathlib.Nat as N
use native.Mathlib.Omega.{arith}
use borrow.Author.Rules.{sfits_of}
use mir.Syntax.{w64}
use mir.Facts.{to_z-of_z}
use Rattle.rounding.specs.Rounding.{near, nearest}
use Rattle.rounding.proofs.Laws.{near_below}
use Rattle.whole.specs.Sign.{most_value, signed}
use Rattle.whole.proofs.Signs.{nearest_signed}
use Rattle.recursion.proofs.steps.cell_of.Goals as goal
use Rattle.recursion.proofs.steps.cell_of.Goals.{After-nearest_over}

-- the rounded magnitude is at most the sum's, which fits
size_is : (c : After-nearest_over) → min c.nearest_over.result.size most_value ≡ near c.difference.result.size c.args.x
size_is c =
    let d = c.difference in
    let x = c.args.x in
    let p = c.requires in
    let m : d.result.size * 1 ≤ d.result.size * x = N.mul-le-mul_left d.result.size p.2 in
    let g = near_below d.result.size x d.result.size p.2 (omega arith) in
    omega (arith, c.nearest_over.ensures.1, d.ensures.1, p.0, p.1)

pub returns : goal.returns
returns c =
    let d = c.difference in
    let a = c.args in
    let n = c.nearest_over in
    to_z-of_z (sfits_of {w = w64} c.as_i64.type_inv)
    ∙ c.as_i64.ensures
    ∙ ap₂ signed n.ensures.0 (size_is (goal.at.returns c).After-nearest_over)
    ∙ sym (nearest_signed d.result.negative d.result.size a.x c.requires.2)
    ∙ ap (λ z. nearest z a.x) d.ensures.0
