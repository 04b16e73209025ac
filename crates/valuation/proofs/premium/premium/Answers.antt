-- `premium` meets its contract: the sums over the cells below the deductible, and one difference of all that is added and all that
-- is subtracted.
use mathlib.Core.Path.{◌≡◌, ap, ◌∙◌}
use Prim.Native.Nat.{min, ◌*◌, ◌≤◌}
use native.Mathlib.Nat.{mul-le-mul}
use native.Mathlib.Omega.{arith}
use mir.Syntax.{w64}
use mir.Facts.{to_z-of_z}
use Rattle.fund.specs.Limits.{most_deductible, most_truncation}
use Rattle.whole.specs.Sign.{most_value, signed}
use Rattle.valuation.proofs.WeighedCells.{priced}
use borrow.Author.Rules.{sfits_of}
use Rattle.valuation.proofs.premium.premium.Goals as goal
use Rattle.valuation.proofs.premium.premium.Goals.{After-difference-excess, Start}

-- twice the deductible, times the truncation figure
twice : (c : Start) → 2 * c.args.deductible * c.args.truncation ≤ 2 * most_deductible * most_truncation
twice c = let h : 2 * c.args.deductible ≤ 2 * most_deductible = omega (arith, c.requires.cells.few) in mul-le-mul h c.requires.mean_le_most_mean.1

pub overflow_mul-result-2 : goal.overflow_mul-result-2
overflow_mul-result-2 c = let s = c in omega (arith, twice (goal.at.overflow_mul-result-2 c).Start)

pub overflow_add-result : goal.overflow_add-result
overflow_add-result c =
    let s = c in
    omega (arith, twice (goal.at.overflow_add-result c).Start, c.below-s.ensures.bound_within, s.requires.cells.few)

-- the excess fits
size_is : (c : After-difference-excess) → min c.difference-excess.result.size most_value ≡ c.difference-excess.result.size
size_is c =
    let s = c in
    let b = c.below-s.ensures in
    omega (arith, c.difference-excess.ensures.1, b.plus_within, b.minus_within, s.requires.cells.levels_within, s.requires.cells.few, s.requires.mean_le_most_mean.0)

pub returns : goal.returns
returns c =
    let a = c.args in
    let sums = c.below-s in
    priced a.deductible a.f.now a.r.now a.mean a.truncation sums.result _ sums.ensures
    (to_z-of_z (sfits_of {w = w64} c.as_i64.type_inv) ∙ c.as_i64.ensures ∙ ap (signed c.difference-excess.result.negative) (size_is (goal.at.returns c).After-difference-excess) ∙ c.difference-excess.ensures.0)
