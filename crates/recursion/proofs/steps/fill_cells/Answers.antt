-- `fill_cells` meets its contract. The loop's invariant: the slices are filled up to `last`, and as they were beyond; the measure
-- is how many cells are left.
use mathlib.Core.Path.{◌≡◌, ap, subst, ◌∙◌}
use Prim.Native.Nat.{suc, ◌+◌, ◌≤◌}
use native.Mathlib.Numerals.{add-one}
use native.Mathlib.Omega.{arith}
use borrow.Author.Rules.{sfits_of}
use lib.IntN.{nat_abs}
use mir.Syntax.{w64}
use mir.Val.{to_z, of_z}
use mir.Facts.{to_z-of_z}
use Rattle.rounding.specs.Rounding.{nearest, up}
use Rattle.whole.specs.Sums.{sum_of}
use Rattle.recursion_limits.specs.Limits.{CellFits}
use Rattle.recursion.specs.Slices.{cell_of}
use Rattle.recursion.specs.Steps.{most_part_sum, CellsFilled}
use Rattle.recursion.proofs.SumsTo.{sums_fit}
use Rattle.recursion.proofs.CellsFilled.{filled_first, filled_known, next_f, next_R, filled_more}
use Rattle.recursion.proofs.steps.fill_cells.Goals as goal
use Rattle.recursion.proofs.steps.fill_cells.Goals.{After-bound_of-bound, After-cell_of-cell, After-sums-s}

pub loop-last-init : goal.loop-last-init
loop-last-init c =
    let s = c in
    let a = s.args in
    filled_first a.t.horizon a.t.d.now a.t.h.now a.f.now a.r.now (omega arith) (omega arith) s.requires.horizon_in_bounds.2

pub sums-s-requires : goal.sums-s-requires
sums-s-requires c =
    let s = c in
    let a = s.args in
    let l = c.loop-last in record { transform_fits = s.requires.transform_fits; cells_fit = (filled_known a.t.horizon a.t.d.now a.t.h.now a.f.now a.r.now l.f l.r l.last l.invariant (omega arith) (omega arith), omega arith); places_of = s.requires.places_of }

-- the sums for the next cell fit
fit : (c : After-sums-s) →
    (c.sums-s.result.plus ≤ most_part_sum) × (c.sums-s.result.minus ≤ most_part_sum) × (c.sums-s.result.bound ≤ most_part_sum)
fit c =
    let s = c in
    let a = s.args in
    let l = c.loop-last in
    sums_fit a.t.d.now a.t.h.now l.f l.r l.last a.t.horizon (suc l.last) c.sums-s.result s.requires.transform_fits (omega arith) c.sums-s.ensures

pub bound_of-bound-requires : goal.bound_of-bound-requires
bound_of-bound-requires c =
    ((fit c).2, omega arith)

-- R and f of the next cell
bound_is : (c : After-bound_of-bound) → c.bound_of-bound.result ≡ (cell_of c.args.t.horizon c.args.t.d.now c.args.t.h.now c.args.f.now c.args.r.now (suc c.loop-last.last)).R
bound_is c =
    let a = c.args in
    let l = c.loop-last in
    let s = c.sums-s in
    c.bound_of-bound.ensures
    ∙ ap (λ x. up s.result.bound x + 1) (add-one l.last)
    ∙ next_R a.t.horizon a.t.d.now a.t.h.now a.f.now a.r.now l.f l.r l.last l.invariant s.result (omega arith) s.ensures

cell_is : (c : After-cell_of-cell) → to_z w64 (of_z w64 c.cell_of-cell.result) ≡ (cell_of c.args.t.horizon c.args.t.d.now c.args.t.h.now c.args.f.now c.args.r.now (suc c.loop-last.last)).f
cell_is c =
    let a = c.args in
    let l = c.loop-last in
    let s = c.sums-s in
    to_z-of_z (sfits_of {w = w64} c.cell_of-cell.type_inv)
    ∙ c.cell_of-cell.ensures
    ∙ ap (λ x. nearest (sum_of s.result) x) (add-one l.last)
    ∙ next_f a.t.horizon a.t.d.now a.t.h.now a.f.now a.r.now l.f l.r l.last l.invariant s.result (omega arith) s.ensures

pub returns-then-bound-gt-MOST_BOUND : goal.returns-then-bound-gt-MOST_BOUND
returns-then-bound-gt-MOST_BOUND c =
    let l = c.loop-last in
    rw add-one
    (record {
      within = omega arith;
      fit = λ y g. l.invariant.fit y (omega arith);
      wide = omega (arith, bound_is (goal.at.returns-then-bound-gt-MOST_BOUND c).After-bound_of-bound);
    })

pub cell_of-cell-requires : goal.cell_of-cell-requires
cell_of-cell-requires c =
    let fits = fit (goal.at.cell_of-cell-requires c).After-sums-s in
    (fits.0, fits.1, omega arith)

pub returns-then-unsigned_abs-gt-MOST_CELL : goal.returns-then-unsigned_abs-gt-MOST_CELL
returns-then-unsigned_abs-gt-MOST_CELL c =
    let l = c.loop-last in
    rw add-one
    (record {
      within = omega arith;
      fit = λ y g. l.invariant.fit y (omega arith);
      narrow = omega (arith, bound_is (goal.at.returns-then-unsigned_abs-gt-MOST_CELL c).After-bound_of-bound);
      large = omega (arith, c.unsigned_abs.ensures.value, ap nat_abs (cell_is (goal.at.returns-then-unsigned_abs-gt-MOST_CELL c).After-cell_of-cell));
    })

pub loop-last-preserved : goal.loop-last-preserved
loop-last-preserved c =
    let turn = c in
    let start = turn in
    let a = start.args in
    let l = c.loop-last in
    let R_is = bound_is (goal.at.loop-last-preserved c).After-bound_of-bound in
    let limited : CellFits (cell_of c.args.t.horizon c.args.t.d.now c.args.t.h.now c.args.f.now c.args.r.now (suc l.last)) =
    record { narrow = omega (arith, R_is); level = omega (arith, c.unsigned_abs.ensures.value, ap nat_abs (cell_is (goal.at.loop-last-preserved c).After-cell_of-cell)) } in
    rw add-one
    (filled_more a.t.horizon a.t.d.now a.t.h.now a.f.now a.r.now l.f l.r l.last l.invariant
    (to_z w64 (of_z w64 c.cell_of-cell.result)) c.bound_of-bound.result
    (omega arith) (omega arith) (cell_is (goal.at.loop-last-preserved c).After-cell_of-cell) R_is limited)

pub returns : goal.returns
returns c =
    let s = c in
    let a = s.args in
    let l = c.loop-last in
    let e : l.last ≡ a.t.horizon = omega arith in
    subst (λ n. CellsFilled n (cell_of a.t.horizon a.t.d.now a.t.h.now a.f.now a.r.now) a.f.now l.f a.r.now l.r) e l.invariant
