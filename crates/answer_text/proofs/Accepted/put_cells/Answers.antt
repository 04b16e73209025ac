-- In a turn, R(x) and the bound before x have limits (bounds).
use Prim.Native.Nat.{◌≤◌, ◌<◌, ◌+◌, ◌*◌, ◌^◌}
use native.Mathlib.Omega.{arith}
use lib.IntN.{pos}
use lib.ListN.{get_or}
use mir.Facts.{to_z-of_z}
use mir.Syntax.{w64}
use mir.Val.{SFits}
use borrow.Author.Rules.{rules}
use Rattle.fund.specs.Base.{sum}
use Rattle.fund.specs.Limits.{most_horizon, most_truncation, most_bound}
use Rattle.fund.specs.Listing.{cell_lines}
use Rattle.writing.proofs.PieceLaws.{puts_none, puts_then}
use Rattle.answer_text.specs.Pieces.{PrintableCells}
use Rattle.answer_text.proofs.Pieces.{bound_step, cells_step, bounded_before, sum_most}
use Rattle.answer_text.proofs.ListingSizes.{cells_size}
use Rattle.answer_text.proofs.Accepted.put_cells.Goals as goal
use Rattle.answer_text.proofs.Accepted.put_cells.Goals.{In-loop-x}

bounds : (c : In-loop-x) → let a = c.args.self.now in (get_or a.r.now c.loop-x.x 0 ≤ most_bound) × (c.loop-x.bound ≤ most_bound * most_horizon + 2 * most_truncation)
bounds c =
    let a = c.args.self.now in
    let g : PrintableCells a.figures.truncation a.f.now a.r.now a.sums.now a.count = search rules in
    let l = c.loop-x in
    (bounded_before _ _ g.bounds l.x c.loop-x-test.true, omega (arith, sum_most a.count a.r.now g.bounds l.x (omega arith)))

pub loop-x-init : goal.loop-x-init
unfolding sum cell_lines
loop-x-init c = (omega arith, puts_none _, omega arith)

pub overflow_add-within : goal.overflow_add-within
overflow_add-within c = omega (arith, bounds (goal.at.overflow_add-within c).In-loop-x)

pub overflow_add-bound : goal.overflow_add-bound
overflow_add-bound c = omega (arith, bounds (goal.at.overflow_add-bound c).In-loop-x)

pub loop-x-preserved : goal.loop-x-preserved
loop-x-preserved c =
    let a = c.args.self.now in
    let l = c.loop-x in
    let i = l.invariant in
    let b = bounds (goal.at.loop-x-preserved c).In-loop-x in
    let fits : SFits w64 (get_or a.f.now l.x (pos 0)) = search rules in
    let sum_fits : SFits w64 (get_or a.sums.now l.x (pos 0)) = search rules in
    let within : get_or a.r.now l.x 0 + 2 * a.figures.truncation < 10 ^ 9 = omega arith in (
      omega (arith, bound_step a.figures.truncation a.r.now l.x),
      rw (cells_step a.figures.truncation a.f.now a.r.now a.sums.now l.x l.bound i.0) (puts_then i.1 (rw (to_z-of_z fits, to_z-of_z sum_fits) at c.put_cell.ensures)),
      cells_size a.figures.truncation a.f.now a.r.now a.sums.now l.x l.bound i.0 i.2 (omega arith) fits within sum_fits (omega arith),
    )
