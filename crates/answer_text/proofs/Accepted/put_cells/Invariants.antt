-- `bound` is the bound before x, and the lines of the cells before x are put, which have at most `most_cell_line` bytes each.
use mathlib.Core.Path.{◌≡◌}
use Prim.Native.Nat.{◌≤◌, ◌*◌}
use lib.ListN.{length}
use Rattle.fund.specs.Listing.{cell_lines}
use Rattle.writing.specs.Writing.{Puts}
use Rattle.answer_text.specs.Shown.{most_cell_line}
use Rattle.answer_text.proofs.Pieces.{bound_before}
use Rattle.answer_text.proofs.Accepted.put_cells.Given as goal

abbrev pub invariant-loop-x : goal.invariant-loop-x
invariant-loop-x l =
    let a = l.self in
    (l.bound ≡ bound_before a.figures.truncation a.r.now l.x)
    × Puts l.initial.text (cell_lines a.figures.truncation a.f.now a.r.now a.sums.now 0 l.x) l.text
    × (length (cell_lines a.figures.truncation a.f.now a.r.now a.sums.now 0 l.x) ≤ most_cell_line * l.x)
