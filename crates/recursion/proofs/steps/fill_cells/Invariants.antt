-- `fill_cells` meets its contract. The loop's invariant: the slices are filled up to `last`, and as they were beyond.
use Rattle.recursion.specs.Slices.{cell_of}
use Rattle.recursion.specs.Steps.{CellsFilled}
use Rattle.recursion.proofs.steps.fill_cells.Given as goal

abbrev pub invariant-loop-last : goal.invariant-loop-last
invariant-loop-last l = CellsFilled l.last (cell_of l.t.horizon l.t.d.now l.t.h.now l.initial.f l.initial.r) l.initial.f l.f l.initial.r l.r
