-- `sheet_cells::number::rate`: the invariant: every k whose quotient x equals lies from lo on and below hi.
use Prim.Native.Nat.{ℕ, ◌-◌, ◌≤◌}
use Rattle.fund.specs.SheetCells.{quotient}
use Rattle.sheet_cells.specs.Ascending as ascending
use Rattle.sheet_cells.proofs.number.rate.Given as goal

abbrev pub invariant-loop-lo : goal.invariant-loop-lo
invariant-loop-lo l = (l.hi ≤ 1000001) × ascending.Within (λ (k : ℕ). quotient k 1000000) 1000000 l.x l.lo l.hi

abbrev pub decreases-loop-lo : goal.decreases-loop-lo
decreases-loop-lo l = l.hi - l.lo
