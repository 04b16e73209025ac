-- After n turns the row is row n, and the terms of the rows up to n are added.
use mathlib.Core.Path.{◌≡◌}
use mathlib.Core.Bool.{true}
use Prim.Native.Nat.{◌≤◌}
use Rattle.fund.specs.Folding.{single}
use Rattle.fund.specs.Transform.{row as row_of, single_terms}
use Rattle.widths.specs.Lives.{InRange}
use Rattle.widths.specs.AddedTerms.{times}
use Rattle.widths.specs.FilledCells.{Filling}
use Rattle.transform.proofs.terms.add_single.Given as goal

abbrev pub invariant-loop-n : goal.invariant-loop-n
invariant-loop-n l =
    Filling l.horizon l.initial.transform l.initial.h (λ j. times l.p.lives (single_terms l.horizon l.p.life j)) l.order l.n l.transform l.h
    × InRange l.p.life
    × (single l.p.life ≡ true)
    × (l.order ≤ 12)
    × (l.row ≡ row_of l.p.life l.n)
