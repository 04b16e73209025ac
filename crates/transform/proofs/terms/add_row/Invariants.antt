-- After l turns the terms of the columns below l are added.
use mathlib.Core.Path.{◌≡◌}
use Prim.Native.Nat.{◌+◌}
use Rattle.fund.specs.Transform.{row as row_of, row_terms}
use Rattle.widths.specs.AddedTerms.{SingleRow, times}
use Rattle.widths.specs.FilledCells.{Filling}
use Rattle.transform.proofs.terms.add_row.Given as goal

abbrev pub invariant-loop-l : goal.invariant-loop-l
invariant-loop-l l =
    Filling l.horizon l.initial.transform l.initial.h (λ j. times l.p.lives (row_terms l.horizon l.p.life l.n j)) (l.n + 1) l.l l.transform l.h × SingleRow l.p.life l.n × (l.row ≡ row_of l.p.life l.n)
