-- The columns before l are those of row n + 1, and zeros stand from there; the number on the left is that of row n.
use mathlib.Core.Path.{◌≡◌}
use Prim.Native.Nat.{◌+◌, ◌<◌}
use lib.ListN.{length}
use Rattle.fund.specs.Limits.{half_rate, most_order}
use Rattle.fund.specs.Folding.{claim}
use Rattle.fund.specs.Transform.{row as row_of}
use Rattle.laws.specs.Triangle.{left as left_of}
use Rattle.widths.specs.Triangle.{row_up_to}
use Rattle.transform.proofs.terms.next_row.Given as goal

abbrev pub invariant-loop-l : goal.invariant-loop-l
invariant-loop-l l =
    (claim l.m < half_rate)
    × (l.n < most_order)
    × (l.row ≡ row_of l.m l.n)
    × (length l.out ≡ 13)
    × (l.left ≡ left_of l.m l.n l.l)
    × (l.out ≡ row_up_to l.m (l.n + 1) l.l)
