-- The key, and the five figures of a cell with the byte behind each.
use mir.Facts.{to_z-of_z}
use Rattle.fund.specs.Base.{bytes}
use Rattle.writing.proofs.PieceLaws.{puts_then}
use Rattle.answer_text.proofs.Pieces.{cell_pieces}
use Rattle.answer_text.proofs.put_cell.Goals as goal

pub returns : goal.returns
unfolding bytes
returns c =
    rw cell_pieces
    (puts_then c.key.ensures (puts_then c.figure.ensures
    (puts_then (rw (to_z-of_z c.ranges.f) at c.figure-2.ensures) (puts_then c.figure-3.ensures
    (puts_then (rw (to_z-of_z c.ranges.sum) at c.figure-4.ensures) c.figure-5.ensures)))))
