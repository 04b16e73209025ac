-- The sign where the number is below 0, and the magnitude with its point.
use mir.Facts.{to_z-of_z}
use mir.Syntax.{w64}
use mir.Val.{SFits}
use borrow.Author.Rules.{rules}
use Rattle.writing.proofs.PieceLaws.{puts_as, puts_then}
use Rattle.writing.proofs.PointedDigits.{pointed_below, pointed_above}
use Rattle.writing.proofs.put_signed_pointed.Goals as goal
use Rattle.writing.proofs.put_signed_pointed.Goals.{then-n-lt0, else-n-lt0}

pub returns : goal.returns
returns c =
    let z = c.args.n in
    let fits : SFits w64 z = search rules in
    let same = to_z-of_z fits in
    let p = rw (c.unsigned_abs.ensures.value, same) at c.put_pointed.ensures in
    elim c.if-n-lt0.branch [
      | then-n-lt0 w ↦ puts_as _ (pointed_below _ z (rw same at w.if-n-lt0.true)) (puts_then w.byte.ensures (rw w.text-is at p))
      | else-n-lt0 w ↦ puts_as _ (pointed_above _ z (rw same at w.if-n-lt0.false)) (rw w.text-is at p)
    ]
