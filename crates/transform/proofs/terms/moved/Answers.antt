-- The cell with the amount is the number itself: sizes up to 2^62 fit.
use Rattle.widths.specs.Signed.{shifted_up, shifted_down}
use Rattle.transform.proofs.terms.moved.Goals as goal

pub overflow_sub-result : goal.overflow_sub-result
overflow_sub-result c = let s = c in (shifted_down s.args.cell s.args.amount s.requires).fits

pub returns-then-minus : goal.returns-then-minus
returns-then-minus c =
    let s = c in
    rw (c.if-minus.true, (shifted_down s.args.cell s.args.amount s.requires).is)

pub overflow_add-result : goal.overflow_add-result
overflow_add-result c = let s = c in (shifted_up s.args.cell s.args.amount s.requires).fits

pub returns : goal.returns
returns c =
    let s = c in
    rw (c.if-minus.false, (shifted_up s.args.cell s.args.amount s.requires).is)
