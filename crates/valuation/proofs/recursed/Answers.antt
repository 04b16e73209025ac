-- The recursion's answer is settled; the slices keep their lengths.
use Rattle.valuation.proofs.SettledCells.{answered_for}
use Rattle.valuation.proofs.recursed.Goals as goal

pub returns : goal.returns
returns c =
    let a = c.args in
    let k = c.recursion-done.auto in
    let left = c.recursion-done.new in
    answered_for a.fund a.t c.recursion-done.result a.transform.now a.h.now left.f left.r _ _ _ k.f k.r _ c.settled.ensures
