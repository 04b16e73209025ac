-- After k steps the number is w(k), which is at most 10^12.
use Rattle.widths.specs.PartBounds.{w_first, w_le, w_next}
use Rattle.totals.proofs.figures.weight.Goals as goal

pub loop-k-init : goal.loop-k-init
loop-k-init c = (c.requires, w_first _)

pub next_weight-last-requires : goal.next_weight-last-requires
next_weight-last-requires c = let v = c.loop-k.invariant in (v.0, rw v.1 (w_le _ v.0 _))

pub loop-k-preserved : goal.loop-k-preserved
loop-k-preserved c = let v = c.loop-k.invariant in (v.0, w_next _ _ _ _ v.1 c.next_weight-last.ensures)
