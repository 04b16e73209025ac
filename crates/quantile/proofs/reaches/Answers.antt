-- A sum below 0 reaches no level; another does by its size.
use Rattle.quantile.proofs.ReachedLevel.{by_size, below_zero}
use Rattle.quantile.proofs.reaches.Goals as goal

pub returns-then-sum-ge0 : goal.returns-then-sum-ge0
returns-then-sum-ge0 c = rw c.unsigned_abs.ensures.value (by_size c.args.level c.args.sum c.ranges.sum c.if-sum-ge0.true)

pub returns-else-sum-ge0 : goal.returns-else-sum-ge0
returns-else-sum-ge0 c = below_zero c.args.level c.args.sum c.ranges.sum c.if-sum-ge0.false
