-- 4, where the sum X + 1 is not formed.
use Rattle.matching.proofs.Refusals.{above_rest}
use Rattle.matching.proofs.is_above.Goals as goal

pub returns : goal.returns
returns c = rw c.saturating_sub.ensures (above_rest c.args.deductible c.args.horizon)
