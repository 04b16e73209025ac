-- The sums of the start are those of the definition.
use Rattle.claims.proofs.steps.claimed_start.Goals as goal

pub returns : goal.returns
returns c = let s = c.sums.ensures.is in (s.sum_is, s.unsigned, s.bound_is)
