-- The tests of the limits answer as their definition does.
use Rattle.claims.proofs.Tested.{kept_as}
use Rattle.claims.proofs.steps.claimed_kept.Goals as goal

pub returns : goal.returns
returns c = kept_as _ _ _ _ _ _ _ c.tested.ensures
