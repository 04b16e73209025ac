-- The tests of the totals answer as their definition does.
use Rattle.claims.proofs.Tested.{transforms}
use Rattle.claims.proofs.steps.claimed_transform.Goals as goal

pub returns : goal.returns
returns c = transforms _ _ _ _ _ _ c.transformed.ensures
