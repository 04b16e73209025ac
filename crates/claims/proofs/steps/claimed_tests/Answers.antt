-- The tests of the totals answer as their definition does.
use Rattle.claims.proofs.Tested.{tests_totals}
use Rattle.claims.proofs.steps.claimed_tests.Goals as goal

pub returns : goal.returns
returns c = tests_totals _ _ _ _ c.tested_totals.ensures
