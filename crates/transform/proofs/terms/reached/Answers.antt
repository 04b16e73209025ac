-- The rate's test decides.
use borrow.Author.Tests.{lt-ltb, le-ltb}
use Rattle.transform.proofs.terms.reached.Goals as goal

pub returns-then-rate-gt0 : goal.returns-then-rate-gt0
returns-then-rate-gt0 c = rw (lt-ltb _ _ c.if-rate-gt0.true)

pub returns-else-rate-gt0 : goal.returns-else-rate-gt0
returns-else-rate-gt0 c = rw (le-ltb _ _ c.if-rate-gt0.false)
