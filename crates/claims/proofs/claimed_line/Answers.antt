-- `pricing::line` says the same by its own definition.
use Rattle.pricing.specs.Priced.{line_between}
use Rattle.claims.proofs.claimed_line.Goals as goal

pub returns : goal.returns
unfolding line_between
returns c = c.line.ensures
