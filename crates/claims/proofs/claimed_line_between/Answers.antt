-- `pricing::line_between` says the same by its own definition.
use Rattle.pricing.specs.Priced.{line_between}
use Rattle.claims.proofs.claimed_line_between.Goals as goal

pub returns : goal.returns
unfolding line_between
returns c = c.line_between.ensures
