-- `moves::is_inside`: limit by limit.
use Rattle.std.proofs.Common.{rules}
use Rattle.fund.specs.Reading.{between}
use Rattle.moves.specs.Move.{figures_in}
use Rattle.moves.proofs.is_inside.Goals as goal

pub returns-then-figures-le-MOST_WITHIN : goal.returns-then-figures-le-MOST_WITHIN
unfolding figures_in between
returns-then-figures-le-MOST_WITHIN c = search rules

pub returns-else-figures-le-MOST_WITHIN : goal.returns-else-figures-le-MOST_WITHIN
unfolding figures_in between
returns-else-figures-le-MOST_WITHIN c = search rules
