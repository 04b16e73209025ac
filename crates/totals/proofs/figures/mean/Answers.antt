-- The mean is the definition's sum, up to the cap.
use Rattle.fund.specs.Transform.{mean}
use Rattle.totals.proofs.TableTotals.{points_in}
use Rattle.totals.proofs.figures.mean.Goals as goal

pub total-requires : goal.total-requires
total-requires c = points_in c.args.points.now c.requires.0 (λ p i. (i, c.requires.1))

pub returns : goal.returns
unfolding mean
returns c = c.total.ensures
