-- Lambda of a table in its ranges is below the cap.
use mathlib.Core.Path.{◌∙◌}
use Rattle.totals.proofs.TableTotals.{lambda_is, points_in}
use Rattle.totals.proofs.figures.lambda.Goals as goal

pub total-requires : goal.total-requires
total-requires c = points_in c.args.points.now c.requires.0 (λ p i. (i, c.requires.1))

pub returns : goal.returns
returns c = c.total.ensures ∙ lambda_is c.args.points.now c.requires.0 c.args.frequency c.requires.1
