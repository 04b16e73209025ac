-- The first model point that is half, or none.
use Rattle.std.specs.Prelude.{Err}
use Rattle.std.proofs.Common.{sym, ◌∙◌, ap}
use Rattle.matching.specs.Matching.{with_points}
use Rattle.matching.proofs.Refusals.{half_at, none_half}
use Rattle.matching.proofs.points.not_half.Goals as goal

pub returns-in-Some : goal.returns-in-Some
unfolding with_points
returns-in-Some c = ap Err c.at.ensures ∙ half_at _ _ _ (sym c.first_half.ensures ∙ c.in-Some.is)

pub returns-in-None : goal.returns-in-None
unfolding with_points
returns-in-None c = none_half _ _ (sym c.first_half.ensures ∙ c.in-None.is)
