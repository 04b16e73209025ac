-- A refusal's verdict stays as it is where the points are cleared.
use Rattle.std.proofs.Common.{sym, ◌∙◌, ap}
use Rattle.matching.specs.Matching.{with_points}
use Rattle.matching.proofs.match_points.Goals as goal

pub returns-in-Err-clause-matched : goal.returns-in-Err-clause-matched
unfolding with_points
returns-in-Err-clause-matched c = sym (ap (with_points c.add_points.new.points.items) c.in-Err.is) ∙ c.add_points.ensures
