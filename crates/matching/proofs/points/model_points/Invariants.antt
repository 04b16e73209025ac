-- The members before k are matched.
use Rattle.matching.proofs.MatchedSoFar.{MatchedSoFar}
use Rattle.matching.proofs.points.model_points.Given as goal

abbrev pub invariant-loop-k : goal.invariant-loop-k
invariant-loop-k l = MatchedSoFar l.rates l.members l.line l.points.items l.k
