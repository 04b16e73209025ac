-- The points that are there, or the refusal.
use Rattle.std.proofs.Common.{sym, ◌∙◌, ap}
use Rattle.std.proofs.lemmas.Result.{err_from_is_err_and}
use Rattle.matching.specs.Matching.{with_points}
use Rattle.matching.proofs.matched.Goals as goal

pub returns-in_err-match_points : goal.returns-in_err-match_points
unfolding with_points
returns-in_err-match_points c =
    let p = err_from_is_err_and c.from_residual.result c.from_residual.ensures.1 in
    rw (p.1, p.2) (sym (ap (with_points c.match_points.new.points.items) c.in_err-match_points.was) ∙ c.match_points.ensures.matched)

pub returns : goal.returns
unfolding with_points
returns c = sym (ap (with_points c.match_points.new.points.items) c.in_ok-match_points.was) ∙ c.match_points.ensures.matched
