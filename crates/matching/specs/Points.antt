-- What the searches over the members answer, from the line of the first member: 5, then 6, each over all members.
use Rattle.std.specs.Prelude.{List, map, ℕ, Result, Ok}
use Rattle.arrayvec.specs.ArrayVec.{ArrayVec}
use Rattle.fund.specs.declared.Rate.{Rate}
use Rattle.fund.specs.declared.Member.{Member}
use Rattle.fund.specs.declared.ModelPoint.{ModelPoint}
use Rattle.fund.specs.declared.Refusal.TheVariants.{Unmatched, Half}
use Rattle.fund.specs.declared.Refused.{Refused}
use Rattle.fund.specs.Folding.{point}
use Rattle.fund.specs.Refusals.{first, unmatched, half_line, refuse}
use Rattle.matching.specs.Matching.{with_points}

unfoldable pub model_points : List Rate → List Member → ℕ → Result (ArrayVec ModelPoint) Refused
model_points rates members at = with_points (map (point rates) members) (refuse Unmatched (first (unmatched rates) at members) (Ok tt))

unfoldable pub not_half : List ModelPoint → ℕ → Result (ArrayVec ModelPoint) Refused
not_half ps at = with_points ps (refuse Half (first half_line at ps) (Ok tt))
