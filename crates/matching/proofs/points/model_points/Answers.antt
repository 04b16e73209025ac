-- A member is matched, or 5 is answered at it.
use Rattle.std.proofs.Common.{arith, sym, ◌∙◌, ap}
use Rattle.std.specs.Prelude.{get_or}
use Rattle.fund.specs.declared.Life.{Life}
use Rattle.laws.specs.Rows.{blank_member}
use Rattle.matching.specs.Matching.{with_points}
use Rattle.matching.proofs.MatchedSoFar.{none_yet, count, unmatched_next, matched_next, all_matched}
use Rattle.matching.proofs.points.model_points.Goals as goal

pub loop-k-init : goal.loop-k-init
loop-k-init c = none_yet _ _ _ _ c.requires.none_yet

pub returns-in_default : goal.returns-in_default
unfolding with_points
returns-in_default c = rw c.at.ensures (unmatched_next c.loop-k.invariant c.loop-k-test.true (sym c.rate_in_force.ensures ∙ c.in_default.is))

pub push-requires : goal.push-requires
push-requires c = (omega arith, omega (arith, count c.loop-k.invariant))

pub loop-k-preserved : goal.loop-k-preserved
loop-k-preserved c = matched_next c.loop-k.invariant c.loop-k-test.true c.in-Some.rate _ _ (sym c.rate_in_force.ensures ∙ c.in-Some.is) (ap (λ (l : Life). record { life = l; lives = (get_or c.args.members.now c.loop-k.k blank_member).lives }) c.folded.ensures) c.push.ensures.items

pub returns : goal.returns
unfolding with_points
returns c = all_matched c.loop-k.invariant (omega arith)
