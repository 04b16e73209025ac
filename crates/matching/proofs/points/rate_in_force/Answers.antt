-- The next row is held where it is not above the age; where it is, the search stops.
use Rattle.std.proofs.Common.{refl, sym, ◌∙◌}
use Rattle.fund.specs.Folding.{rate_in_force}
use Rattle.matching.proofs.RateHeld.{row_passed, row_above, no_row}
use Rattle.matching.proofs.points.rate_in_force.Goals as goal

pub loop-rate-init : goal.loop-rate-init
unfolding rate_in_force
loop-rate-init c = refl

pub returns-then-age-rate : goal.returns-then-age-rate
returns-then-age-rate c = sym (c.loop-rate.invariant ∙ row_above c.args.rates.now _ _ _ c.loop-rate-test.true c.if-age-rate.true)

pub loop-rate-preserved : goal.loop-rate-preserved
loop-rate-preserved c = c.loop-rate.invariant ∙ row_passed c.args.rates.now _ _ _ c.loop-rate-test.true c.if-age-rate.false

pub returns : goal.returns
returns c = sym (c.loop-rate.invariant ∙ no_row c.args.rates.now _ _ _ c.loop-rate-test.false)
