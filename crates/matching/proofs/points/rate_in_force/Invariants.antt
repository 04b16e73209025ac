-- The row that is held where the rest is still to come.
use Rattle.std.proofs.Common.{◌≡◌, drop}
use Rattle.fund.specs.Folding.{held_until, rate_in_force}
use Rattle.matching.proofs.points.rate_in_force.Given as goal

abbrev pub invariant-loop-rate : goal.invariant-loop-rate
invariant-loop-rate l = rate_in_force l.rates l.age ≡ held_until l.held (drop l.rate-index l.rates) l.age
