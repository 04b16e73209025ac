-- `below` meets its contract. The loop's invariant: the sums are those over the first x cells.
use Rattle.valuation.specs.Premium.{BelowTo}
use Rattle.valuation.proofs.premium.below.Given as goal

abbrev pub invariant-loop-x : goal.invariant-loop-x
invariant-loop-x l = BelowTo l.deductible l.f l.r l.x l.s
