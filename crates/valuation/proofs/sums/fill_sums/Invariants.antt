-- The loop's invariant: the sum is that of the first x cells, and the slice begins with the sums of these.
use mathlib.Core.Path.{◌≡◌}
use Rattle.valuation.proofs.RunningSums.{sum_to, summed}
use Rattle.valuation.proofs.sums.fill_sums.Given as goal

abbrev pub invariant-loop-x : goal.invariant-loop-x
invariant-loop-x l = (l.sum ≡ sum_to l.f l.x) × (l.sums ≡ summed l.f l.x l.initial.sums)
