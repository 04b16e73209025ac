-- After k steps the number is w(k), which is at most 10^12.
use mathlib.Core.Path.{◌≡◌}
use Prim.Native.Nat.{◌<◌}
use Rattle.fund.specs.Folding.{claim}
use Rattle.fund.specs.Transform.{w}
use Rattle.totals.proofs.figures.weight.Given as goal

abbrev pub invariant-loop-k : goal.invariant-loop-k
invariant-loop-k l = (claim l.m < 500000) × (l.last ≡ w l.m l._k)
