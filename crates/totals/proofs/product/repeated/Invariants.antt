-- The lives that are left, multiplied with the product so far, give the whole product.
use mathlib.Core.Path.{◌≡◌}
use mathlib.Core.Bool.{Bool}
use Prim.Native.Nat.{◌-◌, ◌≤◌}
use lib.ListN.{replicate}
use Rattle.fund.specs.Recursion.{multiplied}
use Rattle.whole.specs.Sign.{signed}
use Rattle.totals.proofs.product.repeated.Given as goal

abbrev pub invariant-loop-k : goal.invariant-loop-k
invariant-loop-k l = (l.product ≤ l.size) × ((s : Bool) → multiplied (signed s l.product) (replicate (l.lives - l._k) l.m) ≡ multiplied (signed s l.size) (replicate l.lives l.m))
