-- No product is formed where the factor is 0, and it is 0.
use mathlib.Core.Path.{refl}
use native.Mathlib.Nat.{zero-mul}
use Rattle.rounding.specs.Rounding.{up}
use Rattle.recursion.proofs.products.error_up.Goals as goal

pub returns-then-a-eq0 : goal.returns-then-a-eq0
unfolding up
returns-then-a-eq0 c = rw (c.if-a-eq0.true, zero-mul) refl
