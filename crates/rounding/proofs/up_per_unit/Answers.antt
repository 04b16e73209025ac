-- A product of small factors is rounded by adding just under a unit before the division; any other by what `up_of` ensures of anything
-- that was divided, at the product that `by_unit` divides.
use mathlib.Core.Path.{sym, ◌∙◌}
use Prim.Native.Nat.{◌*◌}
use native.Mathlib.Omega.{arith}
use Rattle.rounding.proofs.Rest.{up_raised}
use Rattle.rounding.proofs.Word.{up_rounds, per_unit_is}
use Rattle.rounding.proofs.up_per_unit.Goals as goal

pub returns-then-b-le10000000000000 : goal.returns-then-b-le10000000000000
returns-then-b-le10000000000000 c =
    let s = c.before.before.before.args in
    c.raised.ensures ∙ sym (per_unit_is up_rounds s.a s.b (omega arith) (omega arith) ∙ up_raised (s.a * s.b))

pub returns : goal.returns
returns c =
    let s = c.before.before.before.args in
    c.up_of.ensures (s.a * s.b) c.before.by_unit.ensures
