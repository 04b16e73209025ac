-- `writing::put_pointed` meets its contract: the digits with the point alone, or those of the tenth and one more.
use mathlib.Core.Path.{◌≡◌}
use Prim.Native.Nat.{suc, ◌-◌}
use native.Mathlib.Omega.{arith}
use Rattle.writing.proofs.PieceLaws.{puts_then}
use Rattle.writing.proofs.PointedDigits.{pointed_none, pointed_step}
use Rattle.writing.proofs.+put_pointed.Goals as goal

pub returns-then-places-eq0 : goal.returns-then-places-eq0
returns-then-places-eq0 t c = rw (c.if-places-eq0.true, pointed_none) c.figure.ensures

pub returns : goal.returns
returns t c =
    let k = c.args.places - 1 in
    let e : c.args.places ≡ suc k = omega arith in
    rw (e, pointed_step) (puts_then c.put_pointed.ensures c.byte.ensures)
