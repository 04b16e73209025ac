-- The product is a times the whole units of b, and a times the rest of b (`split_right`).
-- What `with_whole` ensures is asked at the second of these.
use Prim.Native.Nat.{◌%◌, ◌*◌}
use Rattle.rounding.proofs.Product.{split_right}
use Rattle.rounding.proofs.by_unit.Goals as goal

pub returns : goal.returns
returns c =
    let s = c.before.before.args in
    rw (split_right s.a s.b 1000000000000)
    (c.with_whole.ensures (s.a * (s.b % 1000000000000)) 1000000000000 c.before.part_by_unit.ensures)
