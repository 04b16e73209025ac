-- `opposite` meets its contract, by the two signs.
use mir.Facts.{to_z-of_z}
use Rattle.recursion.proofs.Opposite.{signs_opposite}
use Rattle.recursion.proofs.products.opposite.Goals as goal

pub returns : goal.returns
returns c = rw (to_z-of_z c.ranges.d, to_z-of_z c.ranges.f) (signs_opposite c.args.d c.args.f)
