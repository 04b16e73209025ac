-- The two tests are those of the definition.
use Rattle.totals.proofs.InsideTells.{point_is}
use Rattle.totals.proofs.inside.point_inside.Goals as goal

pub returns-then-life_inside : goal.returns-then-life_inside
returns-then-life_inside c = point_is c.args.p c.life_inside.result _ c.life_inside.ensures (rw c.if-life_inside.true)

pub returns-else-life_inside : goal.returns-else-life_inside
returns-else-life_inside c = point_is c.args.p c.life_inside.result _ c.life_inside.ensures (rw c.if-life_inside.false)
