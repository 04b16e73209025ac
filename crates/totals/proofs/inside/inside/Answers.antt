-- The tests are those of the definition: the lives are counted up to one more than their most.
use Rattle.std.proofs.Common.{◌∙◌, le-leb, length}
use Rattle.std.proofs.lemmas.Bool.{lt-leb}
use Rattle.totals.specs.Inside.{inside}
use Rattle.totals.proofs.InsideTells.{all_is, inside_is}
use Rattle.totals.proofs.inside.inside.Goals as goal

pub returns-then-points-gt-MOST_MEMBERS : goal.returns-then-points-gt-MOST_MEMBERS
unfolding inside
returns-then-points-gt-MOST_MEMBERS c = rw (lt-leb _ _ c.if-points-gt-MOST_MEMBERS.true)

pub returns-then-headed : goal.returns-then-headed
returns-then-headed c =
    inside_is c.args.fund c.args.points.now _ _ _ c.lives_in_all.ensures c.headed.ensures
    (rw (le-leb (length c.args.points.now) 1000 c.if-points-gt-MOST_MEMBERS.false, c.if-headed.true) (c.all_inside.ensures ∙ all_is c.args.points.now))

pub returns-else-headed : goal.returns-else-headed
returns-else-headed c =
    inside_is c.args.fund c.args.points.now _ _ _ c.lives_in_all.ensures c.headed.ensures
    (rw (le-leb (length c.args.points.now) 1000 c.if-points-gt-MOST_MEMBERS.false, c.if-headed.false))
