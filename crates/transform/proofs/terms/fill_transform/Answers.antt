-- Each line's terms are added, from the first line to the last.
use Rattle.std.proofs.Common.{arith}
use Rattle.totals.proofs.PointSums.{at_line, none_left}
use Rattle.transform.proofs.TableFilled.{Fills, fills_first, fills_asks, fills_more, fills_all}
use Rattle.transform.proofs.terms.fill_transform.Goals as goal

pub loop-p-init : goal.loop-p-init
loop-p-init c = fills_first c.args.points.now c.args.x c.args.transform.now c.args.h.now c.requires

pub add_point-requires : goal.add_point-requires
add_point-requires c =
    let a = c.args in
    let l = c.loop-p in
    fills_asks a.points.now a.x a.transform.now a.h.now _ _ l.transform l.h
    (at_line a.points.now l.p-index (λ rest. Fills a.points.now a.x a.transform.now a.h.now rest l.transform l.h) c.loop-p-test.true l.invariant)

pub loop-p-preserved : goal.loop-p-preserved
loop-p-preserved c =
    let a = c.args in
    let l = c.loop-p in
    fills_more a.points.now a.x a.transform.now a.h.now _ _ l.transform l.h _ _
    (at_line a.points.now l.p-index (λ rest. Fills a.points.now a.x a.transform.now a.h.now rest l.transform l.h) c.loop-p-test.true l.invariant) c.add_point.ensures

pub returns : goal.returns
returns c =
    let a = c.args in
    let l = c.loop-p in
    fills_all a.points.now a.x a.transform.now a.h.now l.transform l.h
    (none_left a.points.now l.p-index (λ rest. Fills a.points.now a.x a.transform.now a.h.now rest l.transform l.h) (omega arith) c.loop-p-test.false l.invariant)
