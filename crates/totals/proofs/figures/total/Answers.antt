-- Each line adds its part, up to the cap.
use Rattle.std.proofs.Common.{arith}
use Rattle.fund.specs.Base.{total}
use Rattle.fund.specs.Folding.{copies}
use Rattle.totals.proofs.PointSums.{Capped, at_line, none_left, capped_first, capped_more, capped_all}
use Rattle.totals.proofs.figures.total.Goals as goal

pub loop-p-init : goal.loop-p-init
loop-p-init g c =
    let f = c.args.figure.now in
    capped_first (g.F.Figure.part f) (g.F.Figure.Takes f) (g.F.Figure.most f) c.args.points.now c.requires

pub with_line-sum-requires : goal.with_line-sum-requires
with_line-sum-requires g c =
    let f = c.args.figure.now in
    let ps = c.args.points.now in
    let l = c.loop-p in
    let part = g.F.Figure.part f in
    let i = at_line ps l.p-index (λ rest. Capped part (g.F.Figure.Takes f) (g.F.Figure.most f) (total part (copies ps)) rest l.sum) c.loop-p-test.true l.invariant in
    (i.rest_in.0, i.within)

pub loop-p-preserved : goal.loop-p-preserved
loop-p-preserved g c =
    let f = c.args.figure.now in
    let ps = c.args.points.now in
    let l = c.loop-p in
    let part = g.F.Figure.part f in
    let i = at_line ps l.p-index (λ rest. Capped part (g.F.Figure.Takes f) (g.F.Figure.most f) (total part (copies ps)) rest l.sum) c.loop-p-test.true l.invariant in
    capped_more part (g.F.Figure.Takes f) (g.F.Figure.most f) _ _ _ l.sum _ i c.with_line-sum.ensures

pub returns : goal.returns
returns g c =
    let f = c.args.figure.now in
    let ps = c.args.points.now in
    let l = c.loop-p in
    let part = g.F.Figure.part f in
    let i = none_left ps l.p-index (λ rest. Capped part (g.F.Figure.Takes f) (g.F.Figure.most f) (total part (copies ps)) rest l.sum) (omega arith) c.loop-p-test.false l.invariant in
    capped_all part (g.F.Figure.Takes f) (g.F.Figure.most f) _ l.sum i
