-- The sum so far with what the lines to come add is the whole, up to the cap.
use Rattle.std.proofs.Common.{drop}
use Rattle.fund.specs.Base.{total}
use Rattle.fund.specs.Folding.{copies}
use Rattle.totals.proofs.PointSums.{Capped}
use Rattle.totals.proofs.figures.total.Given as goal

abbrev pub invariant-loop-p : goal.invariant-loop-p
invariant-loop-p g l =
    let part = g.F.Figure.part l.figure in
    Capped part (g.F.Figure.Takes l.figure) (g.F.Figure.most l.figure) (total part (copies l.points)) (drop l.p-index l.points) l.sum
