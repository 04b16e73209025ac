-- The walks over the table, one after the other.
use Rattle.fund.specs.Folding.{copies}
use Rattle.totals.specs.Table.{members_of_lem}
use Rattle.totals.proofs.TableTotals.{lambda_most, made_asks, sums_up}
use Rattle.totals.proofs.lives_totals.Goals as goal

pub load-load-requires : goal.load-load-requires
load-load-requires c =
    let p = c.requires in
    (p.0, rw c.lambda-lambda.ensures (lambda_most (copies c.args.points.now) c.args.fund.frequency (members_of_lem c.args.points.now p.0) p.1.frequency))

pub with_start-requires : goal.with_start-requires
with_start-requires c =
    made_asks (copies c.args.points.now) (members_of_lem c.args.points.now c.requires.0) c.lambda-lambda.result c.sums-first.result c.sums-first.ensures c.multiplied-product.result c.multiplied-product.ensures

pub returns : goal.returns
returns c =
    sums_up c.args.fund (copies c.args.points.now) c.lambda-lambda.result c.load-load.result c.truncation-truncation.result c.mean-mean.result c.sums-first.result c.multiplied-product.result c.with_start.result
    c.lambda-lambda.ensures c.load-load.ensures c.truncation-truncation.ensures c.mean-mean.ensures c.sums-first.ensures c.multiplied-product.ensures c.with_start.ensures
