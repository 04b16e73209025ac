-- Each line of group 1 multiplies the product.
use Rattle.std.proofs.Common.{arith}
use Rattle.totals.proofs.PointSums.{at_line, none_left}
use Rattle.totals.proofs.PointProduct.{ProductSoFar, product_first, product_more, product_asks, product_all}
use Rattle.totals.proofs.product.multiplied.Goals as goal

pub loop-p-init : goal.loop-p-init
loop-p-init c = product_first c.args.points.now c.args.size c.requires

pub product_step-product-requires : goal.product_step-product-requires
product_step-product-requires c =
    let ps = c.args.points.now in
    let l = c.loop-p in
    product_asks ps c.args.size _ _ l.product (at_line ps l.p-index (λ rest. ProductSoFar ps c.args.size rest l.product) c.loop-p-test.true l.invariant)

pub loop-p-preserved : goal.loop-p-preserved
loop-p-preserved c =
    let ps = c.args.points.now in
    let l = c.loop-p in
    let i = at_line ps l.p-index (λ rest. ProductSoFar ps c.args.size rest l.product) c.loop-p-test.true l.invariant in
    product_more ps c.args.size _ _ l.product i _ c.product_step-product.ensures

pub returns : goal.returns
returns c =
    let ps = c.args.points.now in
    let l = c.loop-p in
    product_all ps c.args.size l.product (none_left ps l.p-index (λ rest. ProductSoFar ps c.args.size rest l.product) (omega arith) c.loop-p-test.false l.invariant)
