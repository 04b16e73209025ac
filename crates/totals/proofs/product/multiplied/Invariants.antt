-- What is multiplied so far, multiplied on by the lives of the lines to come, is the whole product.
use Rattle.std.proofs.Common.{drop}
use Rattle.totals.proofs.PointProduct.{ProductSoFar}
use Rattle.totals.proofs.product.multiplied.Given as goal

abbrev pub invariant-loop-p : goal.invariant-loop-p
invariant-loop-p l = ProductSoFar l.points l.size (drop l.p-index l.points) l.product
