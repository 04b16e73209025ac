-- The parts of a product fit a word, and are rounded by constants.
use native.Mathlib.Omega.{arith}
use Rattle.recursion.proofs.SmallProduct.{Parts, parts, nearest_is}
use Rattle.recursion.proofs.products.product_nearest.Goals as goal
use Rattle.recursion.proofs.products.product_nearest.Goals.{Start}

in_parts : (c : Start) → Parts c.args.a c.args.b
in_parts c = parts c.args.a c.args.b c.requires.0 c.requires.1

pub overflow_mul-result : goal.overflow_mul-result
overflow_mul-result c = omega (arith, in_parts c)

pub overflow_mul-result-2 : goal.overflow_mul-result-2
overflow_mul-result-2 c = omega (arith, in_parts c)

pub overflow_add-result : goal.overflow_add-result
overflow_add-result c = omega (arith, in_parts c)

pub overflow_add-result-2 : goal.overflow_add-result-2
overflow_add-result-2 c = omega (arith, in_parts c)

pub returns : goal.returns
returns c = nearest_is c.args.a c.args.b (in_parts c)
