-- The parts of the product in base 10^6 fit a word each (`small_parts`), and their sum is the product.
use native.Mathlib.Omega.{arith}
use Rattle.rounding.proofs.Product.{SmallParts, small_parts}
use Rattle.rounding.proofs.raised.Goals as goal
use Rattle.rounding.proofs.raised.Goals.{Start}

parts : (c : Start) → SmallParts c.args.a c.args.b
parts c = small_parts c.args.a c.args.b (omega arith) (omega arith)

pub overflow_mul-middle : goal.overflow_mul-middle
overflow_mul-middle c = omega (arith, parts c)

pub overflow_mul-rest-2 : goal.overflow_mul-rest-2
overflow_mul-rest-2 c = omega (arith, parts c)

pub overflow_add-rest : goal.overflow_add-rest
overflow_add-rest c = omega (arith, parts c)

pub overflow_add-rest-2 : goal.overflow_add-rest-2
overflow_add-rest-2 c = omega (arith, parts c)

pub overflow_mul-result : goal.overflow_mul-result
overflow_mul-result c = omega (arith, parts c)

pub overflow_add-result : goal.overflow_add-result
overflow_add-result c = omega (arith, parts c)

pub overflow_add-result-2 : goal.overflow_add-result-2
overflow_add-result-2 c = omega (arith, parts c)

pub returns : goal.returns
returns c = omega (arith, parts c)
