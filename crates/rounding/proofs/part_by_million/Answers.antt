-- The parts of the product in base 10^6 fit a word each (`million_parts`), and their sum is the product.
-- The quotient fits because b is below the unit, so that it is at most a.
use native.Mathlib.Omega.{arith}
use Rattle.rounding.proofs.Product.{MillionParts, million_parts}
use Rattle.rounding.proofs.part_by_million.Goals as goal
use Rattle.rounding.proofs.part_by_million.Goals.{Start}

parts : (c : Start) → MillionParts c.args.a c.args.b
parts c = million_parts c.args.a c.args.b (omega arith) (omega arith)

pub overflow_mul-rest : goal.overflow_mul-rest
overflow_mul-rest c = omega (arith, parts c)

pub overflow_mul-result : goal.overflow_mul-result
overflow_mul-result c = omega (arith, parts c)

pub overflow_add-result : goal.overflow_add-result
overflow_add-result c = omega (arith, parts c)

pub returns : goal.returns
returns c = (omega (arith, parts c), omega arith)
