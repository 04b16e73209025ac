-- The parts of the product in base 10^6 fit a word each (`unit_parts`), and their sum is the product.
-- The quotient fits because b is below the unit, so that it is at most a.
use native.Mathlib.Omega.{arith}
use Rattle.rounding.proofs.Product.{UnitParts, unit_parts}
use Rattle.rounding.proofs.part_by_unit.Goals as goal
use Rattle.rounding.proofs.part_by_unit.Goals.{Start}

parts : (c : Start) → UnitParts c.args.a c.args.b
parts c = unit_parts c.args.a c.args.b (omega arith) (omega arith)

pub overflow_mul-middle : goal.overflow_mul-middle
overflow_mul-middle c = omega (arith, parts c)

pub overflow_mul-rest-2 : goal.overflow_mul-rest-2
overflow_mul-rest-2 c = omega (arith, parts c)

pub overflow_add-rest : goal.overflow_add-rest
overflow_add-rest c = omega (arith, parts c)

pub overflow_mul-result : goal.overflow_mul-result
overflow_mul-result c = omega (arith, parts c)

pub overflow_add-result : goal.overflow_add-result
overflow_add-result c = omega (arith, parts c)

pub overflow_add-result-2 : goal.overflow_add-result-2
overflow_add-result-2 c = omega (arith, parts c)

pub returns : goal.returns
returns c = (omega (arith, parts c), omega arith)
