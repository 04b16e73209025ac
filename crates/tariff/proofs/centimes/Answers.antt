-- `tariff::centimes`: each part of the product fits a word, and their sum is the product (`loaded_parts`); less than 10^15 is added to it before it is
-- divided, which is what up is.
use native.Mathlib.Omega.{arith}
use Rattle.rounding.specs.Rounding.{up}
use Rattle.tariff.proofs.Parts.{LoadedParts, loaded_parts}
use Rattle.tariff.proofs.centimes.Goals as goal
use Rattle.tariff.proofs.centimes.Goals.{Start}

parts : (s : Start) → LoadedParts s.args.high s.args.low s.args.loaded
parts s = loaded_parts s.args.high s.args.low s.args.loaded (omega arith) (omega arith) (omega arith)

pub overflow_mul-rest : goal.overflow_mul-rest
overflow_mul-rest c = omega (arith, parts c)

pub overflow_add-rest : goal.overflow_add-rest
overflow_add-rest c = omega (arith, parts c)

pub overflow_mul-result : goal.overflow_mul-result
overflow_mul-result c = omega (arith, parts c)

pub overflow_mul-result-2 : goal.overflow_mul-result-2
overflow_mul-result-2 c = omega (arith, parts c)

pub overflow_add-result : goal.overflow_add-result
overflow_add-result c = omega (arith, parts c)

pub overflow_add-result-2 : goal.overflow_add-result-2
overflow_add-result-2 c = omega (arith, parts c)

pub returns : goal.returns
unfolding up
returns c = omega (arith, parts c)
