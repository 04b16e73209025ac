-- No header line, and no member line.
use native.Mathlib.Omega.{arith}
use Rattle.std.proofs.lemmas.Bool.Decides.{nat_tests}
use Rattle.comparison_printing.specs.Lines.{nothing_else}
use Rattle.comparison_printing.proofs.is_nothing.Goals as goal

pub returns-then-is_none : goal.returns-then-is_none
unfolding nothing_else
returns-then-is_none c = grind (arith, nat_tests)

pub returns-else-is_none : goal.returns-else-is_none
unfolding nothing_else
returns-else-is_none c = grind (arith, nat_tests)
