-- `sheet_cells::number::is_subnormal`: the two comparisons of the definition.
use borrow.Author.Tests.{lt-ltb, le-ltb}
use Rattle.sheet_cells.proofs.number.is_subnormal.Goals as goal

pub returns-then-size-gt0 : goal.returns-then-size-gt0
returns-then-size-gt0 c = rw (lt-ltb _ _ c.if-size-gt0.true)

pub returns-else-size-gt0 : goal.returns-else-size-gt0
returns-else-size-gt0 c = rw (le-ltb _ _ c.if-size-gt0.false)
