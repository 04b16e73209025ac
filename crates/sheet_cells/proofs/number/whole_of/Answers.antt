-- `cells::number::whole_of`: a subnormal is never taken.
use mathlib.Core.Path.{sym, ◌∙◌}
use borrow.Author.Rules.{rules}
use Rattle.sheet_cells.specs.Plain.{subnormal_never}
use Rattle.sheet_cells.proofs.number.whole_of.Goals as goal

pub returns-then-is_subnormal : goal.returns-then-is_subnormal
returns-then-is_subnormal c = sym ((subnormal_never c.args.x (search rules) (cc)).1 c.args.most c.requires.0)

pub whole-requires : goal.whole-requires
whole-requires c = (c.requires.0, (c.requires.1, sym c.is_subnormal.ensures ∙ c.if-is_subnormal.false))
