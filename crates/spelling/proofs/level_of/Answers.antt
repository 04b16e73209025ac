-- `spelling::level_of`: what holds a digit or more is a level where its value fits.
use Rattle.std.proofs.Common.{sym, ◌∙◌, arith}
use borrow.Author.Tests.{eqb-true, eqb-false}
use Rattle.spelling.proofs.Digits.{level_empty, level_some}
use Rattle.spelling.proofs.level_of.Goals as goal

pub returns-then-is_empty : goal.returns-then-is_empty
returns-then-is_empty c = sym (level_empty c.args.text.now (eqb-true _ _ (sym c.if-is_empty.ensures)))

pub returns : goal.returns
returns c = c.value_of.ensures ∙ level_some c.args.text.now (omega (arith, eqb-false _ _ (sym c.if-is_empty.ensures)))
