-- `spelling::number_of`: a number is digits alone, of which there are few, with no leading zero.
use Rattle.std.proofs.Common.{sym, ◌∙◌, arith}
use Rattle.std.proofs.lemmas.Grind.{common_steps}
use Rattle.spelling.proofs.Digits.{number_empty, number_leading, number_long, number_few}
use Rattle.spelling.proofs.number_of.Goals as goal

pub returns-in_err-first : goal.returns-in_err-first
returns-in_err-first c = let h = c.in_err-first.ensures.item in c.from_residual.ensures ∙ sym (number_empty c.args.text.now (grind (arith, common_steps)))

pub returns-then-text-gt-MOST_DIGITS : goal.returns-then-text-gt-MOST_DIGITS
returns-then-text-gt-MOST_DIGITS c = sym (number_long c.args.text.now (omega arith))

pub returns-then-text-gt1 : goal.returns-then-text-gt1
returns-then-text-gt1 c = sym (number_leading c.args.text.now (sym (c.in_ok-first.ensures.item.3.1 0) ∙ c.if-first-eq48.true) (omega arith))

pub returns : goal.returns
returns c =
    let first = c.in_ok-first.ensures.item.3 in
    c.value_of.ensures ∙ number_few c.args.text.now first.0 (omega arith) (λ e. omega (arith, first.0, first.1 0, c.else-first-eq48.either))
