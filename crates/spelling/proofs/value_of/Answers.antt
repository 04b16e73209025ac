-- `spelling::value_of`: the value in the text is that of the digits from the byte on, behind what was read.
use Rattle.std.proofs.Common.{refl, sym, ◌∙◌, arith}
use Rattle.spelling.proofs.Digits.{value_in_lem, read_next, read_none, read_end, read_wide}
use Rattle.spelling.proofs.value_of.Goals as goal

pub loop-b-init : goal.loop-b-init
loop-b-init c = (omega arith, value_in_lem c.args.text.now)

pub returns-then-not-is_ascii_digit : goal.returns-then-not-is_ascii_digit
returns-then-not-is_ascii_digit c = sym (c.loop-b.invariant.1 ∙ read_none _ _ _ c.loop-b-test.true (cc))

pub returns-in_err-checked_mul : goal.returns-in_err-checked_mul
returns-in_err-checked_mul c =
    c.from_residual.ensures ∙ sym (c.loop-b.invariant.1 ∙ read_next _ _ _ c.loop-b-test.true (cc) refl ∙ read_wide _ _ (omega (arith, c.in_err-checked_mul.ensures)))

pub returns-in_err-value : goal.returns-in_err-value
returns-in_err-value c =
    c.from_residual-in_err-value.ensures
    ∙ sym (c.loop-b.invariant.1 ∙ read_next _ _ _ c.loop-b-test.true (cc) refl ∙ read_wide _ _ (omega (arith, c.in_ok-checked_mul.ensures, c.in_err-value.ensures)))

pub loop-b-preserved : goal.loop-b-preserved
loop-b-preserved c = (
  omega (arith, c.in_ok-checked_mul.ensures, c.in_ok-value.ensures),
  c.loop-b.invariant.1 ∙ read_next _ _ _ c.loop-b-test.true (cc) (omega (arith, c.in_ok-checked_mul.ensures, c.in_ok-value.ensures)),
)

pub returns : goal.returns
returns c = sym (c.loop-b.invariant.1 ∙ read_end _ _ _ c.loop-b.invariant.0 c.loop-b-test.false)
