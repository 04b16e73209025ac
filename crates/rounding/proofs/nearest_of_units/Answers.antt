-- What was divided is rounded to the nearest over n units by what n leaves: less than half of n units, or not
-- (`near_units_low`, `near_units_high`); where it does not fit, `scaled_many`.
use mathlib.Core.Path.{sym, ◌∙◌}
use Prim.Native.Nat.{◌*◌, ◌/◌}
use native.Mathlib.Omega.{arith}
use Rattle.rounding.specs.Word.{word}
use Rattle.rounding.proofs.Units.{near_units_low, near_units_high}
use Rattle.rounding.proofs.Word.{near_rounds, scaled_zero, scaled_many}
use Rattle.rounding.proofs.nearest_of_units.Goals as goal

pub returns-then-n-eq0 : goal.returns-then-n-eq0
returns-then-n-eq0 c = λ p d. rw c.if-n-eq0.true (sym (scaled_zero near_rounds p _ (omega arith)))

pub returns-in_default : goal.returns-in_default
returns-in_default c = λ p d. sym (scaled_many near_rounds p _ (omega arith) _ (omega arith) (rw c.in_default.is at d))

pub returns-then-left-carry : goal.returns-then-left-carry
returns-then-left-carry c = λ p d.
    let s = rw c.in-Some.is at d in
    let carry = 2 * c.in-Some.d.remainder / 1000000000000 in
    sym (near_units_low s c.args.n (omega arith) (omega arith) carry (omega arith) (omega arith))

pub returns : goal.returns
unfolding word
returns c = λ p d.
    let s = rw c.in-Some.is at d in
    let carry = 2 * c.in-Some.d.remainder / 1000000000000 in
    c.saturating_add.ensures ∙ sym (near_units_high s c.args.n (omega arith) (omega arith) carry (omega arith) (omega arith))
