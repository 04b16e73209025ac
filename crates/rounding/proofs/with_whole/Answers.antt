-- The whole units are added to the quotient (`whole_fits`); a product or a sum that does not fit a word makes too many (`whole_many`).
use native.Mathlib.Omega.{arith}
use Rattle.rounding.proofs.Product.{whole_fits, whole_many}
use Rattle.rounding.proofs.with_whole.Goals as goal

pub returns-in_err-checked_mul : goal.returns-in_err-checked_mul
returns-in_err-checked_mul c = λ p unit d.
    rw c.from_residual.ensures
    (whole_many _ _ unit p _ _ d.0 (omega (arith, c.in_err-checked_mul.ensures)))

pub returns-in_err-quotient : goal.returns-in_err-quotient
returns-in_err-quotient c = λ p unit d.
    let m = c.in_ok-checked_mul.ensures.1 in
    rw c.from_residual-in_err-quotient.ensures
    (whole_many _ _ unit p _ _ d.0 (omega (arith, c.in_err-quotient.ensures, m)))

pub returns : goal.returns
returns c = λ p unit d.
    let m = c.in_ok-checked_mul.ensures.1 in
    let q = c.in_ok-quotient.ensures.1 in
    (rw (q, m) (whole_fits _ _ unit p _ _ d.0), d.1)
