-- The group decides, and the products fit: 10^6 × 5,000 × 1,000.
use borrow.Author.Tests.{eq-eqb, ne_eqb}
use native.Mathlib.Omega.{arith}
use Rattle.fund.specs.Transform.{death_weight, disability_weight}
use Rattle.laws.specs.Weights.{Products, products}
use Rattle.totals.proofs.figures.lambda_part.Goals as goal
use Rattle.totals.proofs.figures.lambda_part.Goals.{Start}

fits : (c : Start) → let a = c.args in Products a.ab a.m.q × Products a.ab a.m.i
fits c = products c.args.ab c.args.m c.requires.1 c.requires.0.rates

pub returns-then-m-eq-SINGLE : goal.returns-then-m-eq-SINGLE
returns-then-m-eq-SINGLE c = rw (eq-eqb _ _ c.if-m-eq-SINGLE.true)

pub overflow_mul-result : goal.overflow_mul-result
overflow_mul-result c = omega (arith, fits (goal.at.overflow_mul-result c).Start)

pub overflow_mul-result-2 : goal.overflow_mul-result-2
overflow_mul-result-2 c = omega (arith, fits (goal.at.overflow_mul-result-2 c).Start)

pub overflow_add-result : goal.overflow_add-result
overflow_add-result c = omega (arith, fits (goal.at.overflow_add-result c).Start)

pub overflow_mul-result-3 : goal.overflow_mul-result-3
overflow_mul-result-3 c = omega (arith, fits (goal.at.overflow_mul-result-3 c).Start)

pub returns : goal.returns
unfolding death_weight disability_weight
returns c = rw (ne_eqb _ _ c.if-m-eq-SINGLE.false) (omega arith)
