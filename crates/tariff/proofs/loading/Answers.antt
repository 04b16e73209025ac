-- `tariff::loading`: the step of the deductible.
use borrow.Author.Tests.{lt-ltb, le-ltb}
use native.Mathlib.Omega.{arith}
use Rattle.fund.specs.Limits.{second_step, third_step, fourth_step}
use Rattle.fund.specs.Tariff.{loading}
use Rattle.tariff.proofs.loading.Goals as goal

pub returns-then-deductible-lt-SECOND_STEP : goal.returns-then-deductible-lt-SECOND_STEP
unfolding loading
returns-then-deductible-lt-SECOND_STEP c = let M = c.args.deductible in rw (lt-ltb M second_step (omega arith))

pub returns-then-deductible-lt-THIRD_STEP : goal.returns-then-deductible-lt-THIRD_STEP
unfolding loading
returns-then-deductible-lt-THIRD_STEP c = let M = c.args.deductible in rw (le-ltb M second_step (omega arith), lt-ltb M third_step (omega arith))

pub returns-then-deductible-lt-FOURTH_STEP : goal.returns-then-deductible-lt-FOURTH_STEP
unfolding loading
returns-then-deductible-lt-FOURTH_STEP c = let M = c.args.deductible in rw (le-ltb M second_step (omega arith), le-ltb M third_step (omega arith), lt-ltb M fourth_step (omega arith))

pub returns-else-deductible-lt-FOURTH_STEP : goal.returns-else-deductible-lt-FOURTH_STEP
unfolding loading
returns-else-deductible-lt-FOURTH_STEP c = let M = c.args.deductible in rw (le-ltb M second_step (omega arith), le-ltb M third_step (omega arith), le-ltb M fourth_step (omega arith))
