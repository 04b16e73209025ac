-- Each test's answer is the definition's; where none refuses, all have passed.
use Rattle.std.proofs.Common.{sym, ap, ◌∙◌, Err, arith}
use Rattle.std.proofs.lemmas.Bool.Decides.{nat_tests}
use Rattle.fund.specs.Refusals.{any_short, short}
use Rattle.totals.proofs.TestedTotals.{tested_range, tested_load, tested_order, tested_short}
use Rattle.totals.proofs.tests.tested_totals.Goals as goal

pub returns-in_default : goal.returns-in_default
returns-in_default c = tested_range _ c.args.totals _ c.in_default.is ∙ ap Err (sym c.at.ensures)

pub returns-then-t-gt-MOST_LOAD : goal.returns-then-t-gt-MOST_LOAD
returns-then-t-gt-MOST_LOAD c = tested_load _ c.args.totals _ _ c.in-Some.is c.if-t-gt-MOST_LOAD.true ∙ ap Err (sym c.at-then-t-gt-MOST_LOAD.ensures)

pub returns-then-t-gt-MOST_TRUNCATION : goal.returns-then-t-gt-MOST_TRUNCATION
returns-then-t-gt-MOST_TRUNCATION c = tested_order _ c.args.totals _ _ c.in-Some.is c.if-t-gt-MOST_LOAD.false c.if-t-gt-MOST_TRUNCATION.true ∙ ap Err (sym c.at-then-t-gt-MOST_TRUNCATION.ensures)

pub returns-then-transform-horizon : goal.returns-then-transform-horizon
unfolding short any_short
returns-then-transform-horizon c =
    tested_short _ c.args.totals _ _ c.in-Some.is c.if-t-gt-MOST_LOAD.false c.if-t-gt-MOST_TRUNCATION.false
    (grind (arith, nat_tests, c.then-transform-horizon.either)) ∙ ap Err (sym c.at-then-transform-horizon.ensures)

pub returns : goal.returns
unfolding short any_short
returns c =
    record {
      inside_is = c.in-Some.is;
      load_within = c.if-t-gt-MOST_LOAD.false;
      truncation_within = c.if-t-gt-MOST_TRUNCATION.false;
      long = grind (arith, nat_tests);
    }
