-- Above the largest level there is none; else the first of the sums up to the horizon.
use Rattle.std.proofs.Common.{rules, arith}
use Rattle.quantile.proofs.FirstPlace.{counted, quantile_above}
use Rattle.quantile.proofs.quantile.Goals as goal

pub returns-then-level-gt-MOST_LEVEL : goal.returns-then-level-gt-MOST_LEVEL
returns-then-level-gt-MOST_LEVEL c = quantile_above _ c.args.horizon c.args.sums.now c.if-level-gt-MOST_LEVEL.true

pub returns : goal.returns
returns c =
    let a = c.args in
    let is = counted a.level a.horizon _ _ a.sums.now (omega arith) c.saturating_add.ensures c.min-count.ensures c.if-level-gt-MOST_LEVEL.false in
    search (rules, is, c.first_reached.ensures)
