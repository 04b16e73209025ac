-- `up` meets its contract: the rest of the division tells whether one is added.
use Rattle.std.proofs.Common.{sym, ap, ◌∙◌, arith}
use Rattle.rounding.specs.Rounding.{up}
use Rattle.rounding.proofs.Laws.{up_by_zero}
use Rattle.whole.proofs.Quotients.{up_is}
use Rattle.whole.proofs.up.Goals as goal

pub returns-then-b-eq0 : goal.returns-then-b-eq0
returns-then-b-eq0 c = sym (ap (up c.before.args.a) c.if-b-eq0.true ∙ up_by_zero c.before.args.a)

pub returns : goal.returns
returns c = c.div_ceil.ensures ∙ up_is c.args.a c.args.b (omega arith)
