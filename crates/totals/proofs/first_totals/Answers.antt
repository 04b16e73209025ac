-- The totals of a table in its ranges, or none.
use mathlib.Core.Path.{sym, ◌∙◌}
use Rattle.totals.proofs.InsideTells.{inside_tells}
use Rattle.totals.proofs.TableTotals.{totals_in, totals_out}
use Rattle.totals.proofs.first_totals.Goals as goal

pub returns-then-not-inside : goal.returns-then-not-inside
returns-then-not-inside c = totals_out c.args.fund c.args.points.now (sym c.inside.ensures ∙ c.if-not-inside.true)

pub lives_totals-requires : goal.lives_totals-requires
lives_totals-requires c =
    let h = (inside_tells c.args.fund _ c.args.points.now).yes (sym c.inside.ensures ∙ c.if-not-inside.false) in
    (h.1.1, h.1.0)

pub returns : goal.returns
returns c = totals_in c.args.fund c.args.points.now c.lives_totals.result (sym c.inside.ensures ∙ c.if-not-inside.false) c.lives_totals.ensures
