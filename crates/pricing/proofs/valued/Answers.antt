-- The valuation of all model points (cited, so that what breaks it is refused at a fact); where refusals 3 to 6 stop, their refusal, and all cells are
-- zero.
use Rattle.std.specs.Prelude.{length}
use Rattle.std.proofs.Common.{sym, ◌∙◌, ap}
use Rattle.fund.specs.Cells.{lengths}
use Rattle.matching.specs.Matching.{with_points}
use Rattle.valuation.specs.Valued.{valuation}
use Rattle.pricing.specs.Priced.{valued_by}
use Rattle.pricing.proofs.Cleared.{cleared_rows}
use Rattle.pricing.proofs.valued.Goals as goal

pub returns-in-Ok-clause-left : goal.returns-in-Ok-clause-left
unfolding with_points
returns-in-Ok-clause-left c =
    let a = c.args in
    let n = lengths a.cells.now in
    c.value.ensures.left
    ∙ ap (λ ps. valuation a.rows.fund (length ps) ps n) c.as_slice.ensures.value
    ∙ ap (valued_by a.rows.fund n) (sym (ap (with_points c.match_points.new.points.items) c.in-Ok.is) ∙ c.match_points.ensures.matched)

pub returns-in-Err-clause-left : goal.returns-in-Err-clause-left
unfolding with_points
returns-in-Err-clause-left c =
    let a = c.args in
    let n = lengths a.cells.now in
    cleared_rows n c.in-Err.refused c.clear.new.self c.clear.ensures.zeros
    ∙ ap (valued_by a.rows.fund n) (sym (ap (with_points c.match_points.new.points.items) c.in-Err.is) ∙ c.match_points.ensures.matched)
