-- `matching::add_points`: the counts, 3 and 4, then 5 and 6 over all members.
use Rattle.std.proofs.Common.{arith, sym, ◌∙◌, ap, inl, inr}
use Rattle.std.proofs.lemmas.Result.{err_from_is_err_and}
use Rattle.fund.specs.Reading.{header_lines}
use Rattle.fund.specs.Refusals.{first_member}
use Rattle.matching.specs.Matching.{with_points}
use Rattle.matching.proofs.Refusals.{too_many, three, four, five, six}
use Rattle.matching.proofs.add_points.Goals as goal
use Rattle.matching.proofs.add_points.Goals.{then-rows-gt-RATE_ROWS-via-then-rows-gt-RATE_ROWS, then-rows-gt-RATE_ROWS-via-else-rows-gt-RATE_ROWS+then-rows-gt-MEMBER_ROWS}

pub returns-then-rows-gt-RATE_ROWS : goal.returns-then-rows-gt-RATE_ROWS
unfolding with_points
returns-then-rows-gt-RATE_ROWS c =
    rw c.at.ensures
    (too_many c.args.rows
    (elim c.then-rows-gt-RATE_ROWS.branch [
      | then-rows-gt-RATE_ROWS-via-then-rows-gt-RATE_ROWS w ↦ inl w.if-rows-gt-RATE_ROWS.true
      | then-rows-gt-RATE_ROWS-via-else-rows-gt-RATE_ROWS+then-rows-gt-MEMBER_ROWS w ↦ inr (w.if-rows-gt-RATE_ROWS.false, w.if-rows-gt-MEMBER_ROWS.true)
    ]))

pub returns-then-fund : goal.returns-then-fund
unfolding with_points
returns-then-fund c = rw c.at-then-fund.ensures (three c.args.rows c.if-rows-gt-RATE_ROWS.false c.if-rows-gt-MEMBER_ROWS.false c.if-fund.true)

pub returns-then-is_above : goal.returns-then-is_above
unfolding with_points
returns-then-is_above c =
    rw c.at-then-is_above.ensures
    (four c.args.rows c.if-rows-gt-RATE_ROWS.false c.if-rows-gt-MEMBER_ROWS.false c.if-fund.false (sym c.is_above.ensures ∙ c.if-is_above.true))

pub returns-in_err-model_points : goal.returns-in_err-model_points
unfolding first_member header_lines with_points
returns-in_err-model_points c =
    let p = err_from_is_err_and c.from_residual.result c.from_residual.ensures.1 in
    rw (p.1, p.2)
    (five c.args.rows c.if-rows-gt-RATE_ROWS.false c.if-rows-gt-MEMBER_ROWS.false c.if-fund.false (sym c.is_above.ensures ∙ c.if-is_above.false) _ (omega arith) _
    (sym (ap (with_points c.model_points.new.points.items) c.in_err-model_points.was) ∙ c.model_points.ensures))

pub returns : goal.returns
unfolding first_member header_lines with_points
returns c =
    (rw c.as_slice.ensures.value at c.not_half.ensures)
    ∙ six c.args.rows c.if-rows-gt-RATE_ROWS.false c.if-rows-gt-MEMBER_ROWS.false c.if-fund.false (sym c.is_above.ensures ∙ c.if-is_above.false) _ (omega arith) c.model_points.new.points
    (sym (ap (with_points c.model_points.new.points.items) c.in_ok-model_points.was) ∙ c.model_points.ensures)
