-- `reader::body::add_rows`: one law for each way through the loop.
use Rattle.std.proofs.Common.{refl, sym, ◌∙◌, arith}
use Rattle.std.proofs.lemmas.Result.{err_from_is_err_and}
use Rattle.rows.specs.Read.{file_read}
use Rattle.rows.proofs.InRange.{out_of_range, is_in_range, rates_more, members_more}
use Rattle.reader.proofs.Steps.{rows_other, rows_order, rows_rate_out, rows_rate, rows_member_out, rows_member, rows_count, rows_more, rows_end}
use Rattle.reader.proofs.body.add_rows.Goals as goal

pub loop-row-init : goal.loop-row-init
loop-row-init c fund = rw (c.requires.0, c.requires.1) refl

pub returns-then-members_read-gt0 : goal.returns-then-members_read-gt0
unfolding file_read
returns-then-members_read-gt0 c fund =
    let w = rw c.in-Rate.is at c.in-Some.ensures in
    rw (c.at.ensures, c.line.ensures.value, c.loop-row.invariant fund, rows_order _ _ _ _ c.loop-row.rows.members.items _ _ w (omega (arith, c.members_read.ensures)))

pub returns-in_err-add_rate-in-Rate : goal.returns-in_err-add_rate-in-Rate
unfolding file_read
returns-in_err-add_rate-in-Rate c fund =
    let w = rw c.in-Rate.is at c.in-Some.ensures in
    let out = out_of_range _ _ (sym c.add_rate.ensures.answer ∙ c.in_err-add_rate-in-Rate.was) in
    let p = err_from_is_err_and c.from_residual.result c.from_residual.ensures.1 in
    rw (p.1, p.2, out.1, c.loop-row.invariant fund, rows_rate_out _ _ _ _ c.loop-row.rows.members.items _ _ w (omega (arith, c.members_read.ensures)) out.0)

pub returns-in_err-add_member-in-Member : goal.returns-in_err-add_member-in-Member
unfolding file_read
returns-in_err-add_member-in-Member c fund =
    let w = rw c.in-Member.is at c.in-Some.ensures in
    let out = out_of_range _ _ (sym c.add_member.ensures.answer ∙ c.in_err-add_member-in-Member.was) in
    let p = err_from_is_err_and c.from_residual-in_err-add_member-in-Member.result c.from_residual-in_err-add_member-in-Member.ensures.1 in
    rw (p.1, p.2, out.1, c.loop-row.invariant fund, rows_member_out _ _ _ _ _ _ _ w out.0)

pub returns-then-count-members_read : goal.returns-then-count-members_read
unfolding file_read
returns-then-count-members_read c fund =
    let w = rw c.in-End.is at c.in-Some.ensures in
    rw (c.at-then-count-members_read.ensures, c.line-then-count-members_read.ensures.value, c.loop-row.invariant fund, rows_count _ _ _ _ c.loop-row.rows.members.items _ _ w (λ e. omega (arith, e, c.members_read-in-End.ensures)))

pub returns-then-next-file : goal.returns-then-next-file
unfolding file_read
returns-then-next-file c fund =
    let w = rw c.in-End.is at c.in-Some.ensures in
    rw (c.at-then-next-file.ensures, c.line-then-next-file.ensures.value, c.loop-row.invariant fund, rows_more _ _ _ _ c.loop-row.rows.members.items _ _ w (omega (arith, c.members_read-in-End.ensures)) c.if-next-file.true)

pub returns-in-End : goal.returns-in-End
unfolding file_read
returns-in-End c fund =
    let w = rw c.in-End.is at c.in-Some.ensures in
    rw (c.loop-row.invariant fund, rows_end _ _ _ _ c.loop-row.rows.members.items _ _ w (omega (arith, c.members_read-in-End.ensures)) c.if-next-file.false)

pub loop-row-preserved-in_ok-add_rate-in-Rate : goal.loop-row-preserved-in_ok-add_rate-in-Rate
loop-row-preserved-in_ok-add_rate-in-Rate c fund =
    let w = rw c.in-Rate.is at c.in-Some.ensures in
    let fits = is_in_range _ _ (sym c.add_rate.ensures.answer ∙ c.in_ok-add_rate-in-Rate.was) in
    rw (c.add_rate.ensures.rates ∙ rates_more _ _ fits, c.add_rate.ensures.members, c.loop-row.invariant fund) (rows_rate _ _ _ _ c.loop-row.rows.members.items _ _ w (omega (arith, c.members_read.ensures)) fits)

pub loop-row-preserved : goal.loop-row-preserved
loop-row-preserved c fund =
    let w = rw c.in-Member.is at c.in-Some.ensures in
    let fits = is_in_range _ _ (sym c.add_member.ensures.answer ∙ c.in_ok-add_member-in-Member.was) in
    rw (c.add_member.ensures.rates, c.add_member.ensures.members ∙ members_more _ _ fits, c.loop-row.invariant fund) (rows_member _ _ _ _ _ _ _ w fits)

pub returns : goal.returns
unfolding file_read
returns c fund = rw (c.at-2.ensures, c.line-2.ensures.value, c.loop-row.invariant fund, rows_other _ _ _ _ _ c.in_default.ensures)
