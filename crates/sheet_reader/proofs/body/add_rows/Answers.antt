-- `sheet_reader::body::add_rows`: one law for each way through the two loops.
use Rattle.std.proofs.Common.{ℕ, sym, ap, ◌∙◌}
use Rattle.std.proofs.lemmas.Result.{err_from_is_err_and}
use Rattle.std.specs.Slice.Iter.{chunks_rest, chunks_size}
use Rattle.std.specs.declared.slice.Chunks.{Chunks}
use Rattle.rows.specs.Read.{file_read}
use Rattle.rows.proofs.InRange.{out_of_range, is_in_range, rates_more, members_more}
use Rattle.sheet_reader.proofs.Steps.{all_left, rates_end, rows_end, rate_not_taken, rate_refused, rate_added, member_not_taken, member_refused, member_added}
use Rattle.sheet_reader.proofs.body.add_rows.Goals as goal

pub loop-rate-init : goal.loop-rate-init
loop-rate-init c =
    let is = c.into_iter-rate-iterator.ensures.into_iter_gives in
    let n = c.requires in (
      ap (λ (x : Chunks ℕ). chunks_size x) is ∙ c.chunks-rate-items.ensures.size,
      λ fund. rw (n.0, n.1, ap (λ (x : Chunks ℕ). chunks_rest x) is ∙ c.chunks-rate-items.ensures.rest, all_left),
    )

pub loop-member-init : goal.loop-member-init
loop-member-init c =
    let is = c.into_iter-member-iterator.ensures.into_iter_gives in (
      ap (λ (x : Chunks ℕ). chunks_size x) is ∙ c.chunks-member-items.ensures.size,
      λ fund. rw (ap (λ (x : Chunks ℕ). chunks_rest x) is ∙ c.chunks-member-items.ensures.rest) (c.loop-rate.invariant.1 fund ∙ rates_end fund _ _ _ _ c.in-None.ensures.steps.1.0),
    )

pub returns-in_default : goal.returns-in_default
unfolding file_read
returns-in_default c fund =
    let i = c.loop-rate.invariant in
    let s = c.in-Some.ensures.steps in
    rw (c.not_taken.ensures, i.1 fund, rate_not_taken _ _ _ _ _ _ _ s.1.0 (rw i.0 at s.1.1) s.1.2 c.in_default.ensures)

pub returns-in_err-add_rate : goal.returns-in_err-add_rate
unfolding file_read
returns-in_err-add_rate c fund =
    let i = c.loop-rate.invariant in
    let s = c.in-Some.ensures.steps in
    let out = out_of_range _ _ (sym c.add_rate.ensures.answer ∙ c.in_err-add_rate.was) in
    let p = err_from_is_err_and c.from_residual.result c.from_residual.ensures.1 in
    rw (p.1, p.2, out.1, i.1 fund, rate_refused _ _ _ _ _ _ _ s.1.0 (rw i.0 at s.1.1) s.1.2 _ c.in-Some-rate_row.ensures out.0)

pub loop-rate-preserved : goal.loop-rate-preserved
loop-rate-preserved c =
    let i = c.loop-rate.invariant in
    let s = c.in-Some.ensures.steps in
    let fits = is_in_range _ _ (sym c.add_rate.ensures.answer ∙ c.in_ok-add_rate.was) in
    (s.0 ∙ i.0, λ fund. rw (c.add_rate.ensures.rates ∙ rates_more _ _ fits, c.add_rate.ensures.members, i.1 fund) (rate_added _ _ _ _ _ _ _ s.1.0 (rw i.0 at s.1.1) s.1.2 _ c.in-Some-rate_row.ensures fits))

pub returns-in_default-member_row : goal.returns-in_default-member_row
unfolding file_read
returns-in_default-member_row c fund =
    let i = c.loop-member.invariant in
    let s = c.in-Some-member.ensures.steps in
    rw (c.not_taken-in_default-member_row.ensures, i.1 fund, member_not_taken _ _ _ _ _ _ s.1.0 (rw i.0 at s.1.1) s.1.2 c.in_default-member_row.ensures)

pub returns-in_err-add_member : goal.returns-in_err-add_member
unfolding file_read
returns-in_err-add_member c fund =
    let i = c.loop-member.invariant in
    let s = c.in-Some-member.ensures.steps in
    let out = out_of_range _ _ (sym c.add_member.ensures.answer ∙ c.in_err-add_member.was) in
    let p = err_from_is_err_and c.from_residual-in_err-add_member.result c.from_residual-in_err-add_member.ensures.1 in
    rw (p.1, p.2, out.1, i.1 fund, member_refused _ _ _ _ _ _ s.1.0 (rw i.0 at s.1.1) s.1.2 _ c.in-Some-member_row.ensures out.0)

pub loop-member-preserved : goal.loop-member-preserved
loop-member-preserved c =
    let i = c.loop-member.invariant in
    let s = c.in-Some-member.ensures.steps in
    let fits = is_in_range _ _ (sym c.add_member.ensures.answer ∙ c.in_ok-add_member.was) in
    (s.0 ∙ i.0, λ fund. rw (c.add_member.ensures.rates, c.add_member.ensures.members ∙ members_more _ _ fits, i.1 fund) (member_added _ _ _ _ _ _ s.1.0 (rw i.0 at s.1.1) s.1.2 _ c.in-Some-member_row.ensures fits))

pub returns : goal.returns
unfolding file_read
returns c fund = rw (c.loop-member.invariant.1 fund, rows_end fund _ _ _ c.in-None-member.ensures.steps.1.0)
