-- `sheet_cells::number::rate_in`: by the two cases of a cell; a subnormal is never taken.
use Rattle.std.proofs.Common.{sym, ap, ◌∙◌, rules}
use Rattle.sheet_cells.specs.Plain.{number_no_nan, subnormal_never}
use Rattle.fund.specs.SheetCells.{rate_in}
use Rattle.sheet_cells.proofs.number.rate_in.Goals as goal

pub returns-in_err-q : goal.returns-in_err-q
unfolding rate_in
returns-in_err-q c = c.from_residual.ensures ∙ sym (ap rate_in c.in_err-q.was)

pub is_subnormal-requires : goal.is_subnormal-requires
is_subnormal-requires c = number_no_nan _ c.in_ok-q.was c.requires

pub returns-then-is_subnormal : goal.returns-then-is_subnormal
unfolding rate_in
returns-then-is_subnormal c =
    sym (ap rate_in c.in_ok-q.was ∙ (subnormal_never c.in_ok-q.q (search rules) (sym c.is_subnormal.ensures ∙ c.if-is_subnormal.true)).0)

pub rate-requires : goal.rate-requires
rate-requires c = (number_no_nan _ c.in_ok-q.was c.requires, sym c.is_subnormal.ensures ∙ c.if-is_subnormal.false)

pub returns : goal.returns
unfolding rate_in
returns c = c.rate.ensures ∙ sym (ap rate_in c.in_ok-q.was)
