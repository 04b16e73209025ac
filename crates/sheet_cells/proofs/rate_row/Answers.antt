-- `sheet_cells::rate_row`: by its length, then by what its callees ensure of its cells.
use Rattle.std.proofs.Common.{◌∙◌, arith}
use Rattle.fund.specs.Limits.{most_age}
use Rattle.fund.specs.SheetCells.{whole_in, rate_in}
use Rattle.sheet_cells.proofs.Rows.{taken, rate_short, rate_no_age, rate_no_q, rate_no_i, rate_some}
use Rattle.sheet_cells.proofs.rate_row.Goals as goal

pub returns-then-row-ne-RATE_WIDTH : goal.returns-then-row-ne-RATE_WIDTH
returns-then-row-ne-RATE_WIDTH c = rate_short c.args.row.now (λ e. omega arith)

pub returns-in_err-number : goal.returns-in_err-number
returns-in_err-number c =
    c.from_residual.ensures
    ∙ rate_no_age c.args.row.now (omega arith) (taken c.args.row.now 0 (whole_in 0 most_age) c.word-age.ensures c.float.ensures c.classed.ensures.0 c.number.ensures c.in_err-number.was)

pub returns-in_err-rate_in : goal.returns-in_err-rate_in
returns-in_err-rate_in c =
    let age = taken c.args.row.now 0 (whole_in 0 most_age) c.word-age.ensures c.float.ensures c.classed.ensures.0 c.number.ensures c.in_ok-number.was in
    c.from_residual-in_err-rate_in.ensures
    ∙ rate_no_q c.args.row.now (omega arith) age (taken c.args.row.now 8 rate_in c.word-q.ensures c.float-2.ensures c.classed-2.ensures.0 c.rate_in.ensures c.in_err-rate_in.was)

pub returns-in_err-rate_in-2 : goal.returns-in_err-rate_in-2
returns-in_err-rate_in-2 c =
    let age = taken c.args.row.now 0 (whole_in 0 most_age) c.word-age.ensures c.float.ensures c.classed.ensures.0 c.number.ensures c.in_ok-number.was in
    let q = taken c.args.row.now 8 rate_in c.word-q.ensures c.float-2.ensures c.classed-2.ensures.0 c.rate_in.ensures c.in_ok-rate_in.was in
    c.from_residual-in_err-rate_in-2.ensures
    ∙ rate_no_i c.args.row.now (omega arith) age q (taken c.args.row.now 16 rate_in c.word-i.ensures c.float-3.ensures c.classed-3.ensures.0 c.rate_in-2.ensures c.in_err-rate_in-2.was)

pub returns : goal.returns
returns c =
    let age = taken c.args.row.now 0 (whole_in 0 most_age) c.word-age.ensures c.float.ensures c.classed.ensures.0 c.number.ensures c.in_ok-number.was in
    let q = taken c.args.row.now 8 rate_in c.word-q.ensures c.float-2.ensures c.classed-2.ensures.0 c.rate_in.ensures c.in_ok-rate_in.was in
    rate_some c.args.row.now (omega arith) age q (taken c.args.row.now 16 rate_in c.word-i.ensures c.float-3.ensures c.classed-3.ensures.0 c.rate_in-2.ensures c.in_ok-rate_in-2.was)
