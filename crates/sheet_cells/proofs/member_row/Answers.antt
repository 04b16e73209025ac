-- `sheet_cells::member_row`: by its length, then by what its callees ensure of its cells.
use Rattle.std.proofs.Common.{◌∙◌, arith}
use Rattle.fund.specs.Limits.{most_age, least_group, most_group, least_lives, most_lives}
use Rattle.fund.specs.SheetCells.{whole_in, amount_of}
use Rattle.sheet_cells.proofs.Rows.{taken, member_short, member_no_age, member_no_group, member_no_d, member_no_e, member_no_lives, member_some}
use Rattle.sheet_cells.proofs.member_row.Goals as goal

pub returns-then-row-ne-MEMBER_WIDTH : goal.returns-then-row-ne-MEMBER_WIDTH
returns-then-row-ne-MEMBER_WIDTH c = member_short c.args.row.now (λ e. omega (arith, c.if-row-ne-MEMBER_WIDTH.true e))

pub returns-in_err-number : goal.returns-in_err-number
returns-in_err-number c =
    c.from_residual.ensures ∙ member_no_age c.args.row.now (omega arith) (taken c.args.row.now 0 (whole_in 0 most_age) c.word-age.ensures c.float.ensures c.classed.ensures.0 c.number.ensures c.in_err-number.was)

pub returns-in_err-number-2 : goal.returns-in_err-number-2
returns-in_err-number-2 c =
    let age = taken c.args.row.now 0 (whole_in 0 most_age) c.word-age.ensures c.float.ensures c.classed.ensures.0 c.number.ensures c.in_ok-number.was in
    c.from_residual-in_err-number-2.ensures ∙ member_no_group c.args.row.now (omega arith) age (taken c.args.row.now 8 (whole_in least_group most_group) c.word-group.ensures c.float-2.ensures c.classed-2.ensures.0 c.number-2.ensures c.in_err-number-2.was)

pub returns-in_err-amount : goal.returns-in_err-amount
returns-in_err-amount c =
    let age = taken c.args.row.now 0 (whole_in 0 most_age) c.word-age.ensures c.float.ensures c.classed.ensures.0 c.number.ensures c.in_ok-number.was in
    let group = taken c.args.row.now 8 (whole_in least_group most_group) c.word-group.ensures c.float-2.ensures c.classed-2.ensures.0 c.number-2.ensures c.in_ok-number-2.was in
    c.from_residual-in_err-amount.ensures ∙ member_no_d c.args.row.now (omega arith) age group (taken c.args.row.now 16 amount_of c.word-d.ensures c.float-3.ensures c.classed-3.ensures.0 c.amount.ensures c.in_err-amount.was)

pub returns-in_err-amount-2 : goal.returns-in_err-amount-2
returns-in_err-amount-2 c =
    let age = taken c.args.row.now 0 (whole_in 0 most_age) c.word-age.ensures c.float.ensures c.classed.ensures.0 c.number.ensures c.in_ok-number.was in
    let group = taken c.args.row.now 8 (whole_in least_group most_group) c.word-group.ensures c.float-2.ensures c.classed-2.ensures.0 c.number-2.ensures c.in_ok-number-2.was in
    let d = taken c.args.row.now 16 amount_of c.word-d.ensures c.float-3.ensures c.classed-3.ensures.0 c.amount.ensures c.in_ok-amount.was in
    c.from_residual-in_err-amount-2.ensures ∙ member_no_e c.args.row.now (omega arith) age group d (taken c.args.row.now 24 amount_of c.word-e.ensures c.float-4.ensures c.classed-4.ensures.0 c.amount-2.ensures c.in_err-amount-2.was)

pub returns-in_err-number-3 : goal.returns-in_err-number-3
returns-in_err-number-3 c =
    let age = taken c.args.row.now 0 (whole_in 0 most_age) c.word-age.ensures c.float.ensures c.classed.ensures.0 c.number.ensures c.in_ok-number.was in
    let group = taken c.args.row.now 8 (whole_in least_group most_group) c.word-group.ensures c.float-2.ensures c.classed-2.ensures.0 c.number-2.ensures c.in_ok-number-2.was in
    let d = taken c.args.row.now 16 amount_of c.word-d.ensures c.float-3.ensures c.classed-3.ensures.0 c.amount.ensures c.in_ok-amount.was in
    let e = taken c.args.row.now 24 amount_of c.word-e.ensures c.float-4.ensures c.classed-4.ensures.0 c.amount-2.ensures c.in_ok-amount-2.was in
    c.from_residual-in_err-number-3.ensures ∙ member_no_lives c.args.row.now (omega arith) age group d e (taken c.args.row.now 32 (whole_in least_lives most_lives) c.word-lives.ensures c.float-5.ensures c.classed-5.ensures.0 c.number-3.ensures c.in_err-number-3.was)

pub returns : goal.returns
returns c =
    let age = taken c.args.row.now 0 (whole_in 0 most_age) c.word-age.ensures c.float.ensures c.classed.ensures.0 c.number.ensures c.in_ok-number.was in
    let group = taken c.args.row.now 8 (whole_in least_group most_group) c.word-group.ensures c.float-2.ensures c.classed-2.ensures.0 c.number-2.ensures c.in_ok-number-2.was in
    let d = taken c.args.row.now 16 amount_of c.word-d.ensures c.float-3.ensures c.classed-3.ensures.0 c.amount.ensures c.in_ok-amount.was in
    let e = taken c.args.row.now 24 amount_of c.word-e.ensures c.float-4.ensures c.classed-4.ensures.0 c.amount-2.ensures c.in_ok-amount-2.was in
    member_some c.args.row.now (omega arith) age group d e (taken c.args.row.now 32 (whole_in least_lives most_lives) c.word-lives.ensures c.float-5.ensures c.classed-5.ensures.0 c.number-3.ensures c.in_ok-number-3.was)
