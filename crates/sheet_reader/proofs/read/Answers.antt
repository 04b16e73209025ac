-- `sheet_reader::read`: the header text decides, or the rows of both sheets.
use Rattle.std.specs.Prelude.{Ok}
use Rattle.std.proofs.Common.{sym, ap, ◌∙◌}
use Rattle.std.proofs.lemmas.Result.{err_from_is_err_and}
use Rattle.fund.specs.Reading.{header_lines}
use Rattle.rows.specs.Read.{file_read, read_as}
use Rattle.sheet_reader.proofs.Header.{header_stops, more_bytes, rows_follow}
use Rattle.sheet_reader.proofs.read.Goals as goal

pub returns-in_err-fund : goal.returns-in_err-fund
unfolding file_read
returns-in_err-fund c =
    let p = err_from_is_err_and c.from_residual.result c.from_residual.ensures.1 in
    rw (p.1, p.2, header_stops _ _ _ c.in_err-fund.ensures)

pub returns-then-end-header : goal.returns-then-end-header
unfolding file_read header_lines
returns-then-end-header c = rw (c.at.ensures, more_bytes _ _ _ _ _ c.in_ok-fund.ensures c.if-end-header.true)

pub returns : goal.returns
returns c =
    let fund = c.in_ok-fund.fund in
    ap Ok c.read.ensures ∙ sym (ap (read_as fund _ _) c.in_ok-add_rows.was) ∙ c.add_rows.ensures fund ∙ ap file_read (sym (rows_follow _ _ _ _ _ c.in_ok-fund.ensures c.if-end-header.false))

pub returns-in_err-add_rows : goal.returns-in_err-add_rows
returns-in_err-add_rows c =
    let fund = c.in_ok-fund.fund in
    let p = err_from_is_err_and c.from_residual-in_err-add_rows.result c.from_residual-in_err-add_rows.ensures.1 in
    rw (p.1, p.2) (sym (ap (read_as fund _ _) c.in_err-add_rows.was) ∙ c.add_rows.ensures fund ∙ ap file_read (sym (rows_follow _ _ _ _ _ c.in_ok-fund.ensures c.if-end-header.false)))
