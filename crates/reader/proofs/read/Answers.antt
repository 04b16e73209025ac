-- `reader::read`: the header decides, or the rows behind it.
use Rattle.std.specs.Prelude.{Ok}
use Rattle.std.proofs.Common.{◌≡◌, ℕ, suc, ◌+◌, [], length, sym, ap, ◌∙◌, arith}
use Rattle.std.proofs.lemmas.Result.{err_from_is_err_and}
use Rattle.fund.specs.Reading.{file_rows, reading, header_lines, read_rows}
use Rattle.lines.specs.Lines.{lines_at}
use Rattle.rows.specs.Read.{file_read, read_as}
use Rattle.reader.specs.Rows.{rows_from}
use Rattle.reader.proofs.read.Goals as goal
use Rattle.reader.proofs.read.Goals.{In_ok-fund}

pub returns-in_err-fund : goal.returns-in_err-fund
unfolding reading file_read
returns-in_err-fund c =
    let p = err_from_is_err_and c.from_residual.result c.from_residual.ensures.1 in
    rw (p.1, p.2, c.in_err-fund.ensures.same file_rows)

-- what is read is the rows behind the header
follows : (c : In_ok-fund) → let a = c.in_ok-fund in file_read (rows_from a.fund c.args.file.now a.start [] []) ≡ file_read (reading c.args.file.now)
unfolding reading
follows c =
    let a = c.in_ok-fund in
    let z : suc (length header_lines) ≡ suc (length header_lines + 0 + 0) = omega arith in
    ap file_read (sym (a.ensures.same file_rows ∙ ap (λ (k : ℕ). read_rows k a.fund [] [] (lines_at c.args.file.now a.start)) z))

pub returns-in_err-add_rows : goal.returns-in_err-add_rows
returns-in_err-add_rows c =
    let fund = c.in_ok-fund.fund in
    let p = err_from_is_err_and c.from_residual-in_err-add_rows.result c.from_residual-in_err-add_rows.ensures.1 in
    rw (p.1, p.2) (sym (ap (read_as fund _ _) c.in_err-add_rows.was) ∙ c.add_rows.ensures fund ∙ follows (goal.at.returns-in_err-add_rows c).In_ok-fund)

pub returns : goal.returns
returns c =
    let fund = c.in_ok-fund.fund in
    ap Ok c.read.ensures ∙ sym (ap (read_as fund _ _) c.in_ok-add_rows.was) ∙ c.add_rows.ensures fund ∙ follows (goal.at.returns c).In_ok-fund
