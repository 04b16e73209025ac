-- `lines::line::LineReader::next_line`: a line ends before the next line feed, or where the file does.
use borrow.Author.Tests.{lt-ltb, le-ltb}
use Rattle.lines.proofs.Lines.{end_inside, line_ended, line_open}
use Rattle.lines.proofs.line.LineReader.next_line.Goals as goal
use Rattle.lines.proofs.line.LineReader.next_line.Goals.{then-ended, else-ended}

pub slice_bounds-result-end : goal.slice_bounds-result-end
slice_bounds-result-end c =
    let s = c.args.self.now in
    end_inside s.file.now s.at c.find-end.result c.find-end.ensures c.if-file-start.false

pub returns-clause-line : goal.returns-clause-line
returns-clause-line c =
    let s = c.args.self.now in
    elim c.if-ended.branch [
      | then-ended w ↦ rw w.self-is (line_ended s.file.now s.at c.find-end.result c.find-end.ensures c.if-file-start.false (lt-ltb _ _ w.if-ended.true) w.if-ended.true)
      | else-ended w ↦ rw w.self-is (line_open s.file.now s.at c.find-end.result c.find-end.ensures c.if-file-start.false (le-ltb _ _ w.if-ended.false) w.if-ended.false)
    ]
