-- `lines::line::Line::spelled`: the numbers stand behind the key, in a line that has its line feed.
use Rattle.std.proofs.Common.{length, sym, ◌∙◌}
use borrow.Author.Tests.{le-leb}
use Rattle.spelling.specs.Text.{few_numbers}
use Rattle.lines.specs.Lines.{line_of}
use Rattle.lines.proofs.Lines.{rest_all, behind_length, spelled_open, spelled_not, spelled_behind}
use Rattle.lines.proofs.line.Line.spelled.Goals as goal
use Rattle.lines.proofs.line.Line.spelled.Goals.{else-self-via-then-self+else-begins, else-self-via-else-self}

pub slice_bounds-numbers_of-count : goal.slice_bounds-numbers_of-count
slice_bounds-numbers_of-count c = behind_length _ _ _ c.if-begins.ensures

pub slice_bounds-numbers_of-start : goal.slice_bounds-numbers_of-start
slice_bounds-numbers_of-start c = behind_length _ _ _ c.if-begins.ensures

pub returns-then-begins : goal.returns-then-begins
unfolding few_numbers
returns-then-begins c =
    let a = c.args in
    c.numbers_of.ensures.numbers_are
    ∙ rw (le-leb a.count 5 c.requires, rest_all (length a.key.now) a.self.text.now) (sym (spelled_behind a.key.now a.count (line_of a.self) c.if-self.true _ c.if-begins.ensures))

pub returns : goal.returns
returns c =
    let a = c.args in
    elim c.else-self.branch [
      | else-self-via-then-self+else-begins w ↦ sym (spelled_not a.key.now a.count (line_of a.self) w.if-self.true (w.begins.ensures ∙ rw w.if-begins.false))
      | else-self-via-else-self w ↦ sym (spelled_open a.key.now a.count (line_of a.self) w.if-self.false)
    ]
