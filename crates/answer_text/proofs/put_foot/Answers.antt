-- One line behind the other.
use mathlib.Core.Path.{◌≡◌}
use mir.Syntax.{w64}
use mir.Val.{to_z, of_z}
use borrow.Author.Rules.{rules}
use Rattle.fund.specs.Base.{bytes}
use Rattle.writing.proofs.PieceLaws.{puts_then}
use Rattle.answer_text.specs.Pieces.{foot}
use Rattle.answer_text.proofs.put_foot.Goals as goal

pub returns : goal.returns
unfolding foot bytes
returns c =
    let z = c.args.figures.premium in
    let same : to_z w64 (of_z w64 z) ≡ z = search rules in
    puts_then (rw same at c.line.ensures) (puts_then c.line-2.ensures c.line-3.ensures)
