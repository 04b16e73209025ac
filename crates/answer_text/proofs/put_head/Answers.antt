-- One line behind the other.
use Rattle.fund.specs.Base.{bytes}
use Rattle.writing.proofs.PieceLaws.{puts_then}
use Rattle.answer_text.specs.Pieces.{head}
use Rattle.answer_text.proofs.put_head.Goals as goal

pub returns : goal.returns
unfolding head bytes
returns c = puts_then c.line.ensures c.line-2.ensures
