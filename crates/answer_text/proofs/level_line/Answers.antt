-- The line where there is room, which it has; and where there is none, nothing.
use mathlib.Core.Path.{ap, ◌∙◌}
use native.Mathlib.Omega.{arith}
use borrow.Author.Rules.{rules}
use Rattle.writing.proofs.NumberSizes.{refusal_length}
use Rattle.writing.proofs.PieceLaws.{written_none, written_as}
use Rattle.answer_text.specs.Level.{answer_line}
use Rattle.answer_text.proofs.Level.{level_short, level_enough}
use Rattle.answer_text.proofs.ListingSizes.{quantile_size}
use Rattle.answer_text.proofs.level_line.Goals as goal

pub returns-then-text-lt-LEVEL_ROOM : goal.returns-then-text-lt-LEVEL_ROOM
returns-then-text-lt-LEVEL_ROOM c = written_as _ (level_short _ _ _ c.if-text-lt-LEVEL_ROOM.true) (written_none _)

pub returns-in-Ok : goal.returns-in-Ok
unfolding answer_line
returns-in-Ok c =
    let enough = c.if-text-lt-LEVEL_ROOM.false in
    written_as _ (level_enough _ _ _ enough ∙ ap (λ v. answer_line v c.args.quantile) c.in-Ok.is) (c.write.ensures (omega (arith, quantile_size c.args.quantile (search rules))))

pub returns-in-Err : goal.returns-in-Err
unfolding answer_line
returns-in-Err c =
    let enough = c.if-text-lt-LEVEL_ROOM.false in
    let r = c.in-Err.refused in
    written_as _ (level_enough _ _ _ enough ∙ ap (λ v. answer_line v c.args.quantile) c.in-Err.is)
    (c.write-in-Err.ensures (omega (arith, refusal_length r.why r.place (search rules))))
