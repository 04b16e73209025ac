-- The head, the cells and the foot, which are within `room` together.
use mathlib.Core.Path.{refl}
use native.Mathlib.Omega.{arith}
use Prim.Native.Nat.{◌≤◌}
use lib.ListN.{length}
use borrow.Author.Rules.{rules}
use Rattle.writing.proofs.PieceLaws.{puts_then, puts_written, written_to}
use Rattle.answer_text.specs.Pieces.{head, foot, accepted_lines, PrintableCells}
use Rattle.answer_text.proofs.ListingSizes.{head_size, foot_size, accepted_size}
use Rattle.answer_text.proofs.Accepted.write.Goals as goal

pub returns : goal.returns
unfolding accepted_lines
returns c =
    let a = c.args.self in
    let s = a.figures in
    let g : PrintableCells s.truncation a.f.now a.r.now a.sums.now a.count = search rules in
    let head_small : length (head s) ≤ 58 = head_size s (search rules) (search rules) in
    let foot_small : length (foot s) ≤ 84 = foot_size s (search rules) (search rules) (search rules) in
    let cells = c.put_cells.ensures in
    λ enough. written_to c.put_foot.new.text.bytes.now (search rules)
    (puts_written refl (omega (arith, accepted_size s _ _ _ _ head_small cells.in_room foot_small g.most))
    (puts_then c.put_head.ensures (puts_then cells.puts c.put_foot.ensures)))
