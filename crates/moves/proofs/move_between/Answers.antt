-- `moves::move_between`: both funds' figures are tested, then the move is formed.
use Rattle.std.proofs.Common.{rules}
use Rattle.moves.specs.Move.{moved_of}
use Rattle.moves.proofs.FiguresRange.{figures_in_lem}
use Rattle.moves.proofs.move_between.Goals as goal

pub returns-else-is_inside : goal.returns-else-is_inside
unfolding moved_of
returns-else-is_inside c = search rules

pub move_of-requires : goal.move_of-requires
move_of-requires c = (figures_in_lem _ _ (search rules), figures_in_lem _ _ (search rules))

pub returns-then-is_inside-2 : goal.returns-then-is_inside-2
unfolding moved_of
returns-then-is_inside-2 c = search rules
