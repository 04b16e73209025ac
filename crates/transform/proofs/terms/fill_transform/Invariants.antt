-- The lines before p are added, and the lines from p on fit.
use Rattle.std.proofs.Common.{drop}
use Rattle.transform.proofs.TableFilled.{Fills}
use Rattle.transform.proofs.terms.fill_transform.Given as goal

abbrev pub invariant-loop-p : goal.invariant-loop-p
invariant-loop-p l = Fills l.points l.x l.initial.transform l.initial.h (drop l.p-index l.points) l.transform l.h
