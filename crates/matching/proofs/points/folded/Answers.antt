-- A rate with an amount of 0 is 0.
use Rattle.fund.specs.Folding.{folded}
use Rattle.matching.proofs.points.folded.Goals as goal

pub returns : goal.returns
unfolding folded
returns c = rw (c.counted.ensures, c.counted-2.ensures)
