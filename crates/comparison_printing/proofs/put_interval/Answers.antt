-- The key, the two ends with a comma between, and the line feed.
use mathlib.Core.List.{append_assoc}
use Rattle.fund.specs.Listing.{joined}
use Rattle.writing.proofs.PieceLaws.{puts_then}
use Rattle.comparison_printing.proofs.put_interval.Goals as goal

pub returns : goal.returns
unfolding joined
returns g c = simp append_assoc at (puts_then c.key.ensures (puts_then c.figure.ensures c.figure-2.ensures))
