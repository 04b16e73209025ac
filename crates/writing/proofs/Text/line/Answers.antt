-- `writing::Text::line` meets its contract: the key, and the figure with the line feed.
use Rattle.fund.specs.Listing.{joined}
use Rattle.writing.proofs.PieceLaws.{puts_then}
use Rattle.writing.proofs.Text.line.Goals as goal

pub returns : goal.returns
unfolding joined
returns g c = puts_then c.key.ensures c.figure.ensures
