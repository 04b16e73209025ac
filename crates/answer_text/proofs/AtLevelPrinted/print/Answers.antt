-- The line with the place, or the line with `none`.
use mathlib.Core.Path.{ap}
use Rattle.fund.specs.Base.{bytes}
use Rattle.fund.specs.Listing.{joined}
use Rattle.writing.proofs.PieceLaws.{puts_as}
use Rattle.answer_text.specs.Level.{place_text, quantile_line}
use Rattle.answer_text.proofs.AtLevelPrinted.print.Goals as goal

pub returns-in-Some : goal.returns-in-Some
unfolding quantile_line place_text bytes
returns-in-Some c = puts_as _ (ap quantile_line c.in-Some.is) c.line.ensures

pub returns-in-None : goal.returns-in-None
unfolding quantile_line place_text joined bytes
returns-in-None c = puts_as _ (ap quantile_line c.in-None.is) c.key.ensures
