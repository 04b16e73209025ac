-- What is written is what is asked of the call's answer.
use mathlib.Core.Path.{◌≡◌}
use borrow.Author.Rules.{rules}
use Rattle.fund.specs.Cells.{lengths}
use Rattle.laws.specs.Ranges.{read_ranges}
use Rattle.fund_printing.proofs.ShownListing.{lent_lengths}
use Rattle.fund_printing.proofs.ShownAsked.{written}
use Rattle.fund_printing.proofs.print.Goals as goal

pub returns-clause-written : goal.returns-clause-written
returns-clause-written c =
    let file = c.args.file.now in
    let answer = c.price-answer in
    let lent : lengths c.new-cells.result ≡ lent_lengths = search rules in
    written file _ (read_ranges file) answer.result answer.new.cells c.args.asked c.level.ensures (rw lent at answer.ensures.prices.answers) c.write_asked.ensures
