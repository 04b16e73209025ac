-- What is written is what is asked of the call's answer.
use mathlib.Core.Path.{◌≡◌}
use borrow.Author.Rules.{rules}
use Rattle.fund.specs.Cells.{lengths}
use Rattle.laws.specs.SheetRanges.{sheet_ranges}
use Rattle.fund_printing.proofs.ShownListing.{lent_lengths}
use Rattle.fund_printing.proofs.ShownAsked.{written}
use Rattle.fund_printing.proofs.sheets.print_sheets.Goals as goal

pub returns-clause-written : goal.returns-clause-written
returns-clause-written c =
    let a = c.args in
    let answer = c.price_sheets-answer in
    let lent : lengths c.new-cells.result ≡ lent_lengths = search rules in
    written a.header.now _ (sheet_ranges a.header.now a.rates.now a.members.now) answer.result answer.new.cells a.asked c.level.ensures (rw lent at answer.ensures.prices.answers) c.write_asked.ensures
