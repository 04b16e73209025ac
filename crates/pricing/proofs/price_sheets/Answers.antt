-- What is read is priced.
use Rattle.fund.specs.Cells.{lengths}
use Rattle.laws.specs.SheetRanges.{sheet_ranges}
use Rattle.pricing.proofs.PricedRead.{prices_read}
use Rattle.pricing.proofs.price_sheets.Goals as goal

pub returns-clause-prices : goal.returns-clause-prices
returns-clause-prices c =
    let a = c.args in
    prices_read a.header.now _ (lengths a.cells.now) a.level c.price_read.result c.price_read.new.cells c.price_read.ensures.prices _ (c.rows_of.ensures _ c.read.ensures) (sheet_ranges a.header.now a.rates.now a.members.now)
