-- What is read is priced.
use Rattle.fund.specs.Cells.{lengths}
use Rattle.laws.specs.Ranges.{read_ranges}
use Rattle.pricing.proofs.PricedRead.{prices_read}
use Rattle.pricing.proofs.price.Goals as goal

pub returns-clause-prices : goal.returns-clause-prices
returns-clause-prices c =
    let a = c.args in
    prices_read a.file.now _ (lengths a.cells.now) a.level c.price_read.result c.price_read.new.cells c.price_read.ensures.prices _ (c.rows_of.ensures _ c.read.ensures) (read_ranges a.file.now)
