-- Two pricings of what was read, and what is told of both.
use Rattle.std.proofs.Common.{◌∙◌}
use Rattle.fund.specs.Cells.{lengths}
use Rattle.laws.specs.Ranges.{read_ranges}
use Rattle.pricing.proofs.PricedRead.{prices_read}
use Rattle.comparison.proofs.ComparedFiles.{told_as_defined, compares}
use Rattle.comparison.proofs.compare.Goals as goal

pub returns-clause-compares : goal.returns-clause-compares
returns-clause-compares c =
    let a = c.args in
    let n = lengths a.old_cells.now in
    let m = lengths a.new_cells.now in
    let p = c.price_read-before in
    let q = c.price_read-after in
    let old_found = c.rows_of-old_rows.ensures _ c.read-first.ensures in
    let new_found = c.rows_of-new_rows.ensures _ c.read-second.ensures in
    let k = prices_read a.old.now _ n a.level p.result p.new.cells p.ensures.prices _ old_found (read_ranges a.old.now) in
    let l = prices_read a.new.now _ m a.level q.result q.new.cells q.ensures.prices _ new_found (read_ranges a.new.now) in
    compares a.old.now a.new.now a.level n m p.result q.result _ _ k l c.told.result
    (c.told.ensures ∙ told_as_defined a.old.now a.new.now a.level n m p.new.cells q.new.cells p.result q.result _ _ k l old_found new_found)
