-- The listing of what the call answers is that of the two files.
use mathlib.Core.Path.{◌≡◌}
use borrow.Author.Rules.{rules}
use Rattle.fund.specs.Cells.{lengths}
use Rattle.fund_printing.proofs.ShownListing.{lent_lengths, written_within}
use Rattle.comparison_printing.proofs.ShownComparison.{prints}
use Rattle.comparison_printing.proofs.print.Goals as goal

pub returns : goal.returns
returns c =
    let told = c.compare-compared in
    let old_lent : lengths c.new-old_cells.result ≡ lent_lengths = search rules in
    let new_lent : lengths c.new-new_cells.result ≡ lent_lengths = search rules in
    let w = prints _ _ _ _ told.new.old_cells told.new.new_cells (rw (old_lent, new_lent) at told.ensures.compares) c.listing.ensures in
    record { prints_comparison = w; upper_bound = written_within w.written }
