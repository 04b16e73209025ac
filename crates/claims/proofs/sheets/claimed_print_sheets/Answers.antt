-- The contract of what is printed of sheets, in plain words.
use Rattle.laws.specs.SheetRanges.{sheet_ranges}
use Rattle.claims.proofs.Calls.{prints}
use Rattle.claims.proofs.sheets.claimed_print_sheets.Goals as goal

pub returns : goal.returns
returns c =
    let p = c in
    prints p.args.asked _ _ (sheet_ranges _ _ _) _ _ _ p.print_sheets.ensures.written
