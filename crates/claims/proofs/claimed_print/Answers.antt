-- The contract of what is printed, in plain words.
use Rattle.laws.specs.Ranges.{read_ranges}
use Rattle.claims.proofs.Calls.{prints}
use Rattle.claims.proofs.claimed_print.Goals as goal

pub returns : goal.returns
returns c =
    let p = c in
    prints p.args.asked _ _ (read_ranges _) _ _ _ p.print.ensures.written
