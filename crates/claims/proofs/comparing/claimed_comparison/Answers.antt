-- The contract of the comparison, in plain words.
use Rattle.claims.proofs.Compared.{compares_plainly}
use Rattle.claims.proofs.comparing.claimed_comparison.Goals as goal

pub returns : goal.returns
returns c =
    let p = c.compare in
    record { old_slices = p.ensures.old_slices; new_slices = p.ensures.new_slices; compares_plainly = compares_plainly _ _ _ _ _ p.result p.new.old_cells p.new.new_cells p.ensures.compares }
