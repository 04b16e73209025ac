-- The contract of what is printed of a file in memory, in plain words.
use Rattle.claims.proofs.Calls.{prints_read, prints_file}
use Rattle.claims.proofs.claimed_memory.Goals as goal

pub returns : goal.returns
returns c =
    let r = c.print_source.ensures in
    prints_file _ _ _ _ _ _ c.print_source.result (prints_read c.args.asked _ _ _ _ r.shows_input) r.shows_input.holds (r.prints_memory c.memory.ensures)
