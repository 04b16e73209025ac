-- The contract of what is printed of standard input, in plain words.
use Rattle.claims.proofs.Calls.{prints_read}
use Rattle.claims.proofs.claimed_input.Goals as goal

pub returns : goal.returns
returns g c = prints_read c.args.asked _ _ _ _ c.print_input.ensures.shows_input
