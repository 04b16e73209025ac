-- The contract of the comparison's listing, in plain words.
use Rattle.claims.proofs.Compared.{prints_move}
use Rattle.claims.proofs.comparing.claimed_comparison_print.Goals as goal

pub returns : goal.returns
returns c = prints_move _ _ _ _ _ c.print.ensures.prints_comparison
