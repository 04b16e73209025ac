-- What the library's call answers. It is cited, so that what breaks it is refused at a fact, and not where a search gives up.
use Rattle.std.proofs.Common.{rules}
use Rattle.miguepo.proofs.Lent.{lent}
use Rattle.miguepo_c.proofs.miguepo_price.Goals as goal

pub returns : goal.returns
returns c =
    lent _ _ _ _ _ c.miguepo_price.new.cells _ _ _ _ _ c.miguepo_price.ensures.hosts
    (record { transform = search rules; h = search rules; f_is = search rules; r = search rules; sums = search rules })
