-- What `pricing::price` answers is handed over.
use Rattle.miguepo.proofs.HostedFields.{hosts}
use Rattle.miguepo.proofs.miguepo_price.Goals as goal

pub returns-clause-hosts : goal.returns-clause-hosts
returns-clause-hosts c = hosts _ _ _ _ c.price-answer.result c.price-answer.new.cells c.price-answer.ensures.prices _ c.hand_over.ensures
