-- What `pricing::price_sheets` answers is handed over.
use Rattle.miguepo.proofs.HostedFields.{hosts}
use Rattle.miguepo.proofs.miguepo_price_sheets.Goals as goal

pub returns-clause-hosts : goal.returns-clause-hosts
returns-clause-hosts c = hosts _ _ _ _ c.price_sheets-answer.result c.price_sheets-answer.new.cells c.price_sheets-answer.ensures.prices _ c.hand_over.ensures
