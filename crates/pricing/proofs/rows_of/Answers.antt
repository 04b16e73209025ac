use Rattle.pricing.proofs.rows_of.Goals as goal
use Rattle.std.proofs.Common.{sym, ◌∙◌}
use Rattle.pricing.proofs.PricedRead.{rows_found, stop_found}

pub returns-in-Ok : goal.returns-in-Ok
returns-in-Ok c = λ x e. rows_found x c.in-Ok.found c.rows.result (sym c.in-Ok.is ∙ e) c.rows.ensures.fund_is c.rows.ensures.rates_are c.rows.ensures.members_are

pub returns-in-Err : goal.returns-in-Err
returns-in-Err c = λ x e. stop_found x c.in-Err.refused (sym c.in-Err.is ∙ e)
