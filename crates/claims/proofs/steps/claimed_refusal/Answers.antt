-- All slices are zero, and no line is handed back.
use Rattle.std.proofs.Common.{sym, ◌∙◌, ap}
use Rattle.std.specs.Prelude.{[], Ok}
use Rattle.fund.specs.Answer.{refused}
use Rattle.valuation.specs.Valued.{left_valued}
use Rattle.pricing.proofs.Cleared.{cleared_rows, cleared_figures}
use Rattle.claims.proofs.steps.claimed_refusal.Goals as goal

pub returns-in-Ok : goal.returns-in-Ok
returns-in-Ok c = record { same_slices = c.clear.ensures.same_slices; left = ap (λ f. left_valued (Ok f) c.clear.new.self) c.no_figures.ensures ∙ cleared_figures _ c.clear.new.self c.clear.ensures.zeros ∙ ap (refused [] _) (sym c.in-Ok.is) }

pub returns-in-Err : goal.returns-in-Err
returns-in-Err c = record { same_slices = c.clear.ensures.same_slices; left = cleared_rows _ c.in-Err.stop c.clear.new.self c.clear.ensures.zeros ∙ ap (refused [] _) (sym c.in-Err.is) }
