-- `moves::excess`: the tariff's answer for the bound with itself, and a centime.
use mathlib.Core.Path.{◌≡◌, sym, ◌∙◌, ap}
use native.Mathlib.Omega.{arith}
use lib.IntN.{pos}
use mir.Syntax.{w64}
use mir.Facts.{to_z_pos}
use Rattle.tariff.specs.Gross.{gross_of}
use Rattle.moves.proofs.GrossExcess.{excess_is, not_outside, excess_most}
use Rattle.moves.proofs.excess.Goals as goal
use Rattle.moves.proofs.excess.Goals.{After-gross_premium}

answered : (g : After-gross_premium) → let a = g.args in g.gross_premium.result ≡ gross_of a.fund (pos a.within) a.within
answered g = let a = g.args in g.gross_premium.ensures ∙ ap (λ z. gross_of a.fund z a.within) (to_z_pos w64 (omega (arith, g.requires.2)))

pub returns-in-Some : goal.returns-in-Some
returns-in-Some c =
    let g = c in
    let a = g.args in
    let p = g.requires in
    excess_is a.fund a.within p.0 p.1 _ (sym (answered (goal.at.returns-in-Some c).After-gross_premium) ∙ c.in-Some.is)

pub overflow_add-result : goal.overflow_add-result
overflow_add-result c =
    let g = c in
    let a = g.args in
    let p = g.requires in
    record { fits = omega (arith, excess_most a.fund a.within p.0 p.1 p.2, returns-in-Some c) }

pub returns-in-None : goal.returns-in-None
returns-in-None c =
    let g = c in
    let a = g.args in
    let p = g.requires in
    absurd (not_outside a.fund a.within p.0 p.1 (sym (answered (goal.at.returns-in-None c).After-gross_premium) ∙ c.in-None.is))
