-- The tariff answers as its definition does; the premium is passed on as it is.
use mathlib.Core.Path.{◌≡◌}
use mir.Syntax.{w64}
use mir.Val.{to_z, of_z}
use borrow.Author.Rules.{rules}
use Rattle.claims.proofs.steps.claimed_gross.Goals as goal

pub returns : goal.returns
returns c =
    let premium = c.args.premium in
    let same : to_z w64 (of_z w64 premium) ≡ premium = search rules in
    rw same at c.gross_premium.ensures
