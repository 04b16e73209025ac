-- What is stored is what `moved` gives of the cell as it was read.
use borrow.Author.Rules.{sfits_of}
use mathlib.Core.Path.{◌∙◌, ap}
use lib.IntN.{pos, ◌+ℤ◌}
use lib.ListN.{get_or, set}
use mir.Syntax.{w64}
use mir.Facts.{to_z-of_z}
use Rattle.whole.specs.Sign.{signed}
use Rattle.transform.proofs.terms.shift.Goals as goal

pub returns : goal.returns
returns c =
    let a = c.args in
    let cell = to_z-of_z {w = w64} {z = get_or a.transform.now a.x (pos 0)} (sfits_of c.moved-arg-1.given) in
    ap (set a.transform.now a.x)
    (to_z-of_z (sfits_of {w = w64} c.moved.type_inv) ∙ c.moved.ensures ∙ ap (λ z. z +ℤ signed a.minus a.amount) cell)
