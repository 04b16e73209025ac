-- A term that is not placed adds nothing; a placed one is what `add_term` adds at its place.
use mathlib.Core.Path.{◌≡◌, sym, ◌∙◌}
use mathlib.Core.Bool.{true}
use Rattle.fund.specs.Transform.{placed}
use Rattle.widths.specs.PlacedTerms.{left_out_d, left_out_h, placed_d, placed_h, term_room}
use Rattle.transform.proofs.terms.add_at.Goals as goal
use Rattle.transform.proofs.terms.add_at.Goals.{Else-not-placed}

pub placed-requires : goal.placed-requires
placed-requires c = c.place-x.ensures

pub returns-then-not-placed : goal.returns-then-not-placed
returns-then-not-placed c =
    let a = c.args in
    let e = sym c.placed.ensures ∙ c.if-not-placed.true in
    record { transform_after = left_out_d a.horizon a.p.life a.n a.l a.p.lives e a.transform.now; h_after = left_out_h a.horizon a.p.life a.n a.l a.p.lives e a.h.now }

is_placed : (c : Else-not-placed) → let a = c.args in placed a.horizon a.p.life a.n a.l ≡ true
is_placed c = sym c.placed.ensures ∙ c.if-not-placed.false

pub add_term-requires : goal.add_term-requires
add_term-requires c =
    let y = c in
    let s = y in
    let a = s.args in
    rw y.place-x.ensures
    (term_room a.horizon a.p.life a.n a.l a.p.lives (is_placed (goal.at.add_term-requires c).Else-not-placed) s.requires.0 s.requires.2 s.requires.3)

pub returns : goal.returns
returns c =
    let y = c in
    let s = y in
    let a = s.args in
    let t = c.add_term in
    let x = y.place-x.ensures in record { transform_after = rw (placed_d a.horizon a.p.life a.n a.l a.p.lives (is_placed (goal.at.returns c).Else-not-placed) a.transform.now, ← s.requires.2, ← x) t.ensures.transform_after; h_after = rw (placed_h a.horizon a.p.life a.n a.l a.p.lives (is_placed (goal.at.returns c).Else-not-placed) a.h.now, ← x) t.ensures.h_after }
