-- The group decides which terms are added. H gains nothing from group 2.
use borrow.Author.Tests.{eq-eqb, ne_eqb}
use Rattle.widths.specs.PlacedTerms.{life_single, life_replaced, replaced_none}
use Rattle.transform.proofs.terms.add_point.Goals as goal

pub add_single-requires : goal.add_single-requires
add_single-requires c =
    let s = c in
    let a = s.args in
    let e = eq-eqb _ _ c.if-p-eq-SINGLE.true in
    (s.requires.in_range, e, s.requires.order, rw (life_single a.x.horizon a.x.order a.x.frequency a.p.life e) at s.requires.room)

pub returns-then-p-eq-SINGLE : goal.returns-then-p-eq-SINGLE
returns-then-p-eq-SINGLE c =
    let n = c in
    let a = n.args in
    let e = life_single a.x.horizon a.x.order a.x.frequency a.p.life (eq-eqb _ _ n.if-p-eq-SINGLE.true) in
    let t = c.add_single.ensures in
    record { d_is = rw e t.transform_after; h_is = rw e t.h_after }

pub add_replaced-requires : goal.add_replaced-requires
add_replaced-requires c =
    let s = c in
    let a = s.args in
    let e = life_replaced a.x.horizon a.x.order a.x.frequency a.p.life (ne_eqb _ _ c.if-p-eq-SINGLE.false) in
    (s.requires.in_range, s.requires.frequency, rw e at s.requires.room.in_d)

pub returns : goal.returns
returns c =
    let n = c in
    let a = n.args in
    let e = life_replaced a.x.horizon a.x.order a.x.frequency a.p.life (ne_eqb _ _ n.if-p-eq-SINGLE.false) in
    record { d_is = rw e c.add_replaced.ensures; h_is = rw e (replaced_none a.x.horizon a.x.frequency a.p.life a.p.lives a.h.now) }
