-- After l turns the terms of the columns below l are added.
use mathlib.Core.Path.{◌∙◌, ap}
use Prim.Native.Nat.{◌+◌, ◌≤◌}
use native.Mathlib.Omega.{arith}
use lib.ListN.{length, get_or}
use Rattle.fund.specs.Transform.{row_terms}
use Rattle.widths.specs.AddedTerms.{terms_at, times}
use Rattle.laws.specs.Triangle.{length_row}
use Rattle.widths.specs.PlacedTerms.{row_start, row_goes}
use Rattle.widths.specs.Times.{times_none, times_goes}
use Rattle.widths.specs.FilledCells.{begin, turn_room, turn, end_d, end_h, long_d, long_h}
use Rattle.transform.proofs.terms.add_row.Goals as goal
use Rattle.transform.proofs.terms.add_row.Goals.{In-loop-l}

pub loop-l-init : goal.loop-l-init
loop-l-init c =
    let s = c in
    let a = s.args in
    (begin (λ l. times a.p.lives (row_terms a.horizon a.p.life a.n l)) (a.n + 1) (ap (times a.p.lives) (row_start a.horizon a.p.life a.n) ∙ times_none a.p.lives) s.requires.2, s.requires.0, s.requires.1)

in_row : (c : In-loop-l) → c.loop-l.l ≤ 12
in_row c = let r = c.loop-l.invariant.1 in omega arith

pub offset_bounds-row-k : goal.offset_bounds-row-k
offset_bounds-row-k c = omega (arith, in_row (goal.at.offset_bounds-row-k c).In-loop-l)

pub bounds-row-k : goal.bounds-row-k
bounds-row-k c =
    let v = c.loop-l.invariant in
    let a = c.args in
    omega (arith, in_row (goal.at.bounds-row-k c).In-loop-l, ap length v.2, length_row a.p.life a.n)

pub add_at-requires : goal.add_at-requires
add_at-requires c =
    let l = c.loop-l in
    let a = c.args in (
      l.invariant.1,
      omega arith,
      ap (λ r. get_or r l.l 0) l.invariant.2,
      turn_room (λ l. times a.p.lives (row_terms a.horizon a.p.life a.n l)) (λ l. times a.p.lives (terms_at a.horizon a.p.life a.n l))
          (times_goes a.p.lives (row_terms a.horizon a.p.life a.n) (terms_at a.horizon a.p.life a.n) (row_goes a.horizon a.p.life a.n)) l.invariant.0 (omega arith),
    )

pub loop-l-preserved : goal.loop-l-preserved
loop-l-preserved c =
    let v = c.loop-l.invariant in
    let a = c.args in
    let t = c.add_at in (
      turn (λ l. times a.p.lives (row_terms a.horizon a.p.life a.n l)) (λ l. times a.p.lives (terms_at a.horizon a.p.life a.n l))
          (times_goes a.p.lives (row_terms a.horizon a.p.life a.n) (terms_at a.horizon a.p.life a.n) (row_goes a.horizon a.p.life a.n)) v.0 (omega arith) t.ensures.transform_after t.ensures.h_after,
      v.1,
      v.2,
    )

pub shape_of-transform : goal.shape_of-transform
shape_of-transform c = long_d c.loop-l.invariant.0

pub shape_of-h : goal.shape_of-h
shape_of-h c = long_h c.loop-l.invariant.0

pub returns : goal.returns
returns c =
    let f = c.loop-l.invariant.0 in record { transform_after = end_d f (omega arith); h_after = end_h f (omega arith) }
