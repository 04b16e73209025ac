-- After n turns the row is row n, and the terms of the rows up to n are added.
use mathlib.Core.Path.{◌∙◌, ap}
use Prim.Native.Nat.{◌+◌}
use native.Mathlib.Omega.{arith}
use Rattle.fund.specs.Transform.{row_terms, single_terms}
use Rattle.widths.specs.AddedTerms.{SingleRow, times}
use Rattle.widths.specs.Triangle.{row_first}
use Rattle.widths.specs.PlacedTerms.{single_start, single_goes}
use Rattle.widths.specs.Times.{times_none, times_goes}
use Rattle.widths.specs.FilledCells.{begin, turn_room, turn, end_d, end_h, long_d, long_h}
use Rattle.transform.proofs.terms.add_single.Goals as goal

pub loop-n-init : goal.loop-n-init
loop-n-init c =
    let s = c in
    let a = s.args in (
      begin (λ n. times a.p.lives (single_terms a.horizon a.p.life n)) a.order (ap (times a.p.lives) (single_start a.horizon a.p.life) ∙ times_none a.p.lives) s.requires.3,
      s.requires.0,
      s.requires.1,
      s.requires.2,
      row_first a.p.life,
    )

pub next_row-next-requires : goal.next_row-next-requires
next_row-next-requires c =
    let v = c.loop-n.invariant in
    (v.1.limited v.2, omega (arith, v.3, c.loop-n-test.true), v.4)

pub add_row-requires : goal.add_row-requires
add_row-requires c =
    let v = c.loop-n.invariant in
    let a = c.args in
    let r : SingleRow a.p.life (c.loop-n.n + 1) = record { life = v.1; alone = v.2; n_least = omega arith; n_most = omega (arith, v.3, c.loop-n-test.true) } in (
      r,
      c.next_row-next.ensures,
      turn_room (λ n. times a.p.lives (single_terms a.horizon a.p.life n)) (λ n. times a.p.lives (row_terms a.horizon a.p.life (n + 1) (n + 1 + 1)))
          (times_goes a.p.lives (single_terms a.horizon a.p.life) (λ n. row_terms a.horizon a.p.life (n + 1) (n + 1 + 1)) (single_goes a.horizon a.p.life)) v.0 c.loop-n-test.true,
    )

pub loop-n-preserved : goal.loop-n-preserved
loop-n-preserved c =
    let i = c in
    let v = i.loop-n.invariant in
    let a = i.args in
    let t = c.add_row in (
      turn (λ n. times a.p.lives (single_terms a.horizon a.p.life n)) (λ n. times a.p.lives (row_terms a.horizon a.p.life (n + 1) (n + 1 + 1)))
          (times_goes a.p.lives (single_terms a.horizon a.p.life) (λ n. row_terms a.horizon a.p.life (n + 1) (n + 1 + 1)) (single_goes a.horizon a.p.life)) v.0 i.loop-n-test.true t.ensures.transform_after t.ensures.h_after,
      v.1,
      v.2,
      v.3,
      i.next_row-next.ensures,
    )

pub shape_of-transform : goal.shape_of-transform
shape_of-transform c = long_d c.loop-n.invariant.0

pub shape_of-h : goal.shape_of-h
shape_of-h c = long_h c.loop-n.invariant.0

pub returns : goal.returns
returns c =
    let f = c.loop-n.invariant.0 in record { transform_after = end_d f c.loop-n-test.false; h_after = end_h f c.loop-n-test.false }
