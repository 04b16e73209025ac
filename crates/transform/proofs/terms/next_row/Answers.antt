-- The columns before l are those of row n + 1, and zeros stand from there; the number on the left is that of row n.
use mathlib.Core.Path.{◌≡◌, refl, ◌∙◌}
use Prim.Native.Nat.{◌+◌}
use native.Mathlib.Numerals.{add-one}
use native.Mathlib.Omega.{arith}
use lib.ListN.{length-set}
use Rattle.laws.specs.Triangle.{v as v_of, v_step, sum_below_lem}
use Rattle.widths.specs.Triangle.{row_goes_on, row_made}
use Rattle.transform.proofs.terms.next_row.Goals as goal

pub loop-l-init : goal.loop-l-init
loop-l-init c = (c.requires.0, c.requires.1, c.requires.2, refl, refl, refl)

pub entry-requires : goal.entry-requires
entry-requires c =
    let l = c.loop-l in
    let v = l.invariant in
    (v.0, rw (v.4, v.2) (sum_below_lem c.args.m v.0 c.args.n l.l))

pub loop-l-preserved : goal.loop-l-preserved
loop-l-preserved c =
    let l = c.loop-l in
    let v = l.invariant in
    let a = c.args in
    let made : c.entry.result ≡ v_of a.m (a.n + 1) l.l = rw (add-one a.n, v_step a.m a.n l.l (omega arith), ← v.4, ← v.2) c.entry.ensures in (
      v.0,
      v.1,
      v.2,
      simp length-set v.3,
      rw (v.2, add-one l.l) refl,
      rw v.5 (row_goes_on a.m (a.n + 1) l.l c.entry.result (omega arith) made),
    )

pub returns : goal.returns
returns c =
    let l = c.loop-l in
    let v = l.invariant in
    v.5 ∙ row_made c.args.m v.0 (c.args.n + 1) l.l (omega arith)
