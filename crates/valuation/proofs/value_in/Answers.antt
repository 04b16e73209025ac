-- A refusal leaves zeros in all slices: the transform's are there, the others are cleared; else the recursion follows.
use mathlib.Core.Path.{◌≡◌}
use Prim.Native.Nat.{ℕ}
use lib.IntN.{pos}
use Rattle.std.proofs.Common.{rules, length, replicate}
use Rattle.valuation.specs.Valued.{lengths_in}
use Rattle.valuation.specs.Steps.{ReadyFor}
use Rattle.valuation.proofs.RefusedTotals.{left_judged, left_answered}
use Rattle.valuation.proofs.SettledCells.{in_ranges}
use Rattle.valuation.proofs.value_in.Goals as goal

pub returns-in-Ok : goal.returns-in-Ok
returns-in-Ok c =
    let a = c.args in
    let k = c.transformed-known.auto in
    let left = c.transformed-known.new in
    let ps = a.points.now in
    let ready : ReadyFor a.fund (length ps) ps c.in-Ok.totals left.transform left.h (length a.f.now) (length a.r.now) (length a.sums.now) = rw (k.transform, k.h) c.in-Ok.ensures in
    left_answered a.fund (length ps) ps (lengths_in a.transform.now a.h.now a.f.now a.r.now a.sums.now) c.in-Ok.totals
    (in_ranges a.fund (length ps) ps c.in-Ok.totals left.transform left.h a.f.now a.r.now (length a.sums.now) ready) _
    (rw (k.transform, k.h) at (c.recursed.ensures _ _ ready))

pub returns-in-Err : goal.returns-in-Err
returns-in-Err c =
    let a = c.args in
    let f : c.fill.new.self ≡ replicate (length a.f.now) (pos 0) = search rules in
    let r : c.fill-in-Err.new.self ≡ replicate {A = ℕ} (length a.r.now) 0 = search rules in
    let s : c.fill-in-Err-2.new.self ≡ replicate (length a.sums.now) (pos 0) = search rules in
    left_judged a.fund (length a.points.now) a.points.now (lengths_in a.transform.now a.h.now a.f.now a.r.now a.sums.now) c.in-Err.stop _ _ _ _ _ c.in-Err.ensures (f, r, s)
