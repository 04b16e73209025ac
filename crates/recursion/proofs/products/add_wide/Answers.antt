-- `add_wide` meets its contract: the three rounded parts are those of one k, and each of them fits.
use mathlib.Core.Bool.{false}
use mathlib.Core.Path.{◌≡◌, refl, sym, ap, ◌∙◌}
use Prim.Native.Nat.{ℕ, ◌+◌, ◌*◌, ◌^◌, ◌≤◌}
use native.Mathlib.Omega.{arith}
use Rattle.std.proofs.Common.{rules}
use lib.IntN.{nat_abs}
use mir.Facts.{to_z-of_z}
use Rattle.rounding.specs.Rounding.{up}
use Rattle.rounding.specs.Word.{word}
use Rattle.rounding.proofs.Word.{near_rounds, up_rounds}
use Rattle.fund.specs.Transform.{unit}
use Rattle.fund.specs.Recursion.{Cell}
use Rattle.whole.proofs.Signs.{with_part_is}
use Rattle.recursion_limits.specs.Limits.{most_error, CellFits}
use Rattle.recursion.proofs.ProductAdded.{part_is, Parts, within, part_fits, H_most, added, added_none, added_empty}
use Rattle.recursion.proofs.products.add_wide.Goals as goal
use Rattle.recursion.proofs.products.add_wide.Goals.{After-up_per_unit-3}

-- the part of H, of a magnitude that was taken of f
error_is : (y : Cell) (h size b : ℕ) → CellFits y → h ≤ most_error → size ≡ nat_abs y.f → b ≡ word (up (h * (size + y.R)) (10 ^ 12)) → b ≡ up (h * (nat_abs y.f + y.R)) unit
error_is y h size b p l e g =
    part_is up_rounds h (size + y.R) h (nat_abs y.f + y.R) b refl (ap (λ m. m + y.R) e) (omega (arith, l)) (omega (arith, p.level, p.narrow)) g

parts : (c : After-up_per_unit-3) →
    Parts (record { D = c.args.d; H = c.args.h }) (record { f = c.args.f; R = c.args.r }) c.nearest_per_unit.result c.up_per_unit-2.result c.up_per_unit-3.result
parts c =
    let p = c.requires in
    let size : c.unsigned_abs-size.result ≡ nat_abs c.args.d = search rules in
    let level : c.unsigned_abs-cell.result ≡ nat_abs c.args.f = search rules in
    record {
      near_is =
          part_is near_rounds _ _ (nat_abs c.args.d) (nat_abs c.args.f) c.nearest_per_unit.result
          size level (omega (arith, p.transform)) (omega (arith, p.cell_fits.level)) c.nearest_per_unit.ensures;
      D_is =
          part_is up_rounds _ c.args.r (nat_abs c.args.d) c.args.r c.up_per_unit-2.result
          size refl (omega (arith, p.transform)) (omega (arith, p.cell_fits.narrow)) c.up_per_unit-2.ensures;
      H_is = error_is (record { f = c.args.f; R = c.args.r }) c.args.h _ c.up_per_unit-3.result p.cell_fits p.error level c.up_per_unit-3.ensures;
    }

pub returns-then-h-eq0 : goal.returns-then-h-eq0
returns-then-h-eq0 c =
    let size : c.unsigned_abs-size.result ≡ nat_abs c.args.d = search rules in
    added_empty _ _ c.requires.cell_fits c.requires.error c.args.s (sym size ∙ c.if-size-eq0.true) c.if-h-eq0.true

-- the part of H where D is 0
pub returns-then-size-eq0 : goal.returns-then-size-eq0
returns-then-size-eq0 c =
    let p = c.requires in
    let size : c.unsigned_abs-size.result ≡ nat_abs c.args.d = search rules in
    let level : c.unsigned_abs.result ≡ nat_abs c.args.f = search rules in
    let lone = error_is (record { f = c.args.f; R = c.args.r }) c.args.h _ c.up_per_unit.result p.cell_fits p.error level c.up_per_unit.ensures in
    added_none (record { D = c.args.d; H = c.args.h }) (record { f = c.args.f; R = c.args.r }) p.cell_fits p.error c.args.s c.with_part.result c.up_per_unit.result
    (sym size ∙ c.if-size-eq0.true)
    lone
    (rw c.with_part.ensures
    (with_part_is c.args.s false 0 _
    (record {
      plus_fits = omega (arith, p.plus_within);
      minus_fits = omega (arith, p.minus_within);
      bound_fits = omega (arith, lone, H_most (record { D = c.args.d; H = c.args.h }) (record { f = c.args.f; R = c.args.r }) p.cell_fits p.error, p.bound_within);
    })))

pub overflow_add-bound : goal.overflow_add-bound
overflow_add-bound c =
    let p = c.requires in
    let w = within _ _ p.cell_fits p.error _ _ _ (parts c) in
    omega (arith, w.D_within, w.H_within, p.transform)

pub returns : goal.returns
returns c =
    let s = c.requires in
    let p = parts (goal.at.returns c).After-up_per_unit-3 in
    added _ _ s.cell_fits s.error c.args.s c.with_part-2.result _ _ _ p
    (rw (c.with_part-2.ensures, c.opposite.ensures, to_z-of_z c.ranges.d, to_z-of_z c.ranges.f) (with_part_is c.args.s _ _ _ (part_fits _ _ s.cell_fits s.error c.args.s s _ _ _ p)))
