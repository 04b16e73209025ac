-- `add_small` meets its contract: the three rounded parts are those of one k, and each of them fits.
use mathlib.Core.Path.{◌≡◌, ap, ap₂, ◌∙◌}
use Prim.Native.Nat.{◌+◌, ◌*◌, ◌^◌}
use native.Mathlib.Omega.{arith}
use Rattle.std.proofs.Common.{rules}
use lib.IntN.{nat_abs}
use mir.Facts.{to_z-of_z}
use Rattle.rounding.specs.Rounding.{near, up}
use Rattle.fund.specs.Transform.{unit}
use Rattle.whole.proofs.Signs.{with_part_is}
use Rattle.recursion.proofs.ProductAdded.{Parts, within, part_fits, added}
use Rattle.recursion.proofs.products.add_small.Goals as goal
use Rattle.recursion.proofs.products.add_small.Goals.{After-error_up}

parts : (c : After-error_up) →
    Parts (record { D = c.args.d; H = c.args.h }) (record { f = c.args.f; R = c.args.r }) c.product_nearest.result c.product_up.result c.error_up.result
unfolding unit
parts c =
    let size : c.unsigned_abs-size.result ≡ nat_abs c.args.d = search rules in
    let level : c.unsigned_abs-cell.result ≡ nat_abs c.args.f = search rules in
    record {
      near_is = c.product_nearest.ensures ∙ ap₂ (λ a b. near (a * b) (10 ^ 12)) size level;
      D_is = c.product_up.ensures ∙ ap (λ a. up (a * c.args.r) (10 ^ 12)) size;
      H_is = c.error_up.ensures ∙ ap (λ b. up (c.args.h * (b + c.args.r)) (10 ^ 12)) level;
    }

pub overflow_add-bound : goal.overflow_add-bound
overflow_add-bound c =
    let s = c.requires.sums_fit in
    let w = within _ _ s.cell_fits s.error _ _ _ (parts c) in
    omega (arith, w.D_within, w.H_within, s.transform)

pub returns : goal.returns
returns c =
    let s = c.requires.sums_fit in
    let p = parts (goal.at.returns c).After-error_up in
    added _ _ s.cell_fits s.error c.args.s c.with_part.result _ _ _ p
    (rw (c.with_part.ensures, c.opposite.ensures, to_z-of_z c.ranges.d, to_z-of_z c.ranges.f) (with_part_is c.args.s _ _ _ (part_fits _ _ s.cell_fits s.error c.args.s s _ _ _ p)))
