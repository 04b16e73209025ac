-- f(0) is the product with the sum's sign, which fits an i64.
use mathlib.Core.Path.{◌≡◌, refl, ap, ◌∙◌}
use native.Mathlib.Omega.{arith}
use borrow.Author.Rules.{sfits_of}
use mir.Syntax.{w64}
use mir.Facts.{to_z-of_z}
use Prim.Native.Nat.{min}
use Rattle.whole.specs.Sign.{most_value, signed}
use Rattle.totals.proofs.with_start.Goals as goal

pub returns : goal.returns
returns c =
    let s = c in
    let e : min s.args.product.size most_value ≡ s.args.product.size = omega (arith, s.requires.0) in
    record {
      load_is = refl;
      truncation_is = refl;
      mean_is = refl;
      cell_is = to_z-of_z (sfits_of {w = w64} c.as_i64.type_inv) ∙ c.as_i64.ensures ∙ ap (signed s.args.first.sum.negative) e;
      bound_is = refl;
    }
