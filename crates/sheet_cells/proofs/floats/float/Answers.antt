-- `cells::floats::float`: the NaN's pattern is one.
use mathlib.Core.Path.{◌≡◌, refl, sym, ◌∙◌, subst}
use mathlib.Core.Bool.{Bool, true, not}
use lib.Dec.{T}
use lib.Ieee.{Float, nan, inf, fin, binary64, is_nan, of_bits}
use lib.Ieee.Bits.{nan_bits_is}
use Rattle.sheet_cells.proofs.floats.float.Goals as goal

only_nan : (x : Float) → is_nan x ≡ true → nan ≡ x
unfolding is_nan
only_nan nan e = refl
only_nan (inf s) e = absurd (subst T (sym e) tt)
only_nan (fin s m p) e = absurd (subst T (sym e) tt)

literal : of_bits binary64 0x7ff8000000000000 ≡ nan
unfolding of_bits
literal = refl

pub float_from_bits-result : goal.float_from_bits-result
float_from_bits-result c = subst (λ (b : Bool). T (not b)) (sym c.if-is_nan.false ∙ c.is_nan.ensures) tt

pub returns-then-is_nan : goal.returns-then-is_nan
returns-then-is_nan c = literal ∙ only_nan (of_bits binary64 c.args.bits) (sym (nan_bits_is binary64 c.args.bits) ∙ sym c.is_nan.ensures ∙ c.if-is_nan.true)
