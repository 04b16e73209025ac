-- `cells::number::classed`: a blank is any NaN.
use Rattle.std.specs.Prelude.{Float, Option}
use mathlib.Core.Path.{◌≡◌, sym, ap, ◌∙◌, subst}
use mathlib.Core.Bool.{Bool, not}
use lib.Dec.{T}
use Prim.Native.Nat.{ℕ}
use lib.Ieee.{Float, binary64, is_nan, nan_bits, of_bits}
use lib.Ieee.Bits.{nan_bits_is}
use Rattle.fund.specs.SheetCells.{cell_of}
use Rattle.sheet_cells.specs.Patterns.{blank_of}
use Rattle.sheet_cells.specs.Plain.{NoNan, cell_no_nan}
use Rattle.sheet_cells.proofs.number.classed.Goals as goal

-- what the test of the bits tells of their float
told : (x : Float) (bits : ℕ) {r : Bool} → x ≡ of_bits binary64 bits → r ≡ nan_bits binary64 bits → r ≡ is_nan x
told x bits e f = f ∙ nan_bits_is binary64 bits ∙ sym (ap is_nan e)

both : {r : (Option Float)} (x : Float) → cell_of x ≡ r → (r ≡ cell_of x) × NoNan r
both x e = (sym e, subst NoNan e (cell_no_nan x))

pub returns-then-is_nan : goal.returns-then-is_nan
returns-then-is_nan c = let x = c.args.x in both x ((blank_of x).0 (subst T (sym c.if-is_nan.true ∙ told x c.args.bits c.requires c.is_nan.ensures) tt))

pub returns-else-is_nan : goal.returns-else-is_nan
returns-else-is_nan c = let x = c.args.x in both x ((blank_of x).1 (subst (λ (b : Bool). T (not b)) (sym c.if-is_nan.false ∙ told x c.args.bits c.requires c.is_nan.ensures) tt))
