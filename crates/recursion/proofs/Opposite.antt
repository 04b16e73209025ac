-- A product of two numbers has the sign that tells whether they are opposite (nearest_product), by the two signs (signs_opposite).
use mathlib.Core.Path.{◌≡◌, refl, ap, ◌∙◌}
use mathlib.Core.Bool.{not, beq}
use Prim.Native.Nat.{ℕ, ◌*◌, ◌<◌}
use native.Mathlib.Omega.{arith}
use borrow.Author.Tests.{le-ltb}
use lib.IntN.{ℤ, pos, negsuc, nat_abs, ◌*ℤ◌}
use lib.Signed.{lt_z}
use Rattle.rounding.specs.Rounding.{near, nearest}
use Rattle.whole.specs.Sign.{signed}
use Rattle.whole.proofs.Signs.{nearest_signed}
use Rattle.recursion.specs.Steps.{opposite}

product_signed : (a b : ℤ) → a *ℤ b ≡ signed (opposite a b) (nat_abs a * nat_abs b)
product_signed (pos a) (pos b) = refl
product_signed (pos a) (negsuc b) = refl
product_signed (negsuc a) (pos b) = refl
product_signed (negsuc a) (negsuc b) = refl

pub nearest_product : (a b : ℤ) (n : ℕ) → 0 < n → nearest (a *ℤ b) n ≡ signed (opposite a b) (near (nat_abs a * nat_abs b) n)
nearest_product a b n h = ap (λ z. nearest z n) (product_signed a b) ∙ nearest_signed (opposite a b) (nat_abs a * nat_abs b) n h

pub signs_opposite : (a b : ℤ) → not (beq (lt_z a (pos 0)) (lt_z b (pos 0))) ≡ opposite a b
signs_opposite (pos a) (pos b) = rw (le-ltb a 0 (omega arith), le-ltb b 0 (omega arith))
signs_opposite (pos a) (negsuc b) = rw (le-ltb a 0 (omega arith))
signs_opposite (negsuc a) (pos b) = rw (le-ltb b 0 (omega arith))
signs_opposite (negsuc a) (negsuc b) = refl
