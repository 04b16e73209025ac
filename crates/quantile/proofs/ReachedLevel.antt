-- Whether a sum in a word reaches a level, by its sign and its size (by_size, below_zero).
use Rattle.std.proofs.Common.{◌≡◌, refl, sym, true, false, true≢false, leb-false, arith, ℕ, ℤ, pos, negsuc, to_z, of_z}
use lib.Dec.{leb}
use lib.IntN.{nat_abs}
use lib.Signed.{le_z}
use mir.Syntax.{w64}
use mir.Val.{SFits}
use mir.Facts.{to_z-of_z}
use Rattle.fund.specs.Quantile.{reaches}

module _ (level : ℕ) where
  size_at : (z : ℤ) → le_z (pos 0) z ≡ true → leb level (nat_abs z) ≡ reaches level z
  unfolding reaches
  size_at (pos n) t = refl
  size_at (negsuc n) t = absurd (true≢false (sym t))

  below_at : (z : ℤ) → le_z (pos 0) z ≡ false → le_z (pos 0) z ≡ reaches level z
  unfolding reaches
  below_at (pos n) t = let h = leb-false 0 n t in absurd (omega (arith, h))
  below_at (negsuc n) t = refl

  module _ (z : ℤ) (f : SFits w64 z) where
    pub by_size : le_z (pos 0) (to_z w64 (of_z w64 z)) ≡ true → leb level (nat_abs (to_z w64 (of_z w64 z))) ≡ reaches level z
    by_size t = rw (to_z-of_z f) (size_at z (rw (to_z-of_z f) at t))

    pub below_zero : le_z (pos 0) (to_z w64 (of_z w64 z)) ≡ false → le_z (pos 0) (to_z w64 (of_z w64 z)) ≡ reaches level z
    below_zero t = rw (to_z-of_z f) (below_at z (rw (to_z-of_z f) at t))
