-- What a premium with its bound is, by the premium's sign and its size (with_bound_below, with_bound_above).
use mathlib.Core.Path.{◌≡◌, sym, ◌∙◌, ap}
use mathlib.Core.Bool.{true, false, true≢false}
use Prim.Native.Nat.{ℕ, ◌+◌, ◌-◌, ◌≤◌, ◌^◌}
use native.Mathlib.Omega.{arith}
use borrow.Author.Tests.{ltb-true}
use lib.IntN.{ℤ, pos, negsuc, nat_abs}
use lib.Signed.{lt_z}
use mir.Syntax.{w64}
use mir.Val.{SFits, to_z, of_z}
use mir.Facts.{to_z-of_z}
use Rattle.whole.proofs.Signs.{sign}
use Rattle.fund.specs.Tariff.{with_bound}
use Rattle.laws.specs.Tariff.{with_bound_pos, with_bound_neg}

below_at : (z : ℤ) (within : ℕ) → lt_z z (pos 0) ≡ true → with_bound z within ≡ within - nat_abs z
below_at (pos n) within t = let h = ltb-true n 0 t in absurd (omega arith)
below_at (negsuc n) within t = with_bound_neg n within

above_at : (z : ℤ) (within : ℕ) → lt_z z (pos 0) ≡ false → with_bound z within ≡ nat_abs z + within
above_at (pos n) within t = with_bound_pos n within
above_at (negsuc n) within t = absurd (true≢false t)

size_at : (z : ℤ) → SFits w64 z → nat_abs z ≤ 2 ^ 63
size_at (pos n) f = omega (arith, f.sfits)
size_at (negsuc n) f = omega (arith, f.sfits)

module _ (z : ℤ) (within size : ℕ) (f : SFits w64 z) (e : size ≡ nat_abs (to_z w64 (of_z w64 z))) where
  size_is : size ≡ nat_abs z
  size_is = e ∙ ap nat_abs (to_z-of_z f)

  pub size_le : size ≤ 2 ^ 63
  size_le = omega (arith, size_is, size_at z f)

  pub with_bound_below : lt_z (to_z w64 (of_z w64 z)) (pos 0) ≡ true → with_bound z within ≡ within - size
  with_bound_below t = below_at z within (sign z f t) ∙ ap (λ n. within - n) (sym size_is)

  pub with_bound_above : lt_z (to_z w64 (of_z w64 z)) (pos 0) ≡ false → with_bound z within ≡ size + within
  with_bound_above t = above_at z within (sign z f t) ∙ ap (λ n. n + within) (sym size_is)
