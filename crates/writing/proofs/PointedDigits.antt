-- A number with a point is that of its tenth and its last digit (pointed_step), a negative one has its sign before (pointed_below), and so many digits
-- stand behind the point (padded_length).
use mathlib.Core.Path.{◌≡◌, refl, sym, ap}
use mathlib.Core.Bool.{true, false}
use mathlib.Core.List.{[], ◌∷◌, ◌++◌, append_assoc}
use Prim.Native.Nat.{ℕ, zero, suc, ◌+◌, ◌/◌, ◌%◌, ◌^◌}
use native.Mathlib.Nat.{pow-suc, mul_comm, div-one, div-div-eq-div-mul}
use native.Mathlib.Omega.{arith}
use borrow.Author.Tests.{ltb-true}
use lib.IntN.{ℤ, pos, negsuc, nat_abs}
use lib.ListN.{length, length-append}
use lib.Signed.{lt_z}
use Rattle.fund.specs.Listing.{decimal}
use Rattle.writing.specs.Pointed.{padded, pointed, signed_pointed}

pub pointed_none : (n : ℕ) → pointed 0 n ≡ decimal n ++ (46 ∷ [])
unfolding pointed padded
pointed_none n = ap (λ m. decimal m ++ (46 ∷ [])) (div-one n)

tenth : (k n : ℕ) → n / 10 ^ suc k ≡ n / 10 / 10 ^ k
tenth k n = rw (pow-suc, mul_comm (10 ^ k) 10) (sym (div-div-eq-div-mul n 10 (10 ^ k)))

pub pointed_step : (k n : ℕ) → pointed (suc k) n ≡ pointed k (n / 10) ++ ((48 + n % 10) ∷ [])
unfolding pointed padded
pointed_step k n = rw tenth (simp append_assoc)

pub pointed_below : (k : ℕ) (z : ℤ) → lt_z z (pos 0) ≡ true → signed_pointed k z ≡ (45 ∷ []) ++ pointed k (nat_abs z)
unfolding signed_pointed
pointed_below k (pos n) t = let h = ltb-true n 0 t in absurd (omega arith)
pointed_below k (negsuc n) t = refl

pub pointed_above : (k : ℕ) (z : ℤ) → lt_z z (pos 0) ≡ false → signed_pointed k z ≡ pointed k (nat_abs z)
unfolding signed_pointed
pointed_above k (pos n) t = refl
pointed_above k (negsuc n) t = cc

pub padded_length : (k n : ℕ) → length (padded k n) ≡ k
unfolding padded
padded_length zero n = refl
padded_length (suc k) n = rw length-append (omega (arith, padded_length k (n / 10)))
