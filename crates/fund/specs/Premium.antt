-- METHOD 7: the premium and its bound.
use Rattle.std.specs.Prelude.{List, [], ◌∷◌, ℕ, zero, suc, ◌+◌, ◌*◌, ℤ, pos, ◌+ℤ◌, ◌-ℤ◌, ◌*ℤ◌}
use Rattle.fund.specs.Transform.{unit}
use Rattle.fund.specs.Recursion.{Cell}

-- The sums over x below M, over the cells of 0, 1, 2, ..: M×f(0) + (M-1)×f(1) + .. + 1×f(M-1), and so for R.
unfoldable pub sum_below : ℕ → List Cell → ℤ
sum_below zero cells = pos 0
sum_below (suc m) [] = pos 0
sum_below (suc m) (y ∷ ys) = pos (suc m) *ℤ y.f +ℤ sum_below m ys

unfoldable pub bound_below : ℕ → List Cell → ℕ
bound_below zero cells = 0
bound_below (suc m) [] = 0
bound_below (suc m) (y ∷ ys) = suc m * y.R + bound_below m ys

-- "Premium = mean - M×10^12 + sum over x below M of (M-x)×f(x)."
unfoldable pub premium : ℕ → ℕ → List Cell → ℤ
premium M mean cells = pos mean -ℤ pos (M * unit) +ℤ sum_below M cells

-- "Its bound = sum of (M-x)×R(x) + 2×M×E."
unfoldable pub within : ℕ → ℕ → List Cell → ℕ
within M E cells = bound_below M cells + 2 * M * E

-- "A probability's printed bound is R(x) + 2×E."
abbrev pub printed_bound : ℕ → ℕ → ℕ
printed_bound E R = R + 2 * E
