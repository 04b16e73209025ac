-- The two roundings of the method (METHOD, at its head), of a quotient a / b with any divisor b.
use Rattle.std.specs.Prelude.{ℕ, suc, ◌+◌, ◌-◌, ◌*◌, ◌/◌, ℤ, pos, negsuc, neg_ℤ}

-- Nearest: to the nearest whole number, halves away from zero. First for a quotient that is not negative.
unfoldable pub near : ℕ → ℕ → ℕ
near a b = (2 * a + b) / (2 * b)

-- Negative numbers too: 1/2 gives 1, -1/2 gives -1.
unfoldable pub nearest : ℤ → ℕ → ℤ
unfolding near
nearest (pos a) b = pos (near a b)
nearest (negsuc a) b = neg_ℤ (pos (near (suc a) b))

-- Up: to the next whole number not below.
unfoldable pub up : ℕ → ℕ → ℕ
up a b = (a + (b - 1)) / b
