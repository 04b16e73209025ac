-- The limits within which the recursion is carried out: of a cell, and of the transform to X.
use Rattle.std.specs.Prelude.{List, ℕ, suc, ◌*◌, ◌^◌, ◌<◌, ◌≤◌, ℤ, pos, nat_abs, length, get_or}
use Rattle.algebra.specs.RationalSum.{sum_n}
use Rattle.fund.specs.Limits.{most_horizon, most_bound}
use Rattle.fund.specs.Recursion.{Cell}

-- The sum of |D(k)|, an H(k), and an |f(x)| are at most these.
abbrev pub most_transform : ℕ
most_transform = 400000 * 10 ^ 12

abbrev pub most_error : ℕ
most_error = 10 ^ 9

abbrev pub most_cell : ℕ
most_cell = 2 * 10 ^ 12

-- |D(1)| + .. + |D(n)|
abbrev pub sizes : List ℤ → ℕ → ℕ
sizes d n = sum_n n (λ k. nat_abs (get_or d (suc k) (pos 0)))

pub record CellFits (y : Cell) : Type 0 where
  pub narrow : y.R ≤ most_bound
  pub level : nat_abs y.f ≤ most_cell

pub record TransformFits (X : ℕ) (d : List ℤ) (h : List ℕ) : Type 0 where
  pub horizon : X ≤ most_horizon
  pub d_long : X < length d
  pub h_long : X < length h
  pub sizes_within : sizes d X ≤ most_transform
  pub errors : (k : ℕ) → k < X → get_or h (suc k) 0 ≤ most_error
