-- What the functions of the module premium say of the sums over the cells below the deductible, and of the premium.
use Rattle.std.specs.Prelude.{◌≡◌, List, ℕ, ◌+◌, ◌-◌, ◌*◌, ◌<◌, ◌≤◌, ℤ, pos, nat_abs, ◌+ℤ◌, ◌*ℤ◌, length, get_or}
use Rattle.algebra.specs.RationalSum.{sum_n, sum_z}
use Rattle.fund.specs.Base.{table}
use Rattle.fund.specs.Limits.{most_deductible, most_bound}
use Rattle.fund.specs.Premium.{premium, within}
use Rattle.fund.specs.Recursion.{Cell}
use Rattle.whole.specs.declared.Sums.{Sums}
use Rattle.recursion_limits.specs.Limits.{most_cell}
use Rattle.valuation.specs.declared.premium.StopLoss.{StopLoss}
use Rattle.whole.specs.Sums.{sum_of}
use Rattle.recursion.specs.Slices.{cell_in}

-- |f(0)| + .. + |f(n-1)|
abbrev pub levels : List ℤ → ℕ → ℕ
levels f n = sum_n n (λ x. nat_abs (get_or f x (pos 0)))

-- the cells below M
pub record Cells (M : ℕ) (f : List ℤ) (r : List ℕ) : Type 0 where
  pub few : M ≤ most_deductible
  pub f_long : M ≤ length f
  pub r_long : M ≤ length r
  pub levels_within : levels f M ≤ most_cell
  pub narrow : (x : ℕ) → x < M → get_or r x 0 ≤ most_bound

-- one cell with its weight M - x
pub record CellWeighed (s : Sums) (weight : ℕ) (y : Cell) (t : Sums) : Type 0 where
  pub sum_is : sum_of t ≡ sum_of s +ℤ pos weight *ℤ y.f
  pub bound_is : t.bound ≡ s.bound + weight * y.R
  pub plus_within : t.plus ≤ s.plus + weight * nat_abs y.f
  pub minus_within : t.minus ≤ s.minus + weight * nat_abs y.f

-- the sums over the first n cells
pub record BelowTo (M : ℕ) (f : List ℤ) (r : List ℕ) (n : ℕ) (s : Sums) : Type 0 where
  pub sum_is : sum_of s ≡ sum_z n (λ x. pos (M - x) *ℤ get_or f x (pos 0))
  pub bound_is : s.bound ≡ sum_n n (λ x. (M - x) * get_or r x 0)
  pub plus_within : s.plus ≤ most_deductible * levels f n
  pub minus_within : s.minus ≤ most_deductible * levels f n
  pub bound_within : s.bound ≤ n * (most_deductible * most_bound)

-- the premium and its bound, by any number of cells from M on
pub record StopLossIs (M mean E : ℕ) (f : List ℤ) (r : List ℕ) (p : StopLoss) : Type 0 where
  pub premium_is : (n : ℕ) → M ≤ n → p.premium ≡ premium M mean (table n (cell_in f r))
  pub within_is : (n : ℕ) → M ≤ n → p.within ≡ within M E (table n (cell_in f r))
