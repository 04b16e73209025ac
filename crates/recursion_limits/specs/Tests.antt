-- The tests of the limits in their order, and what they tell.
use Rattle.std.specs.Prelude.{◌≡◌, Bool, ◌||◌, ⊤, Option, None, Some, Result, Ok, Err, List, [], ◌∷◌, ℕ, suc, ◌<◌, ◌≤◌, ltb, ℤ, nat_abs, length, get_or, if◌then◌else◌}
use Rattle.fund.specs.Base.{table}
use Rattle.fund.specs.Limits.{most_horizon}
use Rattle.fund.specs.Recursion.{Cell}
use Rattle.fund.specs.Refusals.{first, wide, any_short}
use Rattle.recursion_limits.specs.declared.Broken.{Broken}
use Rattle.recursion_limits.specs.declared.Broken.TheVariants.{Short, Outside}
use Rattle.recursion_limits.specs.declared.Start.{Start}
use Rattle.recursion_limits.specs.Limits.{most_transform, most_error, most_cell, sizes, CellFits, TransformFits}

-- |f(x)| is above its limit.
unfoldable pub large : Cell → Bool
large y = ltb most_cell (nat_abs y.f)

-- The first k from 1 to X whose H(k) is above its limit.
unfoldable pub error_at : ℕ → List ℕ → Option ℕ
error_at X h = first (ltb most_error) 1 (table X (λ k. get_or h (suc k) 0))

-- The sum of |D(k)| or the start is above its limit.
unfoldable pub sum_or_start : ℕ → List ℤ → Cell → Bool
sum_or_start X d start = ltb most_transform (sizes d X) || large start || wide start

-- The limits, in the order in which they are tested: X, the lengths of the slices, each H(k), then the sum and the start.
unfoldable pub tested : ℕ → List ℤ → List ℕ → Cell → ℕ → ℕ → Result ⊤ Broken
tested X d h start nf nr =
    if ltb most_horizon X then Err (Outside 0)
    else if any_short (length d ∷ length h ∷ nf ∷ nr ∷ []) X then Err Short
    else elim (error_at X h) [ Some k ↦ Err (Outside k) | None ↦ if sum_or_start X d start then Err (Outside 0) else Ok tt ]

-- The start as a cell.
abbrev pub cell_of : Start → Cell
cell_of start = record { f = start.cell; R = start.bound }

-- No H(k) is above its limit, or k is the first whose is.
abbrev pub ErrorAt : ℕ → List ℕ → Option ℕ → Type 0
ErrorAt X h None = (j : ℕ) → j < X → get_or h (suc j) 0 ≤ most_error
ErrorAt X h (Some k) = error_at X h ≡ Some k

-- All limits are kept.
pub record Kept (X : ℕ) (d : List ℤ) (h : List ℕ) (start : Cell) (nf nr : ℕ) : Type 0 where
  pub transform : TransformFits X d h
  pub f_long : X < nf
  pub r_long : X < nr
  pub start_fits : CellFits start

abbrev pub Tests : ℕ → List ℤ → List ℕ → Cell → ℕ → ℕ → Result ⊤ Broken → Type 0
Tests X d h start nf nr (Ok tt) = Kept X d h start nf nr
Tests X d h start nf nr (Err limit) = tested X d h start nf nr ≡ Err limit
