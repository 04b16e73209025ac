-- Cells and the transform as they stand in lent slices.
use Rattle.std.specs.Prelude.{List, ℕ, suc, ◌<◌, ◌≤◌, ℤ, pos, length, get_or}
use Rattle.fund.specs.Base.{table}
use Rattle.fund.specs.Recursion.{Cell, Entry}
use Rattle.laws.specs.Cells.{cell_at}
use Rattle.recursion_limits.specs.Limits.{CellFits}

-- f(x) and R(x), D(k+1) and H(k+1)
abbrev pub cell_in : List ℤ → List ℕ → ℕ → Cell
cell_in f r x = record { f = get_or f x (pos 0); R = get_or r x 0 }

abbrev pub entry_in : List ℤ → List ℕ → ℕ → Entry
entry_in d h k = record { D = get_or d (suc k) (pos 0); H = get_or h (suc k) 0 }

-- D(1), H(1) to D(X), H(X). D(0) and H(0) are not read.
abbrev pub entries_in : ℕ → List ℤ → List ℕ → List Entry
entries_in X d h = table X (entry_in d h)

-- the sequence of cells that the transform up to X gives, from the start at place 0
abbrev pub cell_of : ℕ → List ℤ → List ℕ → List ℤ → List ℕ → ℕ → Cell
cell_of X d h f r = cell_at (entries_in X d h) (cell_in f r 0)

-- the cells up to last are within the limits
pub record CellsFit (f : List ℤ) (r : List ℕ) (last : ℕ) : Type 0 where
  pub f_long : last < length f
  pub r_long : last < length r
  pub fit : (x : ℕ) → x ≤ last → CellFits (cell_in f r x)
