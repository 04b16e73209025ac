-- The pieces of a listing that the functions write one by one.
use Rattle.std.specs.Prelude.{◌≡◌, true, List, [], ◌∷◌, ◌++◌, ℕ, suc, ◌≤◌, ℤ, length, take}
use Rattle.fund.specs.declared.Figures.{Figures}
use Rattle.fund.specs.Base.{bytes}
use Rattle.fund.specs.Limits.{most_horizon, most_truncation}
use Rattle.fund.specs.Listing.{decimal, signed_decimal, joined, cell_lines}
use Rattle.answer_text.specs.Shown.{bounded}

-- The line of a cell, from its figures.
unfoldable pub cell_text : ℕ → ℤ → ℕ → ℤ → ℕ → List ℕ
cell_text x f within F bound = bytes "cell=" ++ joined (decimal x) (signed_decimal f ∷ decimal within ∷ signed_decimal F ∷ decimal bound ∷ [])

-- The lines before the cells, and those behind them.
unfoldable pub head : Figures → List ℕ
head a = (bytes "truncation=" ++ joined (decimal a.truncation) []) ++ (bytes "mean=" ++ joined (decimal a.mean) [])

unfoldable pub foot : Figures → List ℕ
foot a = (bytes "premium=" ++ joined (signed_decimal a.premium) []) ++ ((bytes "within=" ++ joined (decimal a.within) []) ++ (bytes "gross=" ++ joined (decimal a.gross) []))

-- The lines of an accepted fund, from its figures and so many cells.
unfoldable pub accepted_lines : Figures → List ℤ → List ℕ → List ℤ → ℕ → List ℕ
accepted_lines a f R F count = head a ++ (cell_lines a.truncation f R F 0 count ++ foot a)

-- The figures of so many cells are there and in range.
pub record PrintableCells (E : ℕ) (f : List ℤ) (R : List ℕ) (F : List ℤ) (count : ℕ) : Type 0 where
  pub enough_f : count ≤ length f
  pub enough_R : count ≤ length R
  pub enough_F : count ≤ length F
  pub most : count ≤ suc most_horizon
  pub truncation : E ≤ most_truncation
  pub bounds : bounded (take count R) ≡ true
