-- A row put behind the rows of a table: the table holds it, and the places behind it are blank still.
use mathlib.Core.Path.{◌≡◌, sym, ◌∙◌, ap, ap₂}
use mathlib.Core.List.{List, [], ◌∷◌, ◌++◌}
use Prim.Native.Nat.{ℕ, ◌+◌, ◌≤◌, ◌<◌}
use native.Mathlib.Omega.{arith}
use lib.ListN.{length, take}
use Rattle.std.specs.Prelude.{set, slice_set}
use Rattle.std.proofs.Common.{length-append, length-take-le}
use Rattle.fund.specs.Answer.{lent}
use Rattle.laws.specs.Rows.{rows_length, rows_put, rows_back}

module _ {A : Type 0} (blank x : A) (n count : ℕ) (rows : List A) (inside : count ≤ length rows) (padded : rows ≡ lent blank n (take count rows)) (room : count < n) where
  abbrev with_row : List A
  with_row = take count rows ++ (x ∷ [])

  before : length (take count rows) ≡ count
  before = length-take-le count rows inside

  longer : count + 1 ≡ length with_row
  longer = omega (arith, length-append (take count rows) (x ∷ []), before)

  put : slice_set rows count x ≡ lent blank n with_row
  put = ap₂ (λ (l : List A) (k : ℕ). set l k x) padded (sym before) ∙ rows_put blank x n (take count rows) (omega (arith, before))

  pub pushed_length : length (slice_set rows count x) ≡ n
  pushed_length = ap length put ∙ rows_length blank n with_row (omega (arith, longer))

  pub pushed_rows : take (count + 1) (slice_set rows count x) ≡ with_row
  pushed_rows = ap₂ (λ (k : ℕ) (l : List A). take k l) longer put ∙ rows_back blank n with_row

  pub pushed_padded : slice_set rows count x ≡ lent blank n (take (count + 1) (slice_set rows count x))
  pushed_padded = put ∙ ap (lent blank n) (sym pushed_rows)
