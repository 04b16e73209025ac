-- The lines of a listing as the pieces that are put one behind the other, and the test of the bounds R(x): as a fact of each
-- (bounded_at), one by one, and as a fact of their sums (sum_most).
use mathlib.Core.Path.{◌≡◌, sym, ap, ◌∙◌}
use mathlib.Core.Bool.{true}
use mathlib.Core.List.{List, [], ◌∷◌, ◌++◌, append_assoc, append-nil}
use Prim.Native.Nat.{ℕ, zero, suc, ◌+◌, ◌*◌, ◌≤◌, ◌<◌}
use native.Mathlib.Nat.{add-zero, zero-add, add-suc, suc-add}
use native.Mathlib.Numerals.{add-one}
use native.Mathlib.Omega.{arith}
use Rattle.std.proofs.lemmas.Bool.Decides.{nat_tests}
use lib.IntN.{ℤ, pos}
use lib.ListN.{get_or, take}
use lib.Seq.{get_or-take}
use Rattle.fund.specs.Base.{sum, bytes}
use Rattle.fund.specs.Limits.{most_bound}
use Rattle.fund.specs.Distribution.{distribution_bound}
use Rattle.fund.specs.Listing.{decimal, signed_decimal, joined, cell_line, cell_lines}
use Rattle.answer_text.specs.Shown.{bounded}
use Rattle.answer_text.specs.Pieces.{cell_text}

pub cell_pieces : (x : ℕ) (f : ℤ) (within : ℕ) (F : ℤ) (bound : ℕ)
    → cell_text x f within F bound
    ≡ bytes "cell=" ++ ((decimal x ++ (44 ∷ [])) ++ ((signed_decimal f ++ (44 ∷ [])) ++ ((decimal within ++ (44 ∷ [])) ++ ((signed_decimal F ++ (44 ∷ [])) ++ (decimal bound ++ (10 ∷ []))))))
unfolding cell_text joined
cell_pieces x f within F bound = simp append_assoc

-- The bound of the distribution function before x: 2×E, and R of each cell before.
abbrev pub bound_before : ℕ → List ℕ → ℕ → ℕ
bound_before E R x = sum x (λ y. get_or R y 0) + 2 * E

pub bound_step : (E : ℕ) (R : List ℕ) (x : ℕ) → bound_before E R (x + 1) ≡ bound_before E R x + get_or R x 0
unfolding sum
bound_step E R x = rw add-one (omega arith)

lines_more : (E : ℕ) (f : List ℤ) (R : List ℕ) (F : List ℤ) (x n : ℕ)
    → cell_lines E f R F x (suc n) ≡ cell_lines E f R F x n ++ cell_line E f R F (x + n)
unfolding cell_lines
lines_more E f R F x zero = append-nil _ ∙ ap (cell_line E f R F) (sym (add-zero x))
lines_more E f R F x (suc n) =
    ap (λ l. cell_line E f R F x ++ l) (lines_more E f R F (suc x) n) ∙ sym (append_assoc (cell_line E f R F x) (cell_lines E f R F (suc x) n) _)
    ∙ ap (λ y. cell_lines E f R F x (suc n) ++ cell_line E f R F y) (suc-add x n ∙ sym (add-suc x n))

-- The lines of the cells up to x: those before it, and that of x.
pub cells_step : (E : ℕ) (f : List ℤ) (R : List ℕ) (F : List ℤ) (x bound : ℕ) → bound ≡ bound_before E R x
    → cell_lines E f R F 0 (x + 1)
    ≡ cell_lines E f R F 0 x ++ cell_text x (get_or f x (pos 0)) (get_or R x 0 + 2 * E) (get_or F x (pos 0)) (bound + get_or R x 0)
unfolding cell_line cell_text distribution_bound
cells_step E f R F x bound e = rw (add-one, lines_more, zero-add, e, ← bound_step, add-one)

bounded_at : (R : List ℕ) (x : ℕ) → bounded R ≡ true → get_or R x 0 ≤ most_bound
bounded_at [] x e = omega arith
bounded_at (y ∷ R) zero e = grind (arith, nat_tests, e)
bounded_at (y ∷ R) (suc x) e = bounded_at R x (grind (arith, nat_tests, e))

-- Of the bounds of the first n cells: each, and the sum of those before a cell.
module _ (n : ℕ) (R : List ℕ) (e : bounded (take n R) ≡ true) where
  pub bounded_before : (x : ℕ) → x < n → get_or R x 0 ≤ most_bound
  bounded_before x h = rw (get_or-take n R x 0 h) at (bounded_at (take n R) x e)

  pub sum_most : (x : ℕ) → x ≤ n → sum x (λ y. get_or R y 0) ≤ most_bound * x
  unfolding sum
  sum_most zero h = omega arith
  sum_most (suc x) h = omega (arith, sum_most x (omega arith), bounded_before x h)
