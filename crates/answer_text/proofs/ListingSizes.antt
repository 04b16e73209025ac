-- How long a piece can be: a cell line is no longer than `most_cell_line`, the other lines of a listing together no longer than `most_other_lines`, and
-- the line of an answer at a level no longer than `level_room`.
use mathlib.Core.Path.{◌≡◌}
use mathlib.Core.List.{List}
use Prim.Native.Nat.{ℕ, suc, ◌+◌, ◌*◌, ◌^◌, ◌≤◌, ◌<◌}
use native.Mathlib.Omega.{arith}
use lib.IntN.{ℤ, pos}
use lib.ListN.{length, get_or, length-append}
use Rattle.std.specs.Prelude.{Option, Some, None, IfSome}
use mir.Syntax.{w64}
use mir.Val.{SFits}
use Rattle.fund.specs.declared.Figures.{Figures}
use Rattle.fund.specs.Base.{bytes}
use Rattle.fund.specs.Limits.{most_horizon}
use Rattle.fund.specs.Listing.{joined, cell_lines}
use Rattle.answer_text.specs.Shown.{most_cell_line, room}
use Rattle.answer_text.specs.Level.{place_text, quantile_line, level_room}
use Rattle.answer_text.specs.Pieces.{cell_text, head, foot, accepted_lines}
use Rattle.writing.proofs.Decimal.{decimal_length}
use Rattle.writing.proofs.NumberSizes.{decimal_word, signed_word}
use Rattle.answer_text.proofs.Pieces.{bound_before, cells_step}

cell_size : (x : ℕ) (f : ℤ) (within : ℕ) (F : ℤ) (bound : ℕ) → x ≤ most_horizon → SFits w64 f → within < 10 ^ 9 → SFits w64 F → bound < 10 ^ 10
    → length (cell_text x f within F bound) ≤ most_cell_line
unfolding cell_text joined bytes
cell_size x f within F bound h g w G b =
    simp length-append
    (omega (arith, decimal_length 3 x (omega arith) (omega arith), signed_word f g, decimal_length 8 within w (omega arith), signed_word F G, decimal_length 9 bound b (omega arith)))

-- One cell line more.
pub cells_size : (E : ℕ) (f : List ℤ) (R : List ℕ) (F : List ℤ) (x bound : ℕ)
    → bound ≡ bound_before E R x → length (cell_lines E f R F 0 x) ≤ most_cell_line * x
    → x ≤ most_horizon → SFits w64 (get_or f x (pos 0)) → get_or R x 0 + 2 * E < 10 ^ 9 → SFits w64 (get_or F x (pos 0)) → bound + get_or R x 0 < 10 ^ 10
    → length (cell_lines E f R F 0 (x + 1)) ≤ most_cell_line * (x + 1)
cells_size E f R F x bound e before h g w G b =
    rw (cells_step E f R F x bound e, length-append) (omega (arith, cell_size x (get_or f x (pos 0)) (get_or R x 0 + 2 * E) (get_or F x (pos 0)) (bound + get_or R x 0) h g w G b))

pub head_size : (a : Figures) → a.truncation < 2 ^ 64 → a.mean < 2 ^ 64 → length (head a) ≤ 58
unfolding head joined bytes
head_size a h g = simp length-append (omega (arith, decimal_word a.truncation h, decimal_word a.mean g))

pub foot_size : (a : Figures) → SFits w64 a.premium → a.within < 2 ^ 64 → a.gross < 2 ^ 64 → length (foot a) ≤ 84
unfolding foot joined bytes
foot_size a h g k = simp length-append (omega (arith, signed_word a.premium h, decimal_word a.within g, decimal_word a.gross k))

pub accepted_size : (a : Figures) (f : List ℤ) (R : List ℕ) (F : List ℤ) (count : ℕ)
    → length (head a) ≤ 58 → length (cell_lines a.truncation f R F 0 count) ≤ most_cell_line * count → length (foot a) ≤ 84 → count ≤ suc most_horizon
    → length (accepted_lines a f R F count) ≤ room
unfolding accepted_lines
accepted_size a f R F count h c g k = simp length-append (omega arith)

pub quantile_size : (quantile : Option ℕ) → IfSome quantile (λ x. x < 2 ^ 64) → length (quantile_line quantile) ≤ level_room
unfolding quantile_line place_text joined bytes
quantile_size (Some x) h = simp length-append (omega (arith, decimal_word x h))
quantile_size None h = omega arith
