-- What a call of the recursion answers and leaves, for any transform, any start and any lengths of the slices for f and R.
use Rattle.std.specs.Prelude.{List, [], ◌∷◌, map, reverse, ℕ, suc, ℤ, pos, replicate, if◌then◌else◌, ⊤, Result, Ok, Err}
use Rattle.fund.specs.Recursion.{Cell, cells}
use Rattle.fund.specs.Refusals.{wide}
use Rattle.fund.specs.Answer.{lent}
use Rattle.recursion_limits.specs.declared.Broken.{Broken}
use Rattle.recursion_limits.specs.declared.Broken.TheVariants.{Wide, Large}
use Rattle.recursion_limits.specs.Tests.{large, tested}
use Rattle.recursion.specs.Slices.{entries_in}

-- The first of the cells, from place x on, that is too wide or, where it is not, too large.
unfoldable pub stopped : ℕ → List Cell → Result ⊤ Broken
stopped x [] = Ok tt
stopped x (y ∷ rest) =
    let after = stopped (suc x) rest in
    if wide y then Err (Wide x) else if large y then Err (Large x) else after

-- The cells of 0 to X.
unfoldable pub cells_to : ℕ → List ℤ → List ℕ → Cell → List Cell
cells_to X d h start = reverse (cells (entries_in X d h) start X)

-- What is answered, or what follows where no limit is broken.
abbrev pub after : Result ⊤ Broken → Result ⊤ Broken → Result ⊤ Broken
after (Ok tt) next = next
after (Err limit) next = Err limit

unfoldable pub recursed : ℕ → List ℤ → List ℕ → Cell → ℕ → ℕ → Result ⊤ Broken
recursed X d h start nf nr = after (tested X d h start nf nr) (stopped 0 (cells_to X d h start))

-- What a call leaves: its answer and the slices.
pub record Left : Type 0 where
  pub answer : Result ⊤ Broken
  pub f : List ℤ
  pub R : List ℕ

abbrev pub left_cells : Result ⊤ Broken → List ℤ → List ℕ → Left
left_cells a f r = record { answer = a; f = f; R = r }

-- The cells with zeros beyond X, or zeros.
unfoldable pub leaves : List Cell → ℕ → ℕ → Result ⊤ Broken → Left
leaves ys nf nr (Ok tt) = left_cells (Ok tt) (lent (pos 0) nf (map (λ (y : Cell). y.f) ys)) (lent 0 nr (map (λ (y : Cell). y.R) ys))
leaves ys nf nr (Err limit) = left_cells (Err limit) (replicate nf (pos 0)) (replicate nr 0)

unfoldable pub recursion : ℕ → List ℤ → List ℕ → Cell → ℕ → ℕ → Left
recursion X d h start nf nr = leaves (cells_to X d h start) nf nr (recursed X d h start nf nr)
