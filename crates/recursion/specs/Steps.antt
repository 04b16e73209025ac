-- What the steps of the recursion say of their sums and of the slices.
use Rattle.std.specs.Prelude.{◌≡◌, Bool, true, false, List, ℕ, suc, ◌+◌, ◌-◌, ◌*◌, ◌^◌, ◌<◌, ◌≤◌, ℤ, pos, negsuc, nat_abs, ◌+ℤ◌, take, drop, replicate, ⊤, Result, Ok, Err}
use Rattle.algebra.specs.RationalSum.{sum_n, sum_z}
use Rattle.fund.specs.Base.{table}
use Rattle.fund.specs.Limits.{most_bound}
use Rattle.fund.specs.Recursion.{Cell, Entry}
use Rattle.laws.specs.Cells.{add_f, add_r, cell_at}
use Rattle.whole.specs.declared.Sums.{Sums}
use Rattle.whole.specs.Sums.{sum_of}
use Rattle.recursion_limits.specs.declared.Broken.{Broken}
use Rattle.recursion_limits.specs.declared.Broken.TheVariants.{Short, Outside, Wide, Large}
use Rattle.recursion_limits.specs.Limits.{most_transform, most_error, most_cell, sizes, CellFits}
use Rattle.recursion.specs.Slices.{cell_in, entry_in, entries_in, cell_of}
use Rattle.recursion.specs.Recursion.{left_cells, recursed, recursion}

abbrev pub most_part_sum : ℕ
most_part_sum = 9 * 10 ^ 17

-- ---- one k
-- whether one of two numbers is negative and the other is not
abbrev pub opposite : ℤ → ℤ → Bool
opposite (pos a) (pos b) = false
opposite (pos a) (negsuc b) = true
opposite (negsuc a) (pos b) = true
opposite (negsuc a) (negsuc b) = false

-- the sums so far, the entry and the cell are within their limits
pub record SumsFit (s : Sums) (k : Entry) (y : Cell) : Type 0 where
  pub cell_fits : CellFits y
  pub transform : nat_abs k.D ≤ most_transform
  pub error : k.H ≤ most_error
  pub plus_within : s.plus ≤ most_part_sum
  pub minus_within : s.minus ≤ most_part_sum
  pub bound_within : s.bound ≤ most_part_sum

pub record ProductAdded (s : Sums) (k : Entry) (y : Cell) (t : Sums) : Type 0 where
  pub f_is : sum_of t ≡ sum_of s +ℤ add_f k y
  pub R_is : t.bound ≡ s.bound + add_r k y
  pub plus_within : t.plus ≤ s.plus + 2 * nat_abs k.D
  pub minus_within : t.minus ≤ s.minus + 2 * nat_abs k.D
  pub bound_within : t.bound ≤ s.bound + nat_abs k.D + 3 * most_error

-- ---- the sums over the first n of k, for the cell after last
pub record SumsTo (d : List ℤ) (h : List ℕ) (f : List ℤ) (r : List ℕ) (last n : ℕ) (s : Sums) : Type 0 where
  pub f_is : sum_of s ≡ sum_z n (λ k. add_f (entry_in d h k) (cell_in f r (last - k)))
  pub R_is : s.bound ≡ sum_n n (λ k. add_r (entry_in d h k) (cell_in f r (last - k)))
  pub plus_within : s.plus ≤ 2 * sizes d n
  pub minus_within : s.minus ≤ 2 * sizes d n
  pub bound_within : s.bound ≤ sizes d n + n * (3 * most_error)

-- ---- all steps
-- every cell up to X is in its place, and what stands beyond is as it was
pub record CellsFilled (X : ℕ) (cell : ℕ → Cell) (f f' : List ℤ) (r r' : List ℕ) : Type 0 where
  pub f_are : take (suc X) f' ≡ table (suc X) (λ x. (cell x).f)
  pub r_are : take (suc X) r' ≡ table (suc X) (λ x. (cell x).R)
  pub f_beyond : drop (suc X) f' ≡ drop (suc X) f
  pub r_beyond : drop (suc X) r' ≡ drop (suc X) r
  pub fit : (x : ℕ) → x ≤ X → CellFits (cell x)

-- the first cell that is not within the limits is x: too wide, or not too wide and too large
pub record WideAt (X : ℕ) (cell : ℕ → Cell) (x : ℕ) : Type 0 where
  pub within : x ≤ X
  pub fit : (y : ℕ) → y < x → CellFits (cell y)
  pub wide : most_bound < (cell x).R

pub record LargeAt (X : ℕ) (cell : ℕ → Cell) (x : ℕ) : Type 0 where
  pub within : x ≤ X
  pub fit : (y : ℕ) → y < x → CellFits (cell y)
  pub narrow : (cell x).R ≤ most_bound
  pub large : most_cell < nat_abs (cell x).f

abbrev pub StepsTo : (X : ℕ) (cell : ℕ → Cell) (f f' : List ℤ) (r r' : List ℕ) → Result ⊤ Broken → Type 0
StepsTo X cell f f' r r' (Ok tt) = CellsFilled X cell f f' r r'
StepsTo X cell f f' r r' (Err Short) = ⊥
StepsTo X cell f f' r r' (Err (Outside k)) = ⊥
StepsTo X cell f f' r r' (Err (Wide x)) = WideAt X cell x
StepsTo X cell f f' r r' (Err (Large x)) = LargeAt X cell x

abbrev pub StepsFor : ℕ → List ℤ → List ℕ → List ℤ → List ℕ → List ℤ → List ℕ → Result ⊤ Broken → Type 0
StepsFor X d h f r f' r' a = StepsTo X (cell_of X d h f r) f f' r r' a

-- the steps from a start, in slices of nf and nr cells that are zero but for it
abbrev pub StepsFrom : ℕ → List ℤ → List ℕ → Cell → ℕ → ℕ → List ℤ → List ℕ → Result ⊤ Broken → Type 0
StepsFrom X d h start nf nr f' r' a = StepsTo X (cell_at (entries_in X d h) start) (replicate nf (pos 0)) f' (replicate nr 0) r' a

-- ---- the tests and the steps: where they are done the slices are filled, else the answer is the definition's
abbrev pub CarriedOut : ℕ → List ℤ → List ℕ → Cell → ℕ → ℕ → List ℤ → List ℕ → Result ⊤ Broken → Type 0
CarriedOut X d h start nf nr f' r' (Ok tt) = left_cells (Ok tt) f' r' ≡ recursion X d h start nf nr
CarriedOut X d h start nf nr f' r' (Err limit) = recursed X d h start nf nr ≡ Err limit
