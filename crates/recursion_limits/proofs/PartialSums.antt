-- Sums of numbers that are not negative: a longer sum is not smaller (sum_n_grow), nor is it smaller than one of its terms
-- (sum_n_term).
use mathlib.Core.Path.{◌≡◌}
use mathlib.Core.Logic.{⊎_elim}
use Prim.Native.Nat.{ℕ, zero, suc, ◌≤◌, ◌<◌}
use native.Mathlib.Nat as N
use native.Mathlib.Omega.{arith}
use Rattle.algebra.specs.RationalSum.{sum_n}

pub sum_n_grow : (g : ℕ → ℕ) (n m : ℕ) → n ≤ m → sum_n n g ≤ sum_n m g
sum_n_grow g n zero h = let e : n ≡ 0 = omega arith in rw e (N.le_refl 0)
sum_n_grow g n (suc m) h =
    ⊎_elim (λ e. rw e (N.le_refl (sum_n (suc m) g))) (λ l. let i = sum_n_grow g n m (N.le_of_suc-le-suc l) in omega arith) (N.eq-or-lt_of_le h)

pub sum_n_term : (g : ℕ → ℕ) (n k : ℕ) → k < n → g k ≤ sum_n n g
sum_n_term g n k h = let l = sum_n_grow g (suc k) n h in omega arith
