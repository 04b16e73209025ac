-- Laws of the product with p of each group 1 member: life by life (times_one, times_none), and line by line (multiplied_append).
use mathlib.Core.Path.{◌≡◌, refl, ◌∙◌, ap}
use mathlib.Core.Bool.{Bool, true, false}
use mathlib.Core.List.{List, [], ◌∷◌, ◌++◌}
use Prim.Native.Nat.{ℕ, zero, suc, ◌*◌, ◌≤◌}
use native.Mathlib.Nat as N
use native.Mathlib.Omega.{arith}
use lib.IntN.{ℤ, pos, ◌*ℤ◌}
use lib.ListN.{replicate}
use Rattle.rounding.specs.Rounding.{near, nearest}
use Rattle.rounding.proofs.Laws.{near_below}
use Rattle.whole.specs.Sign.{signed}
use Rattle.whole.proofs.Signs.{nearest_times}
use Rattle.fund.specs.declared.Life.{Life}
use Rattle.std.specs.Prelude.{if◌then◌else◌}
use Rattle.fund.specs.Folding.{stay, single}
use Rattle.fund.specs.Limits.{most_rate}
use Rattle.fund.specs.Recursion.{multiplied}

-- a life of group 1 before others
pub times_one : (m : Life) → single m ≡ true → (s : Bool) (size : ℕ) (ms : List Life) → multiplied (signed s size) (m ∷ ms) ≡ multiplied (signed s (near (size * stay m) most_rate)) ms
unfolding multiplied
times_one m e s size ms =
    ap (λ (b : Bool). multiplied (if b then nearest (signed s size *ℤ pos (stay m)) most_rate else signed s size) ms) e
    ∙ ap (λ f. multiplied f ms) (nearest_times s size (stay m) most_rate (omega arith))

pub no_larger : (m : Life) (size : ℕ) → near (size * stay m) most_rate ≤ size
no_larger m size =
    let h : stay m ≤ most_rate = omega arith in
    let w : size * stay m ≤ size * most_rate = N.mul-le-mul_left size h in
    near_below (size * stay m) most_rate size (omega arith) (omega arith)

-- lives of group 2
pub times_none : (m : Life) → single m ≡ false → (f : ℤ) (n : ℕ) → multiplied f (replicate n m) ≡ f
unfolding multiplied
times_none m e f zero = refl
times_none m e f (suc n) = ap (λ (b : Bool). multiplied (if b then nearest (f *ℤ pos (stay m)) most_rate else f) (replicate n m)) e ∙ times_none m e f n

pub multiplied_append : (f : ℤ) (ms ns : List Life) → multiplied f (ms ++ ns) ≡ multiplied (multiplied f ms) ns
unfolding multiplied
multiplied_append f [] ns = refl
multiplied_append f (m ∷ ms) ns = multiplied_append (if single m then nearest (f *ℤ pos (stay m)) most_rate else f) ms ns
