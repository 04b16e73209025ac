-- The running sums in their slice: one more cell (sums_more), and how large a sum is (sum_size).
use mathlib.Core.Path.{◌≡◌, refl, sym, ◌∙◌, ap, ap₂}
use mathlib.Core.List.{List, [], ◌∷◌, ◌++◌, append_assoc}
use Prim.Native.Nat.{ℕ, zero, suc, ◌<◌, ◌≤◌}
use native.Mathlib.Omega.{arith}
use lib.IntN.{ℤ, pos, nat_abs, ◌+ℤ◌}
use lib.ListN.{length, get_or, set, drop, length-append, length-drop}
use lib.Seq.{drop-cons, set_at}
use Rattle.fund.specs.Base.{sumℤ, table}
use Rattle.fund.specs.Quantile.{running_sum}
use Rattle.laws.specs.Tables.{length_table}
use Rattle.widths.specs.Signed.{nat_abs_add}
use Rattle.valuation.specs.Premium.{levels}

-- f(0) + .. + f(n-1)
abbrev pub sum_to : List ℤ → ℕ → ℤ
sum_to f n = sumℤ n (λ y. get_or f y (pos 0))

pub sum_none : (f : List ℤ) → pos 0 ≡ sum_to f 0
unfolding sumℤ
sum_none f = refl

pub sum_more : (f : List ℤ) (x : ℕ) (sum : ℤ) → sum ≡ sum_to f x → sum +ℤ get_or f x (pos 0) ≡ sum_to f (suc x)
unfolding sumℤ
sum_more f x sum e = ap (λ z. z +ℤ get_or f x (pos 0)) e

pub sum_size : (f : List ℤ) (n : ℕ) → nat_abs (sum_to f n) ≤ levels f n
unfolding sumℤ
sum_size f zero = omega arith
sum_size f (suc n) = omega (arith, sum_size f n, nat_abs_add (sum_to f n) (get_or f n (pos 0)))

-- the sums of the first x cells, in a slice that was `before`
abbrev pub summed : List ℤ → ℕ → List ℤ → List ℤ
summed f x before = table x (running_sum f) ++ drop x before

pub sums_none : (f before : List ℤ) → before ≡ summed f 0 before
unfolding table
sums_none f before = refl

pub sums_more : (f : List ℤ) (x : ℕ) (before sums : List ℤ) (sum : ℤ) → x < length before → sums ≡ summed f x before → sum ≡ sum_to f (suc x) → set sums x sum ≡ summed f (suc x) before
unfolding table running_sum
sums_more f x before sums sum l e s =
    ap₂ (λ (t : List ℤ) (z : ℤ). set t x z) (e ∙ ap (λ (t : List ℤ). table x (running_sum f) ++ t) (drop-cons before x (pos 0) l)) s
    ∙ set_at (table x (running_sum f)) (get_or before x (pos 0)) (drop (suc x) before) (sum_to f (suc x)) x (length_table x (running_sum f))
    ∙ sym (append_assoc (table x (running_sum f)) (sum_to f (suc x) ∷ []) (drop (suc x) before))

pub length_summed : (f : List ℤ) (x : ℕ) (before : List ℤ) → x ≤ length before → length (summed f x before) ≡ length before
length_summed f x before l = omega (arith, length-append (table x (running_sum f)) (drop x before), length_table x (running_sum f), length-drop x before)
