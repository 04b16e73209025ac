-- The sums over the cells below the deductible: one weighed cell (weighed), one more of them (below_none, below_more),
-- and the premium and its bound from the sums over all of them (priced).
use mathlib.Core.Path.{◌≡◌, refl, sym, ap, ◌∙◌}
use mathlib.Core.Bool.{Bool, true, false}
use mathlib.Core.List.{List}
use Prim.Native.Nat.{ℕ, suc, ◌+◌, ◌-◌, ◌*◌, ◌^◌, ◌≤◌, ◌<◌}
use native.Mathlib.Nat as N
use native.Mathlib.Omega.{arith}
use borrow.Author.Tests.{ltb-true}
use lib.IntN.{ℤ, pos, negsuc, nat_abs, ◌+ℤ◌, ◌-ℤ◌, ◌*ℤ◌}
use lib.ListN.{get_or}
use lib.Signed.{lt_z}
use Rattle.algebra.specs.Integer.{ℤ_ring}
use Rattle.algebra.specs.Solver.{◌⊕◌, ◌⊝◌, ◌:=◌, ring4}
use Rattle.fund.specs.Limits.{most_deductible, most_bound}
use Rattle.fund.specs.Premium.{premium, within}
use Rattle.fund.specs.Recursion.{Cell}
use Rattle.fund.specs.Transform.{unit}
use Rattle.laws.specs.Cells.{sum_below_is, bound_below_is}
use Rattle.whole.specs.declared.Sums.{Sums}
use Rattle.whole.specs.Sign.{signed}
use Rattle.whole.specs.Sums.{sum_of, WithPart}
use Rattle.recursion.specs.Slices.{cell_in}
use Rattle.valuation.specs.Premium.{Cells, CellWeighed, BelowTo, StopLossIs}

-- ---- one cell
weight_sign : (w : ℕ) (f : ℤ) (s : Bool) → lt_z f (pos 0) ≡ s → pos w *ℤ f ≡ signed s (w * nat_abs f)
weight_sign w (pos a) true t = let h = ltb-true a 0 t in absurd (omega arith)
weight_sign w (pos a) false t = refl
weight_sign w (negsuc a) true t = refl
weight_sign w (negsuc a) false t = let u : ◌≡◌ {A = ℕ} 0 1 = cc in absurd (omega arith)

pub weighed : (s t : Sums) (w : ℕ) (y : Cell) (part : ℕ) → part ≡ w * nat_abs y.f → WithPart s (lt_z y.f (pos 0)) part (w * y.R) t →
    CellWeighed s w y t
weighed s t w y part is p =
    record {
      sum_is = p.sum_is ∙ ap (λ z. sum_of s +ℤ z) (ap (signed (lt_z y.f (pos 0))) is ∙ sym (weight_sign w y.f (lt_z y.f (pos 0)) refl));
      bound_is = p.bound_is;
      plus_within = omega (arith, p.plus_within, is);
      minus_within = omega (arith, p.minus_within, is);
    }

-- ---- the sums
module _ (M : ℕ) (f : List ℤ) (r : List ℕ) where
  pub below_none : (s : Sums) → (s.plus ≡ 0) × ((s.minus ≡ 0) × (s.bound ≡ 0)) → BelowTo M f r 0 s
  below_none s e = record { sum_is = rw (e.0, e.1.0) refl; bound_is = e.1.1; plus_within = omega arith; minus_within = omega arith; bound_within = omega arith }

  pub below_more : (x : ℕ) (s t : Sums) → Cells M f r → x < M → BelowTo M f r x s → CellWeighed s (M - x) (cell_in f r x) t → BelowTo M f r (suc x) t
  below_more x s t cells l i w =
      let few : M - x ≤ most_deductible = omega (arith, cells.few) in
      let level : (M - x) * nat_abs (get_or f x (pos 0)) ≤ most_deductible * nat_abs (get_or f x (pos 0)) = N.mul-le-mul_right (nat_abs (get_or f x (pos 0))) few in
      let bound : (M - x) * get_or r x 0 ≤ most_deductible * most_bound = N.mul-le-mul few (cells.narrow x l) in
      record {
        sum_is = w.sum_is ∙ ap (λ z. z +ℤ pos (M - x) *ℤ get_or f x (pos 0)) i.sum_is;
        bound_is = w.bound_is ∙ ap (λ m. m + (M - x) * get_or r x 0) i.bound_is;
        plus_within = omega (arith, w.plus_within, i.plus_within);
        minus_within = omega (arith, w.minus_within, i.minus_within);
        bound_within = omega (arith, w.bound_is, i.bound_within);
      }

  pub priced : (mean E : ℕ) (s : Sums) (z : ℤ) → BelowTo M f r M s → z ≡ pos (mean + s.plus) -ℤ pos (M * 10 ^ 12 + s.minus) →
      StopLossIs M mean E f r (record { premium = z; within = s.bound + 2 * M * E })
  unfolding premium within unit
  priced mean E s z i is =
      record {
        premium_is = λ n l.
            is
            ∙ ring4 ℤ_ring (λ m p u q. (m ⊕ p) ⊝ (u ⊕ q) := (m ⊝ u) ⊕ (p ⊝ q)) tt (pos mean) (pos s.plus) (pos (M * 10 ^ 12)) (pos s.minus)
            ∙ ap (λ b. (pos mean -ℤ pos (M * 10 ^ 12)) +ℤ b) (i.sum_is ∙ sym (sum_below_is M n (cell_in f r) l));
        within_is = λ n l. ap (λ b. b + 2 * M * E) (i.bound_is ∙ sym (bound_below_is M n (cell_in f r) l));
      }
