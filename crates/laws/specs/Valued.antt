-- The first of a table that meets a condition (first_none_of, first_some_of), and what is left of the refusals 7 to 10 where 7 to 9 have
-- passed (valued_rest).
use Rattle.std.specs.Prelude.{◌≡◌, Bool, true, false, List, if◌then◌else◌, None, Ok, Some}
use Rattle.std.proofs.Math.Path.{refl, ap}
use Rattle.std.proofs.Common.{◌∙◌, lt-ltb, le-ltb}
use Prim.Native.Nat.{ℕ, zero, suc, ◌+◌, ◌<◌, ◌≤◌}
use native.Mathlib.Omega.{arith}
use Rattle.fund.specs.declared.Fund.{Fund}
use Rattle.fund.specs.declared.Life.{Life}
use Rattle.fund.specs.declared.Refusal.TheVariants.{Wide}
use Rattle.fund.specs.Base.{table}
use Rattle.fund.specs.Limits.{most_load, most_truncation, most_bound}
use Rattle.fund.specs.Transform.{load, truncation}
use Rattle.fund.specs.Recursion.{Cell}
use Rattle.fund.specs.Refusals.{first, wide, Lengths, short, refuse, at0, valued}
use Rattle.laws.specs.Tables.{table_first}

-- ---- the first of a table that meets a condition
module _ {A : Type 0} (met : A → Bool) where
  pub first_none_of : (at n : ℕ) (g : ℕ → A) → ((k : ℕ) → k < n → met (g k) ≡ false) → first met at (table n g) ≡ None
  unfolding first table
  first_none_of at zero g h = refl
  first_none_of at (suc n) g h =
      ap (first met at) (table_first n g)
      ∙ ap (λ b. if b then Some at else first met (suc at) (table n (λ k. g (suc k)))) (h 0 (omega arith))
      ∙ first_none_of (suc at) n (λ k. g (suc k)) (λ k l. h (suc k) (omega arith))

  pub first_some_of : (at n x : ℕ) (g : ℕ → A) → x < n → ((k : ℕ) → k < x → met (g k) ≡ false) → met (g x) ≡ true → first met at (table n g) ≡ Some (at + x)
  unfolding first
  first_some_of at zero x g l h m = absurd (omega arith)
  first_some_of at (suc n) zero g l h m =
      ap (first met at) (table_first n g)
      ∙ ap (λ b. if b then Some at else first met (suc at) (table n (λ k. g (suc k)))) m
      ∙ ap Some (let e : at ≡ at + 0 = omega arith in e)
  first_some_of at (suc n) (suc x) g l h m =
      ap (first met at) (table_first n g)
      ∙ ap (λ b. if b then Some at else first met (suc at) (table n (λ k. g (suc k)))) (h 0 (omega arith))
      ∙ first_some_of (suc at) n x (λ k. g (suc k)) (omega arith) (λ k q. h (suc k) (omega arith)) m
      ∙ ap Some (let e : suc at + x ≡ at + suc x = omega arith in e)

-- ---- the refusals
-- what is left of 7 to 10 where 7, 8 and 9 have passed
pub valued_rest : (fund : Fund) (ms : List Life) (n : Lengths) (cells : List Cell) → load fund.frequency ms ≤ most_load → truncation fund.order ms ≤ most_truncation → short n fund.horizon ≡ false →
    valued fund ms n cells ≡ refuse Wide (first wide 0 cells) (Ok tt)
unfolding valued refuse at0
valued_rest fund ms n cells l t s = rw (le-ltb _ _ l, le-ltb _ _ t, s)

pub narrow_cell : (y : Cell) → y.R ≤ most_bound → wide y ≡ false
unfolding wide
narrow_cell y h = le-ltb _ _ h

pub wide_cell : (y : Cell) → most_bound < y.R → wide y ≡ true
unfolding wide
wide_cell y h = lt-ltb _ _ h
