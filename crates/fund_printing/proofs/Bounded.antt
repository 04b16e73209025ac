-- The figures of every answer are in the range that a listing has room for (answer-bounded).
use Rattle.std.specs.Prelude.{Err, Ok}
use mathlib.Core.Path.{◌≡◌, refl}
use mathlib.Core.Bool.{true}
use mathlib.Core.List.{List, [], ◌∷◌, ◌++◌, map}
use Prim.Native.Nat.{ℕ, zero, suc, ◌-◌, ◌≤◌}
use native.Mathlib.Omega.{arith}
use borrow.Author.Tests.{le-leb}
use lib.IntN.{pos}
use lib.ListN.{length, take, replicate, length-append, length-replicate}
use Rattle.fund.specs.Verdict.{Verdict, refused_at}
use Rattle.fund.specs.Limits.{most_bound, most_truncation}
use Rattle.fund.specs.Reading.{FundFile, Reading, read, stopped}
use Rattle.fund.specs.Folding.{lives}
use Rattle.fund.specs.Recursion.{Cell}
use Rattle.fund.specs.Refusals.{Lengths, verdict}
use Rattle.fund.specs.Answer.{Answer, fund_cells, fund_truncation, fund_figures, refused, lent, accepted, answer_of, answer_to}
use Rattle.laws.specs.Accepted.{All, accepts}
use Rattle.answer_text.specs.Shown.{bounded}

abbrev Narrow : ℕ → Type 0
Narrow R = R ≤ most_bound

-- ---- lists
all_append : (xs ys : List ℕ) → All Narrow xs → All Narrow ys → All Narrow (xs ++ ys)
all_append [] ys h k = k
all_append (x ∷ xs) ys h k = (h.0, all_append xs ys h.1 k)

all_zero : (n : ℕ) → All Narrow (replicate n 0)
all_zero zero = tt
all_zero (suc n) = (omega arith, all_zero n)

all_lent : (n : ℕ) (Rs : List ℕ) → All Narrow Rs → All Narrow (lent 0 n Rs)
unfolding lent
all_lent n Rs h = all_append Rs (replicate (n - length Rs) 0) h (all_zero (n - length Rs))

all_bounds : (cells : List Cell) → All (λ (y : Cell). y.R ≤ most_bound) cells → All Narrow (map (λ (y : Cell). y.R) cells)
all_bounds [] h = tt
all_bounds (y ∷ cells) h = (h.0, all_bounds cells h.1)

pub bounded_first : (n : ℕ) (Rs : List ℕ) → All Narrow Rs → bounded (take n Rs) ≡ true
bounded_first zero [] h = refl
bounded_first zero (R ∷ Rs) h = refl
bounded_first (suc n) [] h = refl
bounded_first (suc n) (R ∷ Rs) h = rw (le-leb R most_bound h.0, bounded_first n Rs h.1)

-- ---- answers
-- A result slice is as long as it was lent.
lent_long : {A : Type 0} (blank : A) (n : ℕ) (values : List A) → n ≤ length (lent blank n values)
unfolding lent
lent_long blank n values = omega (arith, length-append values (replicate (n - length values) blank), length-replicate (n - length values) blank)

pub record AnswerIn (n : Lengths) (a : Answer) : Type 0 where
  pub truncation : a.figures.truncation ≤ most_truncation
  pub bounds : All Narrow a.R
  pub long_f : n.f ≤ length a.f
  pub long_R : n.R ≤ length a.R
  pub long_F : n.F ≤ length a.F

refused_in : (file : List ℕ) (n : Lengths) (v : Verdict) → AnswerIn n (refused file n v)
unfolding refused
refused_in file n v =
    record {
      truncation = omega arith;
      bounds = all_zero n.R;
      long_f = omega (arith, length-replicate n.f (pos 0));
      long_R = omega (arith, length-replicate {A = ℕ} n.R 0);
      long_F = omega (arith, length-replicate n.F (pos 0));
    }

answer_of_in : (file : List ℕ) (n : Lengths) (fund : FundFile) (v : Verdict) → verdict fund n (fund_cells fund.header (lives fund)) ≡ v → AnswerIn n (answer_of file n fund v)
unfolding answer_of accepted fund_truncation fund_figures
answer_of_in file n fund (Ok tt) e =
    let a = accepts fund n (fund_cells fund.header (lives fund)) e in
    let Rs = map (λ (y : Cell). y.R) (fund_cells fund.header (lives fund)) in
    record {
      truncation = a.truncation_within;
      bounds = all_lent n.R Rs (all_bounds (fund_cells fund.header (lives fund)) a.narrow);
      long_f = lent_long (pos 0) n.f _;
      long_R = lent_long 0 n.R Rs;
      long_F = lent_long (pos 0) n.F _;
    }
answer_of_in file n fund (Err stop) e = refused_in file n (Err stop)

pub answer_in : (text : List ℕ) (n : Lengths) (r : Reading) → AnswerIn n (answer_to text n r)
unfolding answer_to
answer_in text n (read fund) = answer_of_in text n fund _ refl
answer_in text n (stopped why place) = refused_in text n (refused_at why place)
