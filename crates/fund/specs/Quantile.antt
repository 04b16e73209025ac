-- METHOD 7 (§1): the running sums of the cells, and the deductible at a level.
use Rattle.std.specs.Prelude.{◌≡◌, Bool, true, false, List, ℕ, suc, ◌<◌, ◌≤◌, leb, ltb, ℤ, pos, negsuc, get_or, take, if◌then◌else◌, Err, None, Ok, Option, Some}
use Rattle.fund.specs.Verdict.{Verdict}
use Rattle.fund.specs.Base.{sumℤ}
use Rattle.fund.specs.Limits.{most_level}
use Rattle.fund.specs.Refusals.{first}

-- "F(x) is f(0) + .. + f(x)."
unfoldable pub running_sum : List ℤ → ℕ → ℤ
running_sum fs x = sumℤ (suc x) (λ y. get_or fs y (pos 0))

-- "F(x) at least the level"
unfoldable pub reaches : ℕ → ℤ → Bool
reaches level (pos n) = leb level n
reaches level (negsuc n) = false

-- "Given a level from 0 to 10^12 units, give the smallest x with F(x) at least the level, or "none up to the horizon". Since f may
-- be slightly negative, F need not rise; the answer is still the first x." "A level above 10^12 .. answers none."
unfoldable pub quantile : ℕ → ℕ → List ℤ → Option ℕ
quantile level X F = if ltb most_level level then None else first (reaches level) 0 (take (suc X) F)

-- ".. or a refused fund answers none."
abbrev pub quantile_of : ℕ → ℕ → List ℤ → Verdict → Option ℕ
quantile_of level X F (Ok tt) = quantile level X F
quantile_of level X F (Err stop) = None

-- The answer's values: whether the level is reached, 1 or 0, and the place, 0 where it is not.
abbrev pub reached_in : Option ℕ → ℕ
reached_in (Some x) = 1
reached_in None = 0

abbrev pub quantile_in : Option ℕ → ℕ
quantile_in (Some x) = x
quantile_in None = 0

-- What the answer at a level of at most 10^12 says of the sums up to X: the first place where they reach the level, or that they reach it
-- at none.
pub record FirstReached (level X : ℕ) (F : List ℤ) (x : ℕ) : Type 0 where
  pub inside : x ≤ X
  pub reached : reaches level (get_or F x (pos 0)) ≡ true
  pub before : (y : ℕ) → y < x → reaches level (get_or F y (pos 0)) ≡ false

abbrev pub QuantileSays : ℕ → ℕ → List ℤ → Option ℕ → Type 0
QuantileSays level X F (Some x) = FirstReached level X F x
QuantileSays level X F None = (y : ℕ) → y ≤ X → reaches level (get_or F y (pos 0)) ≡ false
