-- What the start's functions say: t(n) and c(n) from those before them, and their sums.
use Rattle.std.specs.Prelude.{◌≡◌, false, ℕ, zero, suc, min, ◌+◌, ◌*◌, ◌^◌, ◌≤◌, pos}
use Rattle.rounding.specs.Rounding.{up}
use Rattle.fund.specs.Base.{sum, sumℤ, alternate}
use Rattle.fund.specs.Limits.{most_load}
use Rattle.fund.specs.Recursion.{t, c, alternating}
use Rattle.whole.specs.Sign.{signed}
use Rattle.whole.specs.declared.Sums.{Sums}
use Rattle.whole.specs.Sums.{sum_of}
use Rattle.start.specs.declared.StartSum.{StartSum}

-- a t(n) and a c(n) are at most these, for lambda up to the most load
abbrev pub most_t : ℕ
most_t = 10 ^ 15

abbrev pub most_c : ℕ
most_c = 1000

-- c(n) from the one before it
unfoldable pub next_c : ℕ → ℕ → ℕ → ℕ
next_c zero c n = 0
next_c (suc lambda) c n = up (c * suc lambda) (n * 10 ^ 12) + 1

-- the sums over the first n
pub record TermsTo (lambda n : ℕ) (s : Sums) : Type 0 where
  pub sum_is : sum_of s ≡ sumℤ n (λ k. alternate k (pos (t lambda k)))
  pub bound_is : s.bound ≡ sum n (c lambda)
  pub plus_within : s.plus ≤ n * most_t
  pub minus_within : s.minus ≤ n * most_t
  pub bound_within : s.bound ≤ n * most_c

-- the sums of all, by sign and size; 0 has no sign
pub record StartSumIs (lambda : ℕ) (s : StartSum) : Type 0 where
  pub sum_is : signed s.sum.negative s.sum.size ≡ alternating lambda
  pub unsigned : s.sum.size ≡ 0 → s.sum.negative ≡ false
  pub bound_is : s.bound ≡ sum 64 (c lambda)

-- of a lambda up to the largest load
pub record StartSums (lambda : ℕ) (s : StartSum) : Type 0 where
  pub is : StartSumIs (min lambda most_load) s
  pub size_within : s.sum.size ≤ 200 * most_t
  pub bound_within : s.bound ≤ 691
