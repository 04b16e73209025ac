-- METHOD 10, demand 3: what a call that prices a fund must leave, in whole numbers over the denominator. And (§3) what the
-- gross premium must cover; §7: what holds of the distribution function, and so of the answer at a level.
use Rattle.std.specs.Prelude.{◌≡◌, ℕ, suc, ◌*◌, ◌+◌, ◌^◌, ◌<◌, ◌≤◌, ℤ, pos, nat_abs, ◌+ℤ◌, ◌*ℤ◌, ◌-ℤ◌, ◌≤ℤ◌, ◌<ℤ◌, get_or, None, Option, Some}
use Rattle.fund.specs.Base.{sum, sumℤ}
use Rattle.fund.specs.Reading.{FundFile}
use Rattle.fund.specs.Folding.{lives}
use Rattle.fund.specs.Transform.{unit, lambda}
use Rattle.fund.specs.Premium.{printed_bound}
use Rattle.fund.specs.Tariff.{loading}
use Rattle.fund.specs.Distribution.{distribution_bound}
use Rattle.fund.specs.Answer.{Answer, fund_mean}
use Rattle.fund.specs.Exact.{denominator, exact, exact_premium, singles, outcomes, excess}

unfoldable pub file_denominator : FundFile → ℕ
file_denominator file = denominator file.header.horizon (lives file)

-- The exact value at x and the exact premium, which takes the fund's own mean, times the denominator.
unfoldable pub exact_at : FundFile → ℕ → ℤ
exact_at file x = exact file.header.horizon file.header.frequency (lives file) x

unfoldable pub exact_premium_of : FundFile → ℤ
exact_premium_of file = exact_premium file.header.horizon file.header.deductible (fund_mean file.header (lives file)) file.header.frequency (lives file)

-- f(x) less 10^12 times the exact value at x, times the denominator.
unfoldable pub apart : FundFile → Answer → ℕ → ℕ
apart file a x = nat_abs (pos (file_denominator file) *ℤ get_or a.f x (pos 0) -ℤ pos unit *ℤ exact_at file x)

-- The exact distribution function at x, times the denominator: the exact values up to x.
unfoldable pub exact_sum : FundFile → ℕ → ℤ
exact_sum file x = sumℤ (suc x) (exact_at file)

-- The bound of the distribution function at x, times the denominator.
unfoldable pub bound_at : FundFile → Answer → ℕ → ℕ
bound_at file a x = file_denominator file * distribution_bound a.figures.truncation a.R x

-- "For each fund that it accepts and each x from 0 to X, f(x) and 10^12 times the exact value at x differ by at most
-- R(x) + 2×E; and the premium and the exact premium differ by at most the premium's bound." METHOD 10 (§7): "the sum over all cells up to x
-- of the distances from the exact probabilities is at most R(0) + .. + R(x) + 2×E, for every x up to the horizon. So F(x) and §1's sums carry
-- this smaller bound."
pub record WithinBounds (file : FundFile) (a : Answer) : Type 0 where
  pub cell : (x : ℕ) → x ≤ file.header.horizon → apart file a x ≤ file_denominator file * printed_bound a.figures.truncation (get_or a.R x 0)
  pub cells : (x : ℕ) → x ≤ file.header.horizon → sum (suc x) (apart file a) ≤ bound_at file a x
  pub sums : (x : ℕ) → x ≤ file.header.horizon → nat_abs (pos (file_denominator file) *ℤ get_or a.F x (pos 0) -ℤ pos unit *ℤ exact_sum file x) ≤ bound_at file a x
  pub premium : nat_abs (pos (file_denominator file) *ℤ a.figures.premium -ℤ exact_premium_of file) ≤ file_denominator file * a.figures.within

-- "With lambda 0 it equals, in units, the average excess over M of all outcomes of the group 1 members", times 10^(6g) and the denominator.
abbrev pub AverageExcess : FundFile → Type 0
AverageExcess file =
    lambda file.header.frequency (lives file) ≡ 0 →
    exact_premium_of file *ℤ pos (10 ^ (6 * singles (lives file))) ≡ pos (unit * excess file.header.deductible (outcomes (lives file)) * file_denominator file)

-- The exact premium's loaded worth: exact premium × worth × loading / 10^15, times 10^15 and the denominator.
unfoldable pub exact_loaded_worth : FundFile → ℤ
exact_loaded_worth file = exact_premium_of file *ℤ pos (file.header.worth * loading file.header.deductible)

-- "Show that the gross premium is never below the exact premium's loaded worth."
pub record NeverBelow (file : FundFile) (a : Answer) : Type 0 where
  pub gross : exact_loaded_worth file ≤ℤ pos (a.figures.gross * 10 ^ 15 * file_denominator file)

-- What the answer at a level of at most 10^12 says of 10^12 times the exact distribution function: at the answered place it is at least the
-- level less the bound there, and at each place before it below the level plus the bound there; or, where the answer is none, so at each
-- place up to the horizon. All times the denominator.
abbrev pub BelowAt : FundFile → Answer → ℕ → ℕ → Type 0
BelowAt file a level y = (pos unit *ℤ exact_sum file y) <ℤ pos (file_denominator file * level + bound_at file a y)

pub record ReachedWithin (file : FundFile) (a : Answer) (level x : ℕ) : Type 0 where
  pub reached : pos (file_denominator file * level) ≤ℤ (pos unit *ℤ exact_sum file x +ℤ pos (bound_at file a x))
  pub before : (y : ℕ) → y < x → BelowAt file a level y

abbrev pub QuantileWithin : FundFile → Answer → ℕ → Option ℕ → Type 0
QuantileWithin file a level (Some x) = ReachedWithin file a level x
QuantileWithin file a level None = (y : ℕ) → y ≤ file.header.horizon → BelowAt file a level y
