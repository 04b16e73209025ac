-- The three demands on a call that prices a fund, in plain words: for any bytes, any level and any five slices that are lent to it.
-- And what its answer at the level says.
use Rattle.std.specs.Prelude.{◌≡◌, List, ℕ, ◌+◌, ◌*◌, ◌^◌, ◌<◌, ◌≤◌, ℤ, pos, nat_abs, ◌+ℤ◌, ◌*ℤ◌, ◌-ℤ◌, ◌≤ℤ◌, ◌<ℤ◌, get_or, take, drop, replicate, None, Option, Some}
use Rattle.fund.specs.declared.Figures.{Figures}
use Rattle.fund.specs.Base.{sum, sumℤ}
use Rattle.fund.specs.Reading.{FundFile, Reading, read}
use Rattle.fund.specs.Folding.{lives}
use Rattle.fund.specs.Tariff.{loading}
use Rattle.fund.specs.Refusals.{Lengths, number_in, place_in}
use Rattle.fund.specs.Quantile.{QuantileSays}
use Rattle.fund.specs.Answer.{Part, fund_cells, answer_to}
use Rattle.fund.specs.Distance.{file_denominator, exact_at, exact_premium_of, AverageExcess}
use Rattle.laws.specs.Accepted.{Accepts}

-- What a host has after a call: number and place, the line that it is handed, the horizon, the figures, the answer at the level, and its
-- five slices.
pub record Received : Type 0 where
  pub number : ℕ
  pub place : ℕ
  pub line : List ℕ
  pub horizon : ℕ
  pub figures : Figures
  pub quantile : Option ℕ
  pub D : List ℤ
  pub H : List ℕ
  pub f : List ℤ
  pub R : List ℕ
  pub F : List ℤ

-- The bytes of a part of the text.
abbrev pub part_bytes : List ℕ → Part → List ℕ
part_bytes text p = take p.size (drop p.start text)

-- Demand 1. Number, place and line are METHOD 2's, whatever the bytes are.
pub record Refuses (text : List ℕ) (r : Reading) (n : Lengths) (o : Received) : Type 0 where
  pub number : o.number ≡ number_in (answer_to text n r).verdict
  pub place : o.place ≡ place_in (answer_to text n r).verdict
  pub line : o.line ≡ part_bytes text (answer_to text n r).part

-- "A refusal gives number and place, zero for every figure, and zero in every lent result cell." It answers none at every level.
pub record Zero (n : Lengths) (o : Received) : Type 0 where
  pub horizon : o.horizon ≡ 0
  pub figures : o.figures ≡ record { truncation = 0; mean = 0; premium = pos 0; within = 0; gross = 0 }
  pub quantile : o.quantile ≡ None
  pub D : o.D ≡ replicate n.D (pos 0)
  pub H : o.H ≡ replicate n.H 0
  pub f : o.f ≡ replicate n.f (pos 0)
  pub R : o.R ≡ replicate n.R 0
  pub F : o.F ≡ replicate n.F (pos 0)

-- Demand 2. Every figure and every lent cell is what the method's steps define.
pub record Method (text : List ℕ) (r : Reading) (n : Lengths) (o : Received) : Type 0 where
  pub figures : o.figures ≡ (answer_to text n r).figures
  pub D : o.D ≡ (answer_to text n r).D
  pub H : o.H ≡ (answer_to text n r).H
  pub f : o.f ≡ (answer_to text n r).f
  pub R : o.R ≡ (answer_to text n r).R
  pub F : o.F ≡ (answer_to text n r).F

-- Of a fund that was read and what a host has of it, all times METHOD 10's denominator: how far f(x) is from 10^12 times the exact value at x, 10^12
-- times the exact distribution function at x, and R(0) + .. + R(x) + 2×E.
abbrev pub cell_distance : FundFile → Received → ℕ → ℕ
cell_distance fund o x = nat_abs (pos (file_denominator fund) *ℤ get_or o.f x (pos 0) -ℤ pos (10 ^ 12) *ℤ exact_at fund x)

abbrev pub exact_distribution : FundFile → ℕ → ℤ
exact_distribution fund x = pos (10 ^ 12) *ℤ sumℤ (x + 1) (exact_at fund)

abbrev pub sum_bound : FundFile → Received → ℕ → ℕ
sum_bound fund o x = file_denominator fund * (sum (x + 1) (λ y. get_or o.R y 0) + 2 * o.figures.truncation)

-- Demand 3, of a fund that is accepted: a fund was read; each f(x) that the host has is within R(x) + 2×E of 10^12 times the
-- exact value at x; up to each x these distances add to at most R(0) + .. + R(x) + 2×E, and F(x) is within the same bound of 10^12 times the exact
-- distribution function at x; and the premium is within its bound of the exact premium; all times METHOD 10's denominator. And the gross premium is
-- never below the exact premium's loaded worth, both times 10^15 and the denominator; and with lambda 0 the exact premium is the average excess over M.
pub record Close (r : Reading) (o : Received) : Type 0 where
  pub fund : FundFile
  pub is_read : r ≡ read fund
  pub horizon : o.horizon ≡ fund.header.horizon
  pub cell : (x : ℕ) → x ≤ o.horizon → cell_distance fund o x ≤ file_denominator fund * (get_or o.R x 0 + 2 * o.figures.truncation)
  pub cells : (x : ℕ) → x ≤ o.horizon → sum (x + 1) (cell_distance fund o) ≤ sum_bound fund o x
  pub sums : (x : ℕ) → x ≤ o.horizon → nat_abs (pos (file_denominator fund) *ℤ get_or o.F x (pos 0) -ℤ exact_distribution fund x) ≤ sum_bound fund o x
  pub premium : nat_abs (pos (file_denominator fund) *ℤ o.figures.premium -ℤ exact_premium_of fund) ≤ file_denominator fund * o.figures.within
  pub gross : (exact_premium_of fund *ℤ pos (fund.header.worth * loading fund.header.deductible)) ≤ℤ pos (o.figures.gross * 10 ^ 15 * file_denominator fund)
  pub average : AverageExcess fund

-- What an answer at a level of at most 10^12 says of 10^12 times the exact distribution function: at the answered place it is at least the level less the
-- bound there, and at every place before it is below the level plus the bound there; of none, that it is so at every place up to the horizon.
abbrev pub BelowLevel : FundFile → ℕ → Received → ℕ → Type 0
BelowLevel fund level o y = exact_distribution fund y <ℤ pos (file_denominator fund * level + sum_bound fund o y)

pub record ReachesLevel (fund : FundFile) (level : ℕ) (o : Received) (x : ℕ) : Type 0 where
  pub reached : pos (file_denominator fund * level) ≤ℤ (exact_distribution fund x +ℤ pos (sum_bound fund o x))
  pub before : (y : ℕ) → y < x → BelowLevel fund level o y

abbrev pub ExactSays : FundFile → ℕ → Received → Option ℕ → Type 0
ExactSays fund level o (Some x) = ReachesLevel fund level o x
ExactSays fund level o None = (y : ℕ) → y ≤ o.horizon → BelowLevel fund level o y

-- The deductible at a level, of a fund that is accepted. F(x) is f(0) + .. + f(x) of the f that the host has. Up to a level of 10^12 the
-- answer is the first place up to the horizon where F is at least the level, and F is below the level at every place before it; or none,
-- and F is below the level at every place up to the horizon; and so the exact distribution function, but for the bounds. Above 10^12 it is none.
pub record Quantiles (r : Reading) (level : ℕ) (o : Received) : Type 0 where
  pub sums : (x : ℕ) → x ≤ o.horizon → get_or o.F x (pos 0) ≡ sumℤ (x + 1) (λ y. get_or o.f y (pos 0))
  pub says : level ≤ 10 ^ 12 → QuantileSays level o.horizon o.F o.quantile
  pub exact : (fund : FundFile) → r ≡ read fund → level ≤ 10 ^ 12 → ExactSays fund level o o.quantile
  pub above : 10 ^ 12 < level → o.quantile ≡ None

-- Of a file, the text is the file and the reading is its own; of sheets, the text is the header text. A fund that is read is accepted just where no condition of the
-- refusals 3 to 10 is met.
pub record Demands (text : List ℕ) (r : Reading) (level : ℕ) (n : Lengths) (o : Received) : Type 0 where
  pub refuses : Refuses text r n o
  pub accepts : (fund : FundFile) → r ≡ read fund → Accepts fund n (fund_cells fund.header (lives fund)) → o.number ≡ 0
  pub accepted : (fund : FundFile) → r ≡ read fund → o.number ≡ 0 → Accepts fund n (fund_cells fund.header (lives fund))
  pub zero : 0 < o.number → Zero n o
  pub method : Method text r n o
  pub close : o.number ≡ 0 → Close r o
  pub quantiles : o.number ≡ 0 → Quantiles r level o
