-- Demand 3 at the definitions: whatever was read and whatever slice lengths the definitions accept, the answer is within its bounds of the exact
-- values (distance), the answer at a level says so much of the exact distribution function (level_within), and the gross premium is not below the exact premium's
-- loaded worth (never_below); and with lambda 0 the exact premium is the average excess over M of all outcomes of group 1 (average).
use Rattle.std.specs.Prelude.{◌≡◌, false, ℕ, zero, suc, ◌+◌, ◌*◌, ◌^◌, ◌<◌, ◌≤◌, ◌*ℤ◌, ◌-ℤ◌, None, Ok, Option, Some}
use Rattle.std.proofs.Common.{sym, ◌∙◌, le_trans, mul-pos, arith}
use Rattle.std.proofs.Math.Path.{ap, subst}
use mathlib.Core.List.{List}
use Rattle.std.proofs.Math.Nat.{one-le-pow}
use Rattle.std.proofs.Math.IntN.{pos, nat_abs}
use Rattle.std.proofs.Math.ListN.{get_or}
use Rattle.algebra.specs.RationalSum.{sum_n_ext}
use Rattle.fund.specs.Base.{sum}
use Rattle.fund.specs.Limits.{most_level}
use Rattle.fund.specs.Reading.{FundFile, Reading, read}
use Rattle.fund.specs.Folding.{lives}
use Rattle.fund.specs.Transform.{unit}
use Rattle.fund.specs.Recursion.{Cell}
use Rattle.fund.specs.Premium.{premium, within, printed_bound}
use Rattle.fund.specs.Refusals.{Lengths}
use Rattle.fund.specs.Quantile.{reaches, quantile_of, QuantileSays}
use Rattle.fund.specs.Distribution.{distribution_bound}
use Rattle.fund.specs.Answer.{fund_terms, fund_start, fund_cells, fund_truncation, fund_mean, fund_premium, fund_within, fund_figures, Answer, accepted, answer_to}
use Rattle.fund.specs.Listing.{horizon_in}
use Rattle.fund.specs.Exact.{factorial, singles, denominator}
use Rattle.fund.specs.Distance.{file_denominator, exact_at, exact_premium_of, apart, exact_sum, bound_at, WithinBounds, AverageExcess, exact_loaded_worth, NeverBelow, BelowAt, QuantileWithin}
use Rattle.laws.specs.Accepted.{Accepts, accepts}
use Rattle.laws.specs.Cells.{sum_is}
use Rattle.laws.specs.Ranges.{FundOk}
use Rattle.laws.specs.Sums.{F_cell, level_says}
use Rattle.laws.specs.Distribution.{sums_apart, reached_near, below_near}
use Rattle.laws.specs.Tariff.{gross_covers}
use Rattle.laws.specs.Answer.{answer_accepted, fund_cell, fund_cells_are, f_cell, R_cell}
use Rattle.distance.specs.Lives.{all_folded}
use Rattle.distance.specs.Members.{Priceable}
use Rattle.distance.specs.Whole.{cell_distance_lem, cells_distance, premium_distance}
use Rattle.distance.specs.AverageExcess.{average_excess}

factorial_pos : (n : ℕ) → 0 < factorial n
unfolding factorial
factorial_pos zero = omega arith
factorial_pos (suc n) = mul-pos (omega arith) (factorial_pos n)

pub denominator_pos : (fund : FundFile) → 0 < file_denominator fund
unfolding file_denominator denominator
denominator_pos fund = mul-pos (mul-pos tens (factorial_pos fund.header.horizon)) (factorial_pos 63)
  where
    tens : 0 < 10 ^ (6 * singles (lives fund) + 12 * fund.header.horizon + 756)
    tens = one-le-pow (6 * singles (lives fund) + 12 * fund.header.horizon + 756) 10 (omega arith)

-- what acceptance gives of the lives
pub priceable : (fund : FundFile) (n : Lengths) → Accepts fund n (fund_cells fund.header (lives fund)) → Priceable fund.header.order fund.header.frequency (lives fund)
priceable fund n a = record { limited = a.limited_lives; folded = all_folded fund; load_within = a.load_within; truncation_within = a.truncation_within }

module _ (fund : FundFile) (n : Lengths) (ok : FundOk fund) (a : Accepts fund n (fund_cells fund.header (lives fund))) where
  abbrev X : ℕ
  X = fund.header.horizon

  abbrev small : fund.header.order ≤ 12
  small = ok.header.order_most

  abbrev p : Priceable fund.header.order fund.header.frequency (lives fund)
  p = priceable fund n a

  abbrev A : Answer
  A = accepted fund.header (lives fund) n

  gap_is : (x : ℕ) → x ≤ X → apart fund A x ≡ nat_abs (pos (file_denominator fund) *ℤ (fund_cell fund.header (lives fund) x).f -ℤ pos unit *ℤ exact_at fund x)
  unfolding apart
  gap_is x l = ap (λ z. nat_abs (pos (file_denominator fund) *ℤ z -ℤ pos unit *ℤ exact_at fund x)) (f_cell fund.header (lives fund) n x l)

  close_cell : (x : ℕ) → x ≤ X → apart fund A x ≤ file_denominator fund * printed_bound A.figures.truncation (get_or A.R x 0)
  unfolding file_denominator exact_at fund_terms fund_start fund_truncation fund_figures accepted
  close_cell x l = rw (gap_is x l, R_cell fund.header (lives fund) n x l) (cell_distance_lem X fund.header.order fund.header.frequency (lives fund) small p x l)

  close_cells : (x : ℕ) → x ≤ X → sum (suc x) (apart fund A) ≤ bound_at fund A x
  unfolding bound_at distribution_bound file_denominator exact_at fund_terms fund_start fund_truncation fund_figures accepted
  close_cells x l =
      rw (
        sum_is (suc x) (apart fund A) ∙ sum_n_ext (suc x) (apart fund A) (λ y. nat_abs (pos (file_denominator fund) *ℤ (fund_cell fund.header (lives fund) y).f -ℤ pos unit *ℤ exact_at fund y)) (λ y h. gap_is y (omega arith)),
        sum_is (suc x) (λ y. get_or A.R y 0) ∙ sum_n_ext (suc x) (λ y. get_or A.R y 0) (λ y. (fund_cell fund.header (lives fund) y).R) (λ y h. R_cell fund.header (lives fund) n y (omega arith)),
      )
      (cells_distance X fund.header.order fund.header.frequency (lives fund) small p x l)

  close_sums : (x : ℕ) → x ≤ X → nat_abs (pos (file_denominator fund) *ℤ get_or A.F x (pos 0) -ℤ pos unit *ℤ exact_sum fund x) ≤ bound_at fund A x
  unfolding exact_sum apart
  close_sums x l =
      rw (F_cell fund.header (lives fund) n x l)
      (le_trans (sums_apart (pos (file_denominator fund)) (pos unit) (λ y. get_or A.f y (pos 0)) (exact_at fund) (suc x)) (close_cells x l))

  close_premium : nat_abs (pos (file_denominator fund) *ℤ A.figures.premium -ℤ exact_premium_of fund) ≤ file_denominator fund * A.figures.within
  unfolding file_denominator exact_premium_of fund_terms fund_start fund_truncation fund_premium fund_within fund_figures accepted
  close_premium =
      subst (λ (ys : List Cell). nat_abs (pos (file_denominator fund) *ℤ premium fund.header.deductible (fund_mean fund.header (lives fund)) ys -ℤ exact_premium_of fund) ≤ file_denominator fund * within fund.header.deductible (fund_truncation fund.header (lives fund)) ys)
      (sym (fund_cells_are fund.header (lives fund)))
      (premium_distance X fund.header.order fund.header.frequency (lives fund) small p fund.header.deductible (fund_mean fund.header (lives fund)) a.deductible)

  covers_exact : NeverBelow fund A
  unfolding exact_loaded_worth fund_figures accepted
  covers_exact = record { gross = gross_covers (file_denominator fund) fund.header.deductible fund.header.worth A.figures.within A.figures.premium (exact_premium_of fund) close_premium }

pub distance : (text : List ℕ) (n : Lengths) (r : Reading) (fund : FundFile) → FundOk fund → r ≡ read fund → (answer_to text n r).verdict ≡ Ok tt → WithinBounds fund (answer_to text n r)
distance text n r fund ok is e =
    let c = answer_accepted text n r fund is e in
    let a = accepts fund n (fund_cells fund.header (lives fund)) c.verdict_is in
    subst (λ (x : Answer). WithinBounds fund x) (sym c.answer_is)
    (record { cell = close_cell fund n ok a; cells = close_cells fund n ok a; sums = close_sums fund n ok a; premium = close_premium fund n ok a })

-- what the test of F(x) says of the exact distribution function
module _ (fund : FundFile) (a : Answer) (w : WithinBounds fund a) (level : ℕ) where
  below : (y : ℕ) → y ≤ fund.header.horizon → reaches level (get_or a.F y (pos 0)) ≡ false → BelowAt fund a level y
  below y l e = below_near (file_denominator fund) level (bound_at fund a y) (get_or a.F y (pos 0)) (pos unit *ℤ exact_sum fund y) (denominator_pos fund) (w.sums y l) e

  quantile_within : (q : Option ℕ) → QuantileSays level fund.header.horizon a.F q → QuantileWithin fund a level q
  quantile_within (Some x) s =
      record {
        reached = reached_near (file_denominator fund) level (bound_at fund a x) (get_or a.F x (pos 0)) (pos unit *ℤ exact_sum fund x) (w.sums x s.inside) s.reached;
        before = λ y l. below y (omega (arith, s.inside)) (s.before y l);
      }
  quantile_within None s = λ y l. below y l (s y l)

pub level_within : (text : List ℕ) (n : Lengths) (r : Reading) (fund : FundFile) → FundOk fund → r ≡ read fund → (answer_to text n r).verdict ≡ Ok tt → (level : ℕ) → level ≤ most_level →
    QuantileWithin fund (answer_to text n r) level (quantile_of level (horizon_in r) (answer_to text n r).F (answer_to text n r).verdict)
unfolding horizon_in
level_within text n r fund ok is e level l =
    let a = answer_to text n r in
    rw (ap horizon_in is) (quantile_within fund a (distance text n r fund ok is e) level (quantile_of level fund.header.horizon a.F a.verdict) (level_says text n r fund is e level l))

pub never_below : (text : List ℕ) (n : Lengths) (r : Reading) (fund : FundFile) → FundOk fund → r ≡ read fund → (answer_to text n r).verdict ≡ Ok tt → NeverBelow fund (answer_to text n r)
never_below text n r fund ok is e =
    let c = answer_accepted text n r fund is e in
    let a = accepts fund n (fund_cells fund.header (lives fund)) c.verdict_is in
    subst (λ (x : Answer). NeverBelow fund x) (sym c.answer_is) (covers_exact fund n ok a)

pub average : (text : List ℕ) (n : Lengths) (r : Reading) (fund : FundFile) → r ≡ read fund → (answer_to text n r).verdict ≡ Ok tt → AverageExcess fund
unfolding exact_premium_of file_denominator fund_mean unit
average text n r fund is e z =
    let c = answer_accepted text n r fund is e in
    let a = accepts fund n (fund_cells fund.header (lives fund)) c.verdict_is in
    average_excess fund.header.horizon fund.header.order fund.header.frequency (lives fund) a.limited_lives (all_folded fund) z fund.header.deductible a.deductible
