-- What the walks over a table add up to is what the fund's definitions say.
use mathlib.Core.Path.{◌≡◌, sym, ◌∙◌, ap, ap₂}
use mathlib.Core.Bool.{true, false}
use mathlib.Core.List.{List, [], ◌∷◌}
use Rattle.std.proofs.Common.{refl, Some, None}
use Rattle.std.specs.Prelude.{⊤}
use Prim.Native.Nat.{ℕ, min, ◌+◌, ◌≤◌}
use native.Mathlib.Omega.{arith}
use lib.ListN.{length}
use Rattle.fund.specs.declared.Frequencies.{Frequencies}
use Rattle.fund.specs.declared.Fund.{Fund}
use Rattle.fund.specs.declared.Life.{Life}
use Rattle.fund.specs.declared.ModelPoint.{ModelPoint}
use Rattle.fund.specs.Base.{total}
use Rattle.fund.specs.Folding.{copies}
use Rattle.fund.specs.Limits.{most_load, most_truncation}
use Rattle.fund.specs.Transform.{lambda, load, truncation, mean}
use Rattle.fund.specs.Recursion.{multiplied, start, start_bound}
use Rattle.totals.specs.declared.product.Product.{Product}
use Rattle.totals.specs.Table.{PointIn, Points, Members, members_of_lem, most_lambda, most_singles, most_mean}
use Rattle.totals.specs.Product.{Multiplied}
use Rattle.laws.specs.Accepted.{All, all_map}
use Rattle.laws.specs.Copies.{lives_of, length_copies}
use Rattle.laws.specs.Ranges.{FrequenciesOk}
use Rattle.laws.specs.Weights.{most_weight}
use Rattle.widths.specs.Lives.{InRange}
use Rattle.widths.specs.Parts.{lambda_part, single_load}
use Rattle.widths.specs.PartBounds.{lambda_le, single_le}
use Rattle.widths.specs.Sums.{total_bound}
use Rattle.laws.specs.Tells.{tells_not}
use Rattle.totals.specs.Inside.{inside}
use Rattle.totals.proofs.InsideTells.{inside_tells}
use Rattle.totals.specs.declared.Totals.{Totals}
use Rattle.start.specs.declared.StartSum.{StartSum}
use Rattle.start.specs.Terms.{StartSums}
use Rattle.totals.specs.Totals.{start_lambda, StartedWith, LivesTotals, TotalsFor}

pub lambda_most : (ms : List Life) (a : Frequencies) → Members ms → FrequenciesOk a → lambda a ms ≤ most_lambda
unfolding lambda
lambda_most ms a n k = omega (arith, total_bound InRange (lambda_part a) most_weight (λ m r. lambda_le m a r k) ms n.in_range, n.few)

module _ (fund : Fund) (ms : List Life) (lam all figure m : ℕ) (l : StartSum) (p : Product) (r : Totals) (lam-is : lam ≡ lambda fund.frequency ms) (all-is : all ≡ lam + total single_load ms)
    (figure_is : figure ≡ min (truncation fund.order ms) (most_truncation + 1)) (m_is : m ≡ min (mean fund.frequency ms) most_mean) (sums-of : StartSums lam l) (product : Multiplied ms l.sum.size p) (made : StartedWith all figure m l p r) where
  cell_is : r.cell ≡ start (start_lambda fund ms) ms
  unfolding start
  cell_is =
      made.cell_is
      ∙ sym (product.size_is.product l.sum.negative)
      ∙ ap (λ f. multiplied f ms) sums-of.is.sum_is
      ∙ ap (λ k. start (min k most_load) ms) lam-is

  bound_is : r.bound ≡ start_bound (start_lambda fund ms) ms
  unfolding start_bound
  bound_is = made.bound_is ∙ ap₂ ◌+◌ sums-of.is.bound_is (sym product.count) ∙ ap (λ k. start_bound (min k most_load) ms) lam-is

  bound_within : r.bound ≤ 691 + length ms
  bound_within = omega (arith, made.bound_is, sums-of.bound_within, product.count_within)

  load_is : r.load ≡ load fund.frequency ms
  unfolding load
  load_is = made.load_is ∙ all-is ∙ ap (λ k. k + total single_load ms) lam-is

  pub sums_up : LivesTotals fund ms r
  sums_up = record { load_is = load_is; truncation_is = made.truncation_is ∙ figure_is; mean_is = made.mean_is ∙ m_is; cell_is = cell_is; bound_is = bound_is; bound_within = bound_within }

pub made_asks : (ms : List Life) → Members ms → (lam : ℕ) (l : StartSum) → StartSums lam l → (p : Product) → Multiplied ms l.sum.size p → (p.size ≤ 200000000000000000) × (l.bound ≤ 64000) × (p.singles ≤ 1000)
made_asks ms n lam l sums-of p product = (omega (arith, product.size_is.within, sums-of.size_within), omega (arith, sums-of.bound_within), omega (arith, product.count_within, n.few))

-- ---- what the walks of the figures say: a sum of a table in its ranges is below its cap, and some parts are the definitions'
module _ (ps : List ModelPoint) (k : Points ps) where
  pub points_in : {P : ModelPoint → Type 0} → ((p : ModelPoint) → PointIn p → P p) → All P ps
  points_in f = all_map f ps k.in_range

  pub lambda_is : (ab : Frequencies) → FrequenciesOk ab → min (total (lambda_part ab) (copies ps)) most_lambda ≡ lambda ab (copies ps)
  unfolding lambda
  lambda_is ab f = omega (arith, lambda_most (copies ps) ab (members_of_lem ps k) f)

  pub singles_is : min (total single_load (copies ps)) most_singles ≡ total single_load (copies ps)
  singles_is =
      let m = members_of_lem ps k in
      omega (arith, total_bound InRange single_load 1000000000000 single_le (copies ps) m.in_range, m.few)

pub ones : (ms : List Life) → total (λ m. 1) ms ≡ length ms
unfolding total
ones [] = refl
ones (m ∷ ms) = omega (arith, ones ms)

pub lives_are : (ps : List ModelPoint) → total (λ m. 1) (copies ps) ≡ lives_of ps
lives_are ps = ones (copies ps) ∙ length_copies ps

pub all_taken : (ps : List ModelPoint) → All (λ p. ⊤) ps
all_taken [] = tt
all_taken (p ∷ ps) = (tt, all_taken ps)

-- ---- in the ranges or not
pub totals_in : (fund : Fund) (ps : List ModelPoint) (t : Totals) → inside fund (length ps) ps ≡ true → LivesTotals fund (copies ps) t → TotalsFor fund (length ps) ps (Some t)
totals_in fund ps t e s = let h = (inside_tells fund (length ps) ps).yes e in record { few = h.0; points = h.1.1; header = h.1.0; sums = s }

pub totals_out : (fund : Fund) (ps : List ModelPoint) → inside fund (length ps) ps ≡ false → TotalsFor fund (length ps) ps None
totals_out fund ps e h = tells_not (inside_tells fund (length ps) ps) e (h.0, (h.2, h.1))
