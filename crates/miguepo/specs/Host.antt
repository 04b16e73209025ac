-- What the pricing call hands to a host in C.
use Rattle.std.specs.Prelude.{◌≡◌, List, [], ◌∷◌, ℕ, ◌+◌, ◌-◌, ◌≤◌, ℤ, length, Option, Result}
use Rattle.fund.specs.Limits.{most_level}
use Rattle.fund.specs.Reading.{FundFile, Reading, read}
use Rattle.fund.specs.Refusals.{Lengths, number_in, place_in}
use Rattle.fund.specs.Quantile.{quantile_of, reached_in, quantile_in}
use Rattle.fund.specs.Answer.{Answer, answer_to}
use Rattle.fund.specs.Listing.{horizon_in}
use Rattle.fund.specs.Distance.{WithinBounds, AverageExcess, NeverBelow, QuantileWithin}
use Rattle.fund.specs.declared.Cells.{Cells}
use Rattle.fund.specs.declared.Figures.{Figures}
use Rattle.fund.specs.Verdict.{Verdict}
use Rattle.pricing.specs.declared.Priced.{Priced}
use Rattle.pricing.specs.declared.NotPriced.{NotPriced}
use Rattle.pricing.specs.Priced.{verdict_in, start_in, end_in, figures_in, horizon_of, quantile_told, horizon_with}
use Rattle.miguepo.specs.Bits.{bits_of, read_signed}

-- The fields of the struct that C declares, in their order, for an answer, the horizon that was read and the answer at a level.
abbrev pub result_fields : Answer → ℕ → Option ℕ → List ℕ
result_fields a X q =
    number_in a.verdict
    ∷ place_in a.verdict
    ∷ a.part.start
    ∷ a.part.size
    ∷ horizon_with a.verdict X
    ∷ a.figures.truncation
    ∷ a.figures.mean
    ∷ bits_of a.figures.premium
    ∷ a.figures.within
    ∷ a.figures.gross
    ∷ reached_in q
    ∷ quantile_in q
    ∷ []

-- The same fields, of any verdict, part of a text, horizon, figures and answer at a level.
abbrev pub told_fields : Verdict → ℕ → ℕ → ℕ → Figures → Option ℕ → List ℕ
told_fields verdict start end X figures q =
    number_in verdict
    ∷ place_in verdict
    ∷ start
    ∷ (end - start)
    ∷ X
    ∷ figures.truncation
    ∷ figures.mean
    ∷ bits_of figures.premium
    ∷ figures.within
    ∷ figures.gross
    ∷ reached_in q
    ∷ quantile_in q
    ∷ []

-- The same, of what a call answered.
abbrev pub priced_fields : Result Priced NotPriced → List ℕ
priced_fields p = told_fields (verdict_in p) (start_in p) (end_in p) (horizon_of p) (figures_in p) (quantile_told p)

-- Everything that is handed over is the answer's, and C reads the premium from its bits; the line lies in the text; demand 3 holds
-- of a fund with number 0, its answer at a level of at most 10^12 is right but for the bounds of the sums, its gross premium is not below the exact
-- premium's loaded worth, and with lambda 0 its exact premium is the average excess.
pub record Hosts (text : List ℕ) (r : Reading) (level : ℕ) (n : Lengths) (result : List ℕ) (D : List ℤ) (H : List ℕ) (f : List ℤ) (R : List ℕ) (F : List ℤ) : Type 0 where
  pub result_is : result ≡ result_fields (answer_to text n r) (horizon_in r) (quantile_of level (horizon_in r) (answer_to text n r).F (answer_to text n r).verdict)
  pub premium : read_signed (bits_of (answer_to text n r).figures.premium) ≡ (answer_to text n r).figures.premium
  pub inside : (answer_to text n r).part.start + (answer_to text n r).part.size ≤ length text
  pub D_is : D ≡ (answer_to text n r).D
  pub H_is : H ≡ (answer_to text n r).H
  pub f_is : f ≡ (answer_to text n r).f
  pub R_is : R ≡ (answer_to text n r).R
  pub F_is : F ≡ (answer_to text n r).F
  pub distance : (fund : FundFile) → r ≡ read fund → number_in (answer_to text n r).verdict ≡ 0 → WithinBounds fund (answer_to text n r)
  pub level_within : (fund : FundFile) → r ≡ read fund → number_in (answer_to text n r).verdict ≡ 0 → level ≤ most_level →
      QuantileWithin fund (answer_to text n r) level (quantile_of level (horizon_in r) (answer_to text n r).F (answer_to text n r).verdict)
  pub never_below : (fund : FundFile) → r ≡ read fund → number_in (answer_to text n r).verdict ≡ 0 → NeverBelow fund (answer_to text n r)
  pub average : (fund : FundFile) → r ≡ read fund → number_in (answer_to text n r).verdict ≡ 0 → AverageExcess fund

abbrev pub HostsCells : List ℕ → Reading → ℕ → Lengths → List ℕ → Cells → Type 0
HostsCells text r level n result c = Hosts text r level n result c.transform.now c.h.now c.f.now c.r.now c.sums.now
