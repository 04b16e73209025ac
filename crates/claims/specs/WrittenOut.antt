-- METHOD 3 (§8): what a call that prices a file leaves, compared with the file whose member lines are written out as copies with lives 1.
use Rattle.std.specs.Prelude.{◌≡◌, ◌||◌, List, ℕ, eqb, if◌then◌else◌}
use Rattle.fund.specs.Reading.{FundFile, read, reading}
use Rattle.fund.specs.Refusals.{Lengths, number_in, place_in}
use Rattle.fund.specs.Quantile.{quantile_of}
use Rattle.fund.specs.Answer.{answer}
use Rattle.fund.specs.Listing.{horizon_in}
use Rattle.equivalence.specs.WrittenOut.{out_place}
use Rattle.equivalence.specs.WrittenFile.{out_text}
use Rattle.pricing.specs.Priced.{horizon_with}
use Rattle.claims.specs.Demands.{Received, Method}

-- Number, horizon, figures, every lent cell and the answer at the level are those of the file written out; and so is the place, but that 5 and 6
-- stand there at the line of the first copy.
pub record SameWrittenOut (fund : FundFile) (out : List ℕ) (level : ℕ) (n : Lengths) (o : Received) : Type 0 where
  pub number : o.number ≡ number_in (answer out n).verdict
  pub place : place_in (answer out n).verdict ≡ (if eqb o.number 5 || eqb o.number 6 then out_place fund o.place else o.place)
  pub horizon : o.horizon ≡ horizon_with (answer out n).verdict (horizon_in (reading out))
  pub method : Method out (reading out) n o
  pub quantile : o.quantile ≡ quantile_of level o.horizon (answer out n).F (answer out n).verdict

-- Of every file that is read.
abbrev pub PricedWrittenOut : List ℕ → ℕ → Lengths → Received → Type 0
PricedWrittenOut file level n o = (fund : FundFile) → reading file ≡ read fund → SameWrittenOut fund (out_text file fund) level n o
