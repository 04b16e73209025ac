-- What a call that prices sheets leaves, compared with the file that has the same rows.
use Rattle.std.specs.Prelude.{◌≡◌, List, [], ◌++◌, ℕ}
use Rattle.fund.specs.declared.Rate.{Rate}
use Rattle.fund.specs.declared.Member.{Member}
use Rattle.fund.specs.Reading.{FundFile, read, reading}
use Rattle.fund.specs.Refusals.{Lengths, number_in, place_in}
use Rattle.fund.specs.Quantile.{quantile_of}
use Rattle.fund.specs.Answer.{answer}
use Rattle.fund.specs.Listing.{horizon_in}
use Rattle.fund.specs.Sheets.{rate_rows, member_rows, sheet_rows, sheet_reading, file_with}
use Rattle.pricing.specs.Priced.{horizon_with}
use Rattle.claims.specs.Demands.{Received, Method}

-- Number, place, horizon, figures, every lent cell and the answer at the level are those of a file.
pub record SameAs (file : List ℕ) (level : ℕ) (n : Lengths) (o : Received) : Type 0 where
  pub number : o.number ≡ number_in (answer file n).verdict
  pub place : o.place ≡ place_in (answer file n).verdict
  pub horizon : o.horizon ≡ horizon_with (answer file n).verdict (horizon_in (reading file))
  pub method : Method file (reading file) n o
  pub quantile : o.quantile ≡ quantile_of level o.horizon (answer file n).F (answer file n).verdict

-- Where the header text alone is read, with two empty sheets: no line is handed back; and where every row is taken, as the rate rows rs and the
-- member rows ms, all else is as of the file with these rows.
pub record PricedAsFile (header rates members : List ℕ) (level : ℕ) (n : Lengths) (o : Received) : Type 0 where
  pub no_line_lem : (alone : FundFile) → sheet_reading header [] [] ≡ read alone → o.line ≡ []
  pub same : (alone : FundFile) (rs : List Rate) (ms : List Member) → sheet_reading header [] [] ≡ read alone → sheet_rows rates members ≡ rate_rows rs ++ member_rows ms →
      SameAs (file_with header rs ms) level n o
