-- What `listing` and `print` write, where the text has room for every listing of a comparison; and what is said of the exact move.
use Rattle.std.specs.Prelude.{◌≡◌, List, [], ◌++◌, ℕ, leb, length, Option, None, Some, Result, Ok, Err, if◌then◌else◌}
use Rattle.fund.specs.Base.{bytes}
use Rattle.fund.specs.Reading.{FundFile, read, reading}
use Rattle.fund.specs.Answer.{answer}
use Rattle.fund.specs.Listing.{refused_line, enough}
use Rattle.writing.specs.Writing.{Written}
use Rattle.pricing.specs.declared.Priced.{Priced}
use Rattle.pricing.specs.declared.NotPriced.{NotPriced}
use Rattle.comparison.specs.declared.Compared.{Compared}
use Rattle.comparison.specs.declared.Comparison.{Comparison}
use Rattle.comparison.specs.Comparison.{compared}
use Rattle.comparison.specs.Exact.{ExactMove, RatesAlone}
use Rattle.comparison_printing.specs.Lines.{figure_lines, move_lines, comparison_lines}

abbrev pub comparison_room : ℕ
comparison_room = 512

-- The lines of a fund as the call that prices answers.
unfoldable pub priced_lines : List ℕ → Result Priced NotPriced → List ℕ
priced_lines name (Ok priced) = figure_lines name priced.figures
priced_lines name (Err stop) = name ++ refused_line stop.refused.why stop.refused.place

unfoldable pub listing_of : Compared → ℕ → List ℕ
listing_of c size = if leb comparison_room size then priced_lines (bytes "old-") c.old ++ (priced_lines (bytes "new-") c.new ++ move_lines c.comparison) else []

-- The comparison of two files, priced into slices that are long enough for every horizon.
unfoldable pub comparison_of : List ℕ → List ℕ → Option Comparison
comparison_of old new = compared (reading old) (answer old enough) (reading new) (answer new enough)

unfoldable pub comparison_listing : List ℕ → List ℕ → List ℕ
comparison_listing old new = comparison_lines (answer old enough).verdict (answer old enough).figures (answer new enough).verdict (answer new enough).figures (comparison_of old new)

unfoldable pub shown_comparison : List ℕ → List ℕ → ℕ → List ℕ
shown_comparison old new size = if leb comparison_room size then comparison_listing old new else []

-- What `print` leaves: the listing. Of a move that it shows, the exact move is where the listing says; and where no header line but the editions' and no
-- member line differs, it is that of the rates.
pub record PrintsComparison (old new before after : List ℕ) (size : ℕ) : Type 0 where
  pub written : Written (shown_comparison old new (length before)) before after size
  pub exact : (f g : FundFile) → reading old ≡ read f → reading new ≡ read g → (t : Comparison) → comparison_of old new ≡ Some t → ExactMove f g t.moved
  pub rates : (f g : FundFile) → reading old ≡ read f → reading new ≡ read g → (t : Comparison) → comparison_of old new ≡ Some t →
      t.differences.header ≡ None → t.differences.member ≡ None → RatesAlone f g t.moved
