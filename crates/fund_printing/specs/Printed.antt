-- What is printed of a fund: what is asked of it, its listing or the line of its answer at a level.
use Rattle.std.specs.Prelude.{List, [], ℕ, leb, Result, if◌then◌else◌}
use Rattle.fund.specs.declared.Cells.{Cells}
use Rattle.fund.specs.Reading.{Reading, reading}
use Rattle.fund.specs.Quantile.{quantile_of}
use Rattle.fund.specs.Answer.{Answer, answer_to}
use Rattle.fund.specs.Listing.{horizon_in, enough, listing_to}
use Rattle.answer_text.specs.Shown.{room, shown_answer, listing_of}
use Rattle.answer_text.specs.Level.{answer_line, level_room, level_line_of}
use Rattle.pricing.specs.declared.Priced.{Priced}
use Rattle.pricing.specs.declared.NotPriced.{NotPriced}
use Rattle.pricing.specs.Priced.{verdict_in, figures_in, horizon_of, quantile_told}
use Rattle.fund_printing.specs.declared.Asked.{Asked}
use Rattle.fund_printing.specs.declared.Asked.TheVariants.{Listing, AtLevel}

-- The level that is priced at: no listing shows an answer at a level.
abbrev pub level_in : Asked → ℕ
level_in Listing = 0
level_in (AtLevel level) = level

-- What is asked of a call's answer and the slices that it left, for a text of that size.
abbrev pub text_of : Asked → Result Priced NotPriced → Cells → ℕ → List ℕ
text_of Listing p c size = listing_of (shown_answer (verdict_in p) (figures_in p) c.f.now c.r.now c.sums.now) (horizon_of p) size
text_of (AtLevel level) p c size = level_line_of (verdict_in p) (quantile_told p) size

-- The line of an answer at a level, for horizon X.
abbrev pub line_at_level : ℕ → ℕ → Answer → List ℕ
line_at_level level X a = answer_line a.verdict (quantile_of level X a.F a.verdict)

-- The line of the answer at a level, of what was read of a text.
unfoldable pub level_line_to : List ℕ → Reading → ℕ → List ℕ
level_line_to text r level = line_at_level level (horizon_in r) (answer_to text enough r)

abbrev pub level_line : List ℕ → ℕ → List ℕ
level_line file level = level_line_to file (reading file) level

-- What is shown of what was read of a text: the listing, or the line of the answer at a level, where a text of that size has room for every one.
abbrev pub shown_to : Asked → List ℕ → Reading → ℕ → List ℕ
shown_to Listing text r size = if leb room size then listing_to text r else []
shown_to (AtLevel level) text r size = if leb level_room size then level_line_to text r level else []

abbrev pub shown : Asked → List ℕ → ℕ → List ℕ
shown asked file size = shown_to asked file (reading file) size
