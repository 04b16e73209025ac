-- The line of an answer at a level, which `level_line` writes where there is room for it.
use Rattle.std.specs.Prelude.{List, [], ◌++◌, ℕ, leb, if◌then◌else◌, Option, None, Some, Ok, Err}
use Rattle.fund.specs.Verdict.{Verdict}
use Rattle.fund.specs.Base.{bytes}
use Rattle.fund.specs.Listing.{decimal, joined, refused_line}

-- The place where the sums first reach the level, or `none`.
unfoldable pub place_text : Option ℕ → List ℕ
place_text (Some x) = decimal x
place_text None = bytes "none"

unfoldable pub quantile_line : Option ℕ → List ℕ
quantile_line quantile = bytes "quantile=" ++ joined (place_text quantile) []

-- The line of a fund that is accepted, and of a refusal METHOD 8's.
unfoldable pub answer_line : Verdict → Option ℕ → List ℕ
answer_line (Ok tt) quantile = quantile_line quantile
answer_line (Err stop) quantile = refused_line stop.why stop.place

-- Room for every such line.
abbrev pub level_room : ℕ
level_room = 64

unfoldable pub level_line_of : Verdict → Option ℕ → ℕ → List ℕ
level_line_of verdict quantile size = if leb level_room size then answer_line verdict quantile else []
