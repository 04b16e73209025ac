-- METHOD 11: the listing of a comparison: the lines of the old fund, those of the new one, and where both are accepted those of the move.
use Rattle.std.specs.Prelude.{Bool, ◌&&◌, List, [], ◌∷◌, ◌++◌, ℕ, ℤ, Option, None, Some, Ok, Err, is_none, if◌then◌else◌}
use Rattle.fund.specs.declared.Figures.{Figures}
use Rattle.fund.specs.Verdict.{Verdict}
use Rattle.fund.specs.Base.{bytes}
use Rattle.fund.specs.Listing.{decimal, joined, refused_line}
use Rattle.writing.specs.Pointed.{pointed, signed_pointed}
use Rattle.moves.specs.declared.Move.{Move}
use Rattle.moves.specs.declared.files.Differences.{Differences}
use Rattle.moves.specs.declared.files.MemberLine.{MemberLine}
use Rattle.comparison.specs.declared.Comparison.{Comparison}

-- A key, and a number with so many digits behind its point; and an interval, by its ends.
unfoldable pub pointed_line : List ℕ → ℕ → ℕ → List ℕ
pointed_line key places n = key ++ joined (pointed places n) []

unfoldable pub signed_line : List ℕ → ℕ → ℤ → List ℕ
signed_line key places z = key ++ joined (signed_pointed places z) []

unfoldable pub interval_line : List ℕ → ℕ → ℤ → ℤ → List ℕ
interval_line key places least most = key ++ joined (signed_pointed places least) (signed_pointed places most ∷ [])

-- The lines of a fund, `old-` or `new-` before each: premium and bound in units of 10^-12 and the gross premium in centimes, all with a point; or the
-- refusal's line.
unfoldable pub figure_lines : List ℕ → Figures → List ℕ
figure_lines name a =
    (name ++ signed_line (bytes "premium=") 12 a.premium) ++ ((name ++ pointed_line (bytes "within=") 12 a.within) ++ (name ++ pointed_line (bytes "gross=") 2 a.gross))

unfoldable pub fund_lines : List ℕ → Verdict → Figures → List ℕ
fund_lines name (Ok tt) a = figure_lines name a
fund_lines name (Err stop) a = name ++ refused_line stop.why stop.place

-- Nothing differs beside the editions and the rate lines.
unfoldable pub nothing_else : Differences → Bool
nothing_else d = is_none d.header && is_none d.member

-- What else differs: the first header line, and the first member line with its line in each file.
unfoldable pub other_header : Option ℕ → List ℕ
other_header None = []
other_header (Some line) = bytes "other=header," ++ joined (decimal line) []

unfoldable pub other_member : Option MemberLine → List ℕ
other_member None = []
other_member (Some l) = bytes "other=member," ++ joined (decimal l.member) (decimal l.old_line ∷ decimal l.new_line ∷ [])

unfoldable pub other_lines : Differences → List ℕ
other_lines d = if nothing_else d then bytes "other=none\n" else other_header d.header ++ other_member d.member

-- The key of an interval says `rates` where nothing else differs: there the exact move is that of the rates.
unfoldable pub interval_lines : Bool → Move → List ℕ
interval_lines rates_alone m =
    interval_line (if rates_alone then bytes "rates=" else bytes "exact=") 12 m.least m.most
    ++ (signed_line (bytes "gross-move=") 2 m.gross
    ++ interval_line (if rates_alone then bytes "gross-rates=" else bytes "gross-exact=") 2 m.gross_least m.gross_most)

unfoldable pub move_lines : Option Comparison → List ℕ
move_lines None = []
move_lines (Some c) =
    let m = c.moved in
    let d = c.differences in
    signed_line (bytes "move=") 12 m.premium ++ (pointed_line (bytes "arithmetic=") 12 m.arithmetic ++ (interval_lines (nothing_else d) m ++ other_lines d))

unfoldable pub comparison_lines : Verdict → Figures → Verdict → Figures → Option Comparison → List ℕ
comparison_lines v a w b c = fund_lines (bytes "old-") v a ++ (fund_lines (bytes "new-") w b ++ move_lines c)
