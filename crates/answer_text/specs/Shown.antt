-- What `listing` writes: the listing of the figures that it is given, where they are in range and there is room for it.
use Rattle.std.specs.Prelude.{Bool, ◌&&◌, List, [], ℕ, suc, ◌+◌, ◌*◌, leb, ltb, ℤ, length, take, if◌then◌else◌}
use Rattle.std.specs.List.{list_all}
use Rattle.fund.specs.declared.Figures.{Figures}
use Rattle.fund.specs.Verdict.{Verdict}
use Rattle.fund.specs.Limits.{most_horizon, most_truncation, most_bound}
use Rattle.fund.specs.Answer.{Answer, empty}
use Rattle.fund.specs.Listing.{printed}

-- The most bytes of a cell line, and of the other lines of a listing together.
abbrev pub most_cell_line : ℕ
most_cell_line = 73

abbrev pub most_other_lines : ℕ
most_other_lines = 142

-- Room for every listing.
abbrev pub room : ℕ
room = most_cell_line * suc most_horizon + most_other_lines

-- What is printed of an answer.
abbrev pub shown_answer : Verdict → Figures → List ℤ → List ℕ → List ℤ → Answer
shown_answer verdict figures f R F = record { verdict = verdict; part = empty; figures = figures; D = []; H = []; f = f; R = R; F = F }

-- No R(x) is above its limit.
abbrev pub bounded : List ℕ → Bool
bounded R = list_all (λ bound. leb bound most_bound) R

-- The figures of the cells 0 to X are there and in range, and a text of that size has room for every listing.
unfoldable pub printable : ℕ → ℕ → ℕ → List ℕ → ℕ → ℕ → Bool
printable E X cells R sums size =
    leb X most_horizon && (ltb X cells && (ltb X (length R) && (ltb X sums && (leb E most_truncation && (leb room size && bounded (take (suc X) R))))))

unfoldable pub listing_of : Answer → ℕ → ℕ → List ℕ
listing_of a X size = if printable a.figures.truncation X (length a.f) a.R (length a.F) size then printed a X a.verdict else []
