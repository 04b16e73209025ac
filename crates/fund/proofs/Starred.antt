-- The definitions give every row of the tables of funds, from the file's bytes to the text that is printed.
-- By computing both sides.
use mathlib.Core.Path.{◌≡◌, refl}
use mathlib.Core.List.{List, [], ◌++◌, map}
use Prim.Native.Nat.{ℕ}
use lib.ListN.{length, take}
use Rattle.rounding.specs.Rounding.{near, nearest, up}
use Rattle.fund.specs.Base.{bytes, total, sum, sumℤ, table, alternate}
use Rattle.fund.specs.Lines.{begun, lines_from, lines}
use Rattle.fund.specs.Spelling.{digits, is_number, value_from, value, in_first, fields, all_numbers, numbers, behind, spelled}
use Rattle.fund.specs.Reading.{Reading, read, stopped, between, in_ranges, header_lines, header_of, row_of, rising, rate_in_range, lives_in_all, member_in_range, no_member, at_end, read_rows, read_header, reading}
use Rattle.fund.specs.Folding.{held_until, rate_in_force, folded, life, point, points, copies, lives}
use Rattle.fund.specs.Transform.{unit, next_row, row, placed, term_of, row_terms, single_terms, death_weight, disability_weight, replaced_term, replaced_terms, terms, sum_d, sum_h, D, H, lambda, load, w, truncation, mean}
use Rattle.fund.specs.Recursion.{Cell, t, alternating, multiplied, start, c, start_bound, entries, sum_r, sum_f, next_cell, cells}
use Rattle.fund.specs.Premium.{sum_below, bound_below, premium, within}
use Rattle.fund.specs.Tariff.{loading, with_bound, gross}
use Rattle.fund.specs.Refusals.{first, unmatched, half, half_line, wide, any_short, short, refuse, at0, first_member, valued, matched, verdict}
use Rattle.fund.specs.Quantile.{running_sum}
use Rattle.fund.specs.Distribution.{distribution_bound}
use Rattle.fund.specs.Answer.{fund_terms, fund_start, fund_cells, fund_truncation, fund_mean, fund_premium, fund_within, fund_figures, line_at, part, refused, lent, accepted, answer_of, answer_to}
use Rattle.fund.specs.Listing.{digits_within, decimal, signed_decimal, joined, cell_line, cell_lines, listed, refused_line, printed, horizon_in, listing_to, listing}
use Rattle.fund.specs.Starred.{StarredRow, text, file, eight, eight_listed, eight_wide, eight_and_one, at_order, starred, wrong_turns, in_force, some_ages, with_lines, worths, replaced_at, refused_at, frequencies}
use Rattle.fund.specs.WideLimit.{nearly_wide, wide_limit}
use Rattle.fund.specs.Distributions.{listed_at, distributions}
use Rattle.fund.specs.SeveralLives.{lives_listed, three_listed, in_order, behind_rate, several_lives}

-- The bounds of the cells, R(0) to R(X), of a file that can be read.
abbrev bounds_of : Reading → List ℕ
bounds_of (read fund) = map (λ (y : Cell). y.R) (fund_cells fund.header (lives fund))
bounds_of (stopped why place) = []

-- What the method's steps give for a row's file, with as many bounds as the row states.
abbrev given : StarredRow → StarredRow
given r = record { file = r.file; listing = listing r.file; bounds = take (length r.bounds) (bounds_of (reading r.file)) }

-- All tables of funds: the first delivery's, and those of the wrong turns and of the requests.
abbrev rows : List StarredRow
rows = starred ++ (wrong_turns ++ (wide_limit ++ (some_ages ++ (worths ++ (frequencies ++ (distributions ++ several_lives))))))

pub every_row : map given rows ≡ rows
unfolding near nearest up bytes total sum sumℤ table alternate begun lines_from lines digits is_number value_from value in_first fields all_numbers numbers behind spelled between in_ranges header_lines header_of row_of rising rate_in_range lives_in_all member_in_range no_member at_end read_rows read_header reading held_until rate_in_force folded life point points copies lives unit next_row row placed term_of row_terms single_terms death_weight disability_weight replaced_term replaced_terms terms sum_d sum_h D H lambda load w truncation mean t alternating multiplied start c start_bound entries sum_r sum_f next_cell cells sum_below bound_below premium within loading with_bound gross first unmatched half half_line wide any_short short refuse at0 first_member valued matched verdict running_sum distribution_bound fund_terms fund_start fund_cells fund_truncation fund_mean fund_premium fund_within fund_figures line_at part refused lent accepted answer_of answer_to digits_within decimal signed_decimal joined cell_line cell_lines listed refused_line printed horizon_in listing_to text file eight eight_listed eight_wide eight_and_one at_order starred wrong_turns nearly_wide wide_limit in_force some_ages with_lines worths replaced_at refused_at frequencies listed_at distributions lives_listed three_listed in_order behind_rate several_lives
every_row = refl
