-- The definitions give every row of the table of levels, from the file's bytes to the running sums and the answer at the level. By
-- computing both sides.
use mathlib.Core.Path.{◌≡◌, refl}
use mathlib.Core.List.{map}
use Prim.Native.Nat.{suc}
use lib.ListN.{take}
use Rattle.rounding.specs.Rounding.{near, nearest, up}
use Rattle.fund.specs.Base.{bytes, total, sum, sumℤ, table, alternate}
use Rattle.fund.specs.Lines.{begun, lines_from, lines}
use Rattle.fund.specs.Spelling.{digits, is_number, value_from, value, in_first, fields, all_numbers, numbers, behind, spelled}
use Rattle.fund.specs.Reading.{between, in_ranges, header_lines, header_of, row_of, rising, rate_in_range, lives_in_all, member_in_range, no_member, at_end, read_rows, read_header, reading}
use Rattle.fund.specs.Folding.{held_until, rate_in_force, folded, life, point, points, copies, lives}
use Rattle.fund.specs.Transform.{unit, next_row, row, placed, term_of, row_terms, single_terms, death_weight, disability_weight, replaced_term, replaced_terms, terms, sum_d, sum_h, D, H, lambda, load, w, truncation, mean}
use Rattle.fund.specs.Recursion.{t, alternating, multiplied, start, c, start_bound, entries, sum_r, sum_f, next_cell, cells}
use Rattle.fund.specs.Premium.{sum_below, bound_below, premium, within}
use Rattle.fund.specs.Tariff.{loading, with_bound, gross}
use Rattle.fund.specs.Refusals.{first, unmatched, half, half_line, wide, any_short, short, refuse, at0, first_member, valued, matched, verdict}
use Rattle.fund.specs.Quantile.{running_sum, reaches, quantile, quantile_of}
use Rattle.fund.specs.Answer.{fund_terms, fund_start, fund_cells, fund_truncation, fund_mean, fund_premium, fund_within, fund_figures, line_at, part, refused, lent, accepted, answer_of, answer_to, answer}
use Rattle.fund.specs.Listing.{horizon_in, enough}
use Rattle.fund.specs.Starred.{text, file, eight}
use Rattle.tables.specs.Levels.{LevelRow, levels}

-- What the definitions give for a row's file and level.
abbrev given : LevelRow → LevelRow
given r =
    let a = answer r.file enough in
    let X = horizon_in (reading r.file) in
    record { file = r.file; sums = take (suc X) a.F; level = r.level; quantile = quantile_of r.level X a.F a.verdict }

pub every_level : map given levels ≡ levels
unfolding near nearest up bytes total sum sumℤ table alternate begun lines_from lines digits is_number value_from value in_first fields all_numbers numbers behind spelled between in_ranges header_lines header_of row_of rising rate_in_range lives_in_all member_in_range no_member at_end read_rows read_header reading held_until rate_in_force folded life point points copies lives unit next_row row placed term_of row_terms single_terms death_weight disability_weight replaced_term replaced_terms terms sum_d sum_h D H lambda load w truncation mean t alternating multiplied start c start_bound entries sum_r sum_f next_cell cells sum_below bound_below premium within loading with_bound gross first unmatched half half_line wide any_short short refuse at0 first_member valued matched verdict fund_terms fund_start fund_cells fund_truncation fund_mean fund_premium fund_within fund_figures line_at part refused lent accepted answer_of answer_to horizon_in text file eight running_sum reaches quantile levels
every_level = refl
