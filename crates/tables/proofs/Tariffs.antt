-- The tariff gives every row of its table, and the definitions give every file its gross premium. By computing both sides.
use mathlib.Core.Path.{◌≡◌, refl}
use mathlib.Core.List.{map}
use Rattle.rounding.specs.Rounding.{near, nearest, up}
use Rattle.fund.specs.Base.{bytes, total, sum, sumℤ, table, alternate}
use Rattle.fund.specs.Lines.{begun, lines_from, lines}
use Rattle.fund.specs.Spelling.{digits, is_number, value_from, value, in_first, fields, all_numbers, numbers, behind, spelled}
use Rattle.fund.specs.Reading.{between, in_ranges, header_lines, header_of, row_of, rising, rate_in_range, lives_in_all, member_in_range, no_member, at_end, read_rows, read_header, reading}
use Rattle.fund.specs.Folding.{held_until, rate_in_force, folded, life, point, points, copies, lives}
use Rattle.fund.specs.Transform.{unit, next_row, row, placed, term_of, row_terms, single_terms, death_weight, disability_weight, replaced_term, replaced_terms, terms, sum_d, sum_h, D, H, lambda, load, w, truncation, mean}
use Rattle.fund.specs.Recursion.{t, alternating, multiplied, start, c, start_bound, entries, sum_r, sum_f, next_cell, cells}
use Rattle.fund.specs.Premium.{sum_below, bound_below, premium, within}
use Rattle.fund.specs.Tariff.{loading, with_bound, gross}
use Rattle.fund.specs.Refusals.{first, unmatched, half, half_line, wide, any_short, short, refuse, at0, first_member, valued, matched, verdict}
use Rattle.fund.specs.Quantile.{running_sum}
use Rattle.fund.specs.Answer.{fund_terms, fund_start, fund_cells, fund_truncation, fund_mean, fund_premium, fund_within, fund_figures, line_at, part, refused, lent, accepted, answer_of, answer_to, answer}
use Rattle.fund.specs.Listing.{enough}
use Rattle.fund.specs.Starred.{text, file}
use Rattle.tables.specs.Tariffs.{TariffRow, priced, tariffs, GrossRow, one_beyond, gross_files}

abbrev given : TariffRow → TariffRow
given r = priced r.deductible r.worth r.premium r.within (gross r.deductible r.worth r.premium r.within)

pub every_gross : map given tariffs ≡ tariffs
unfolding up loading with_bound gross tariffs
every_gross = refl

abbrev filed : GrossRow → GrossRow
filed r = record { file = r.file; gross = (answer r.file enough).figures.gross }

pub every_file : map filed gross_files ≡ gross_files
unfolding near nearest up bytes total sum sumℤ table alternate begun lines_from lines digits is_number value_from value in_first fields all_numbers numbers behind spelled between in_ranges header_lines header_of row_of rising rate_in_range lives_in_all member_in_range no_member at_end read_rows read_header reading held_until rate_in_force folded life point points copies lives unit next_row row placed term_of row_terms single_terms death_weight disability_weight replaced_term replaced_terms terms sum_d sum_h D H lambda load w truncation mean t alternating multiplied start c start_bound entries sum_r sum_f next_cell cells sum_below bound_below premium within loading with_bound gross first unmatched half half_line wide any_short short refuse at0 first_member valued matched verdict fund_terms fund_start fund_cells fund_truncation fund_mean fund_premium fund_within fund_figures line_at part refused lent accepted answer_of answer_to running_sum text file one_beyond gross_files
every_file = refl
