-- The definitions give every row of the tables of answers, from the file's bytes to the part that is handed back and every cell (every_answer); of lengths (every_short) and of
-- starts (every_start). Place 0 has no line (no_line_0). By computing both sides.
use mathlib.Core.Path.{◌≡◌, refl}
use mathlib.Core.List.{List, [], map}
use Prim.Native.Nat.{ℕ}
use Rattle.rounding.specs.Rounding.{near, nearest, up}
use Rattle.fund.specs.Base.{bytes, total, sum, sumℤ, table, alternate}
use Rattle.fund.specs.Lines.{begun, lines_from, lines}
use Rattle.fund.specs.Spelling.{digits, is_number, value_from, value, in_first, fields, all_numbers, numbers, behind, spelled}
use Rattle.fund.specs.Reading.{between, in_ranges, header_lines, header_of, row_of, rising, rate_in_range, lives_in_all, member_in_range, no_member, at_end, read_rows, read_header, reading}
use Rattle.fund.specs.Folding.{held_until, rate_in_force, folded, life, point, points, copies, lives}
use Rattle.fund.specs.Transform.{unit, next_row, row, placed, term_of, row_terms, single_terms, death_weight, disability_weight, replaced_term, replaced_terms, terms, sum_d, sum_h, D, H, lambda, load, w, truncation, mean}
use Rattle.fund.specs.Recursion.{t, alternating, multiplied, start, c, start_bound, entries, sum_r, sum_f, next_cell, cells}
use Rattle.fund.specs.Premium.{sum_below, bound_below, premium, within}
use Rattle.fund.specs.Tariff.{loading, with_bound, gross}
use Rattle.fund.specs.Refusals.{number_in, first, unmatched, half, half_line, wide, any_short, short, refuse, at0, first_member, valued, matched, verdict}
use Rattle.fund.specs.Quantile.{running_sum}
use Rattle.fund.specs.Distribution.{distribution_bound}
use Rattle.fund.specs.Answer.{empty, fund_terms, fund_start, fund_cells, fund_truncation, fund_mean, fund_premium, fund_within, fund_figures, line_at, part, refused, lent, accepted, answer_of, answer_to}
use Rattle.fund.specs.Listing.{digits_within, decimal, signed_decimal, joined, cell_line, cell_lines, listed, refused_line, printed, horizon_in, listing_to}
use Rattle.fund.specs.Starred.{text, file, one_member}
use Rattle.fund.specs.Answers.{AnswerRow, answers, ShortRow, shorts, StartRow, starts}

pub every_answer : map (λ (r : AnswerRow). record { file = r.file; lengths = r.lengths; answer = answer_to r.file r.lengths (reading r.file) }) answers ≡ answers
unfolding near nearest up bytes total sum sumℤ table alternate begun lines_from lines digits is_number value_from value in_first fields all_numbers numbers behind spelled between in_ranges header_lines header_of row_of rising rate_in_range lives_in_all member_in_range no_member at_end read_rows read_header reading held_until rate_in_force folded life point points copies lives unit next_row row placed term_of row_terms single_terms death_weight disability_weight replaced_term replaced_terms terms sum_d sum_h D H lambda load w truncation mean t alternating multiplied start c start_bound entries sum_r sum_f next_cell cells sum_below bound_below premium within loading with_bound gross first unmatched half half_line wide any_short short refuse at0 first_member valued matched verdict running_sum distribution_bound fund_terms fund_start fund_cells fund_truncation fund_mean fund_premium fund_within fund_figures line_at part refused lent accepted answer_of answer_to digits_within decimal signed_decimal joined cell_line cell_lines listed refused_line printed horizon_in listing_to text file answers
every_answer = refl

pub every_short : map (λ (r : ShortRow). record { lengths = r.lengths; number = number_in (answer_to [] r.lengths (reading (file "horizon=2" "order=3" "deductible=2" one_member))).verdict }) shorts ≡ shorts
unfolding near nearest up bytes total sum sumℤ table alternate begun lines_from lines digits is_number value_from value in_first fields all_numbers numbers behind spelled between in_ranges header_lines header_of row_of rising rate_in_range lives_in_all member_in_range no_member at_end read_rows read_header reading held_until rate_in_force folded life point points copies lives unit next_row row placed term_of row_terms single_terms death_weight disability_weight replaced_term replaced_terms terms sum_d sum_h D H lambda load w truncation mean t alternating multiplied start c start_bound entries sum_r sum_f next_cell cells sum_below bound_below premium within loading with_bound gross first unmatched half half_line wide any_short short refuse at0 first_member valued matched verdict running_sum distribution_bound fund_terms fund_start fund_cells fund_truncation fund_mean fund_premium fund_within fund_figures line_at part refused lent accepted answer_of answer_to digits_within decimal signed_decimal joined cell_line cell_lines listed refused_line printed horizon_in listing_to text file shorts
every_short = refl

pub every_start : map (λ (r : StartRow). record { lambda = r.lambda; start = start r.lambda []; bound = start_bound r.lambda [] }) starts ≡ starts
unfolding near up total sum sumℤ alternate unit t alternating multiplied start c start_bound starts
every_start = refl

pub no_line_0 : (file : List ℕ) → line_at file 0 ≡ empty
unfolding line_at
no_line_0 file = refl
