-- The definitions give every row of the tables of sheets: from a header text and rows to the text that is printed and the part that is handed back
-- (every_sheet), and from the bytes of a row to the row (every_row_of_bytes). By computing both sides.
use mathlib.Core.Path.{◌≡◌, refl}
use mathlib.Core.List.{map}
use lib.Ieee.{of_bits, of_int, eq}
use Rattle.rounding.specs.Rounding.{near, nearest, up}
use Rattle.fund.specs.Base.{bytes, total, sum, sumℤ, table, alternate}
use Rattle.fund.specs.Lines.{begun, lines_from, lines}
use Rattle.fund.specs.Spelling.{digits, is_number, value_from, value, in_first, fields, all_numbers, numbers, behind, spelled}
use Rattle.fund.specs.Reading.{between, in_ranges, header_lines, header_of, rising, rate_in_range, lives_in_all, member_in_range, read_header}
use Rattle.fund.specs.Folding.{held_until, rate_in_force, folded, life, point, points, copies, lives}
use Rattle.fund.specs.Transform.{unit, next_row, row, placed, term_of, row_terms, single_terms, death_weight, disability_weight, replaced_term, replaced_terms, terms, sum_d, sum_h, D, H, lambda, load, w, truncation, mean}
use Rattle.fund.specs.Recursion.{t, alternating, multiplied, start, c, start_bound, entries, sum_r, sum_f, next_cell, cells}
use Rattle.fund.specs.Premium.{sum_below, bound_below, premium, within}
use Rattle.fund.specs.Tariff.{loading, with_bound, gross}
use Rattle.fund.specs.Refusals.{first, unmatched, half, half_line, wide, any_short, short, refuse, at0, first_member, valued, matched, verdict}
use Rattle.fund.specs.Quantile.{running_sum}
use Rattle.fund.specs.Distribution.{distribution_bound}
use Rattle.fund.specs.Answer.{fund_terms, fund_start, fund_cells, fund_truncation, fund_mean, fund_premium, fund_within, fund_figures, line_at, part, refused, lent, accepted, answer_of, answer_to}
use Rattle.fund.specs.Listing.{digits_within, decimal, signed_decimal, joined, cell_line, cell_lines, listed, refused_line, printed, horizon_in, enough, listing_to}
use Rattle.fund.specs.SheetCells.{least_first, cell_of, or_else, seek, whole_of, at_least, whole_in, amount_of, member_joined, member_row_of}
use Rattle.fund.specs.Sheets.{read_sheet_rows, read_sheets, rows_reading, member_row_in}
use Rattle.fund.specs.Starred.{text}
use Rattle.tables.specs.SheetFunds.{SheetFund, RowBytes, header_text, sheet_funds, member_bytes}

-- What the definitions give for a table's row.
abbrev given : SheetFund → SheetFund
given s =
    record {
      header = s.header;
      rows = s.rows;
      listing = listing_to s.header (rows_reading s.header s.rows);
      part = (answer_to s.header enough (rows_reading s.header s.rows)).part;
    }

pub every_sheet : map given sheet_funds ≡ sheet_funds
unfolding near nearest up bytes total sum sumℤ table alternate begun lines_from lines digits is_number value_from value in_first fields all_numbers numbers behind spelled between in_ranges header_lines header_of rising rate_in_range lives_in_all member_in_range read_header held_until rate_in_force folded life point points copies lives unit next_row row placed term_of row_terms single_terms death_weight disability_weight replaced_term replaced_terms terms sum_d sum_h D H lambda load w truncation mean t alternating multiplied start c start_bound entries sum_r sum_f next_cell cells sum_below bound_below premium within loading with_bound gross first unmatched half half_line wide any_short short refuse at0 first_member valued matched verdict running_sum distribution_bound fund_terms fund_start fund_cells fund_truncation fund_mean fund_premium fund_within fund_figures line_at part refused lent accepted answer_of answer_to digits_within decimal signed_decimal joined cell_line cell_lines listed refused_line printed horizon_in listing_to text read_sheet_rows read_sheets header_text sheet_funds
every_sheet = refl

pub every_row_of_bytes : map (λ (r : RowBytes). record { bytes = r.bytes; row = member_row_in r.bytes }) member_bytes ≡ member_bytes
unfolding least_first of_bits eq of_int cell_of or_else seek whole_of at_least whole_in amount_of member_joined member_row_of member_row_in member_bytes
every_row_of_bytes = refl
