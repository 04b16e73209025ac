-- The definitions give every row of the table of sheets that are cut short (every_cut), by computing both sides. A rate of 1 is taken, the largest (rate_one), and a blank is a NaN and nothing else,
-- infinity neither (only_nan).
use Rattle.std.specs.Prelude.{None, Some}
use mathlib.Core.Path.{◌≡◌, refl}
use mathlib.Core.Bool.{Bool, true}
use mathlib.Core.List.{map}
use Prim.Native.Nat.{ℕ, suc}
use native.Mathlib.Omega.{arith}
use lib.Ieee.{Float, nan, inf, fin, binary64, of_bits, of_int, eq, div}
use Rattle.rounding.specs.Rounding.{near, nearest, up}
use Rattle.fund.specs.Base.{bytes, total, sum, sumℤ, table, alternate}
use Rattle.fund.specs.Lines.{begun, lines_from, lines}
use Rattle.fund.specs.Spelling.{digits, is_number, value_from, value, in_first, fields, all_numbers, numbers, behind, spelled}
use Rattle.fund.specs.Reading.{between, in_ranges, header_lines, header_of, row_of, rising, rate_in_range, lives_in_all, member_in_range, no_member, at_end, read_rows, read_header, reading}
use Rattle.fund.specs.Folding.{held_until, rate_in_force, folded, life, point, points, copies, lives}
use Rattle.fund.specs.Transform.{unit, next_row, row, placed, term_of, row_terms, single_terms, death_weight, disability_weight, replaced_term, replaced_terms, terms, sum_d, sum_h, D, H, lambda, load, w, truncation, mean}
use Rattle.fund.specs.Recursion.{t, alternating, multiplied, start, c, start_bound, entries, sum_r, sum_f, next_cell, cells}
use Rattle.fund.specs.Premium.{sum_below, bound_below, premium, within}
use Rattle.fund.specs.Tariff.{loading, with_bound, gross}
use Rattle.fund.specs.Refusals.{first, unmatched, half, half_line, wide, any_short, short, refuse, at0, first_member, valued, matched, verdict}
use Rattle.fund.specs.Quantile.{running_sum}
use Rattle.fund.specs.Distribution.{distribution_bound}
use Rattle.fund.specs.Answer.{fund_terms, fund_start, fund_cells, fund_truncation, fund_mean, fund_premium, fund_within, fund_figures, line_at, part, refused, lent, accepted, answer_of, answer_to}
use Rattle.fund.specs.Listing.{digits_within, decimal, signed_decimal, joined, cell_line, cell_lines, listed, refused_line, printed, horizon_in, listing_to}
use Rattle.fund.specs.Limits.{most_rate}
use Rattle.fund.specs.SheetCells.{least_first, cell_of, quotient, or_else, seek, whole_of, rate_of, at_least, whole_in, amount_of, member_joined, rate_row_of, member_row_of}
use Rattle.fund.specs.Sheets.{rate_row_in, member_row_in, row_count, row_at, rows_of, sheet_rows, read_sheet_rows, read_sheets, sheet_reading, sheet_listing}
use Rattle.fund.specs.Starred.{text, file}
use Rattle.tables.specs.SheetFunds.{header_text, first_header, one}
use Rattle.tables.specs.CutSheets.{SheetBytes, cut_sheets}

pub every_cut : map (λ (r : SheetBytes). record { rates = r.rates; members = r.members; listing = sheet_listing first_header r.rates r.members }) cut_sheets ≡ cut_sheets
unfolding near nearest up bytes total sum sumℤ table alternate begun lines_from lines digits is_number value_from value in_first fields all_numbers numbers behind spelled between in_ranges header_lines header_of row_of rising rate_in_range lives_in_all member_in_range no_member at_end read_rows read_header reading held_until rate_in_force folded life point points copies lives unit next_row row placed term_of row_terms single_terms death_weight disability_weight replaced_term replaced_terms terms sum_d sum_h D H lambda load w truncation mean t alternating multiplied start c start_bound entries sum_r sum_f next_cell cells sum_below bound_below premium within loading with_bound gross first unmatched half half_line wide any_short short refuse at0 first_member valued matched verdict running_sum distribution_bound fund_terms fund_start fund_cells fund_truncation fund_mean fund_premium fund_within fund_figures line_at part refused lent accepted answer_of answer_to digits_within decimal signed_decimal joined cell_line cell_lines listed refused_line printed horizon_in listing_to text file least_first of_bits eq of_int cell_of or_else seek whole_of at_least whole_in amount_of member_joined rate_row_of member_row_of rate_row_in member_row_in row_count row_at rows_of sheet_rows read_sheet_rows read_sheets sheet_reading header_text cut_sheets
every_cut = refl

-- the largest number that is asked comes first
seek_first : (p : ℕ → Bool) (n : ℕ) → p n ≡ true → seek p (suc n) ≡ Some n
unfolding seek or_else
seek_first p n e = rw e

pub rate_one : rate_of (of_bits binary64 (least_first one)) ≡ Some most_rate
unfolding rate_of quotient least_first eq of_bits div of_int
rate_one = seek_first (λ (k : ℕ). eq (of_bits binary64 (least_first one)) (quotient k 1000000)) most_rate refl

pub only_nan : (x : Float) → cell_of x ≡ None → x ≡ nan
unfolding cell_of
only_nan nan e = refl
only_nan (inf s) e = let z : ◌≡◌ {A = ℕ} 0 1 = cc e in absurd (omega arith)
only_nan (fin s m k) e = let z : ◌≡◌ {A = ℕ} 0 1 = cc e in absurd (omega arith)
