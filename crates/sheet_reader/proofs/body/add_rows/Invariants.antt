-- `sheet_reader::body::add_rows`: the reading is that of the rows that are left, behind the rows so far.
use Rattle.std.proofs.Common.{◌≡◌, []}
use Rattle.std.specs.Slice.Iter.{chunks_rest, chunks_size}
use Rattle.fund.specs.declared.Fund.{Fund}
use Rattle.fund.specs.SheetCells.{rate_width, member_width}
use Rattle.fund.specs.Sheets.{sheet_rows}
use Rattle.sheet_reader.specs.Rows.{rows_from}
use Rattle.sheet_reader.proofs.Steps.{rates_left, members_left}
use Rattle.sheet_reader.proofs.body.add_rows.Given as goal

abbrev pub invariant-loop-rate : goal.invariant-loop-rate
invariant-loop-rate l =
    (chunks_size l.rate-iterator ≡ rate_width) × ((fund : Fund) → rows_from fund [] [] (sheet_rows l.rates l.members) ≡ rows_from fund l.rows.rates.items l.rows.members.items (rates_left (chunks_rest l.rate-iterator) l.members))

abbrev pub invariant-loop-member : goal.invariant-loop-member
invariant-loop-member l =
    (chunks_size l.member-iterator ≡ member_width) × ((fund : Fund) → rows_from fund [] [] (sheet_rows l.rates l.members) ≡ rows_from fund l.rows.rates.items l.rows.members.items (members_left (chunks_rest l.member-iterator)))
