-- What reading a file gives: the answer is that of the definition `reading`, for every file.
use Rattle.std.specs.Prelude.{◌≡◌, List, ⊤, Result, Ok, Err}
use Rattle.fund.specs.declared.Fund.{Fund}
use Rattle.fund.specs.declared.Rate.{Rate}
use Rattle.fund.specs.declared.Member.{Member}
use Rattle.fund.specs.declared.Refused.{Refused}
use Rattle.fund.specs.Reading.{Reading, read, stopped}
use Rattle.rows.specs.declared.FileRead.{FileRead}

-- A header with rows.
abbrev pub with_rows : Fund → List Rate → List Member → FileRead
with_rows fund rs ms = record { fund = fund; rates = record { items = rs }; members = record { items = ms } }

-- A fund's header and rows, or the refusal and its line.
unfoldable pub file_read : Reading → Result FileRead Refused
file_read (read f) = Ok (with_rows f.header f.rates f.members)
file_read (stopped why place) = Err (record { why = why; place = place })

-- Rows that were added, behind a header, or their refusal.
abbrev pub read_as : Fund → List Rate → List Member → Result ⊤ Refused → Result FileRead Refused
read_as fund rs ms (Ok tt) = Ok (with_rows fund rs ms)
read_as fund rs ms (Err stop) = Err stop

-- The parts of what was read.
pub record RowsOf (found : FileRead) (fund : Fund) (rates : List Rate) (members : List Member) : Type 0 where
  pub fund_is : fund ≡ found.fund
  pub rates_are : rates ≡ found.rates.items
  pub members_are : members ≡ found.members.items
