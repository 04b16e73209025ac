-- What the matching of members with rates answers.
use Rattle.std.specs.Prelude.{◌&&◌, List, leb, length, if◌then◌else◌, Result, Ok, Err}
use Rattle.arrayvec.specs.ArrayVec.{ArrayVec}
use Rattle.fund.specs.declared.ModelPoint.{ModelPoint}
use Rattle.fund.specs.declared.Refusal.TheVariants.{Range}
use Rattle.fund.specs.declared.Refused.{Refused}
use Rattle.fund.specs.Limits.{most_rates, most_members}
use Rattle.fund.specs.Reading.{FundFile}
use Rattle.fund.specs.Folding.{points}
use Rattle.fund.specs.Verdict.{Verdict}
use Rattle.fund.specs.Refusals.{matched}
use Rattle.rows.specs.declared.Rows.{Rows}

-- The model points of a file that is accepted, or its refusal.
unfoldable pub with_points : List ModelPoint → Verdict → Result (ArrayVec ModelPoint) Refused
with_points ps (Ok u) = Ok (record { items = ps })
with_points ps (Err stop) = Err stop

-- Refusals 3 to 6 of a file, and its model points.
unfoldable pub matching : FundFile → Result (ArrayVec ModelPoint) Refused
matching file = with_points (points file) (matched file (Ok tt))

-- The fund file of rows.
abbrev pub file_of : Rows → FundFile
file_of r = record { header = r.fund; rates = r.rates.now; members = r.members.now }

-- More rows than a file has break their limit, at no line.
unfoldable pub matched_rows : Rows → Result (ArrayVec ModelPoint) Refused
matched_rows r =
    if leb (length r.rates.now) most_rates && leb (length r.members.now) most_members
    then matching (file_of r)
    else Err (record { why = Range; place = 0 })
