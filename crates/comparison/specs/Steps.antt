-- What the steps of a comparison say of rows that were read and of their pricing.
use Rattle.std.specs.Prelude.{Option, Some, None, Result, option_map}
use Rattle.std.specs.Result.{result_ok}
use Rattle.fund.specs.declared.Refused.{Refused}
use Rattle.rows.specs.declared.Rows.{Rows}
use Rattle.moves.specs.declared.Move.{Move}
use Rattle.moves.specs.Differences.{differences, file_in}
use Rattle.moves.specs.Move.{moved_of}
use Rattle.pricing.specs.declared.Priced.{Priced}
use Rattle.pricing.specs.declared.NotPriced.{NotPriced}
use Rattle.comparison.specs.declared.Comparison.{Comparison}

-- A move with what differs; figures outside their ranges are not compared.
abbrev pub with_differences : Rows → Rows → Option Move → Option Comparison
with_differences old new m = option_map (λ (v : Move). record { moved = v; differences = differences (file_in old) (file_in new) }) m

unfoldable pub told_by : Option Priced → Option Priced → Option Rows → Option Rows → Option Comparison
told_by (Some before) (Some after) (Some old) (Some new) = with_differences old new (moved_of old.fund before.figures new.fund after.figures)
told_by (Some before) (Some after) (Some old) None = None
told_by (Some before) (Some after) None new = None
told_by (Some before) None old new = None
told_by None after old new = None

-- Of a file that was refused, nothing is told.
abbrev pub told_of : Result Priced NotPriced → Result Priced NotPriced → Result Rows Refused → Result Rows Refused → Option Comparison
told_of before after old new = told_by (result_ok before) (result_ok after) (result_ok old) (result_ok new)
