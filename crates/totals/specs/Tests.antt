-- The ranges and the refusals 7, 8 and 9, of the totals.
use Rattle.std.specs.Prelude.{◌≡◌, false, ◌≤◌, ltb, Option, Some, None, Result, Ok, Err}
use Rattle.fund.specs.declared.Fund.{Fund}
use Rattle.fund.specs.declared.Refusal.TheVariants as refusal
use Rattle.fund.specs.declared.Refused.{Refused}
use Rattle.fund.specs.Verdict.{Verdict, refused_at}
use Rattle.fund.specs.Limits.{most_load, most_truncation}
use Rattle.fund.specs.Refusals.{Lengths, short, refuse, at0}
use Rattle.totals.specs.declared.Totals.{Totals}

unfoldable pub tested_of : Fund → Option Totals → Lengths → Verdict
tested_of fund None n = refused_at refusal.Range 0
tested_of fund (Some t) n =
    refuse refusal.Load (at0 (ltb most_load t.load))
    (refuse refusal.Order (at0 (ltb most_truncation t.truncation))
    (refuse refusal.Short (at0 (short n fund.horizon)) (Ok tt)))

pub record PassedTests (fund : Fund) (totals : Option Totals) (n : Lengths) (t : Totals) : Type 0 where
  pub inside_is : totals ≡ Some t
  pub load_within : t.load ≤ most_load
  pub truncation_within : t.truncation ≤ most_truncation
  pub long : short n fund.horizon ≡ false

abbrev pub Tested : Fund → Option Totals → Lengths → Result Totals Refused → Type 0
Tested fund totals n (Ok t) = PassedTests fund totals n t
Tested fund totals n (Err stop) = tested_of fund totals n ≡ Err stop
