-- What pricing says of a file: it is accepted, or refused with a number of METHOD 2 at a place.
use Rattle.std.specs.Prelude.{Result, Err, ℕ, ⊤}
use Rattle.fund.specs.declared.Refusal.{Refusal}
use Rattle.fund.specs.declared.Refused.{Refused}

abbrev pub Verdict : Type 0
Verdict = Result ⊤ Refused

abbrev pub refused_at : Refusal → ℕ → Verdict
refused_at why place = Err (record { why = why; place = place })
