-- No refusal has the number 0: a verdict with number 0 is an acceptance (zero_accepted).
use Rattle.std.specs.Prelude.{◌≡◌, refl, ◌≤◌, Err, Ok}
use Rattle.std.proofs.Common.{arith}
use Rattle.fund.specs.declared.Refusal.{Refusal}
use Rattle.fund.specs.declared.Refusal.TheVariants.{Form, Range, Edition, Deductible, Unmatched, Half, Load, Order, Short, Wide, Cell}
use Rattle.fund.specs.Verdict.{Verdict}
use Rattle.fund.specs.Refusals.{number_of, number_in}

number_above : (why : Refusal) → 1 ≤ number_of why
number_above Form = omega arith
number_above Range = omega arith
number_above Edition = omega arith
number_above Deductible = omega arith
number_above Unmatched = omega arith
number_above Half = omega arith
number_above Load = omega arith
number_above Order = omega arith
number_above Short = omega arith
number_above Wide = omega arith
number_above Cell = omega arith

pub zero_accepted : (v : Verdict) → number_in v ≡ 0 → v ≡ Ok tt
zero_accepted (Ok tt) e = refl
zero_accepted (Err stop) e = absurd (omega (arith, number_above stop.why, e))
