-- `rows::so_far::RowsSoFar::add_rate`: the test of a rate row is the definition's; what is in range has its place.
use Rattle.std.proofs.Common.{sym, ◌∙◌, add-one, arith}
use Rattle.laws.specs.Ranges.{rate_ok}
use Rattle.rows.proofs.InRange.{least_last, rate_tested}
use Rattle.rows.proofs.so_far.RowsSoFar.add_rate.Goals as goal

pub returns-then-not-rate_in_range-clause-answer : goal.returns-then-not-rate_in_range-clause-answer
returns-then-not-rate_in_range-clause-answer c =
    let s = c.args.self.now in
    rw (rate_tested s.rates.items c.args.r c.len.ensures.value s.least_is c.rate_in_range.ensures ∙ c.if-not-rate_in_range.true) c.out_of_range.ensures

pub returns-then-not-rate_in_range-clause-rates : goal.returns-then-not-rate_in_range-clause-rates
returns-then-not-rate_in_range-clause-rates c =
    let s = c.args.self.now in
    rw (rate_tested s.rates.items c.args.r c.len.ensures.value s.least_is c.rate_in_range.ensures ∙ c.if-not-rate_in_range.true)

pub push-requires : goal.push-requires
push-requires c =
    let s = c.args.self.now in
    let ok = rate_ok s.rates.items c.args.r (rate_tested s.rates.items c.args.r c.len.ensures.value s.least_is c.rate_in_range.ensures ∙ c.if-not-rate_in_range.false) in
    ok.0

pub overflow_add-self : goal.overflow_add-self
overflow_add-self c =
    let s = c.args.self.now in
    let ok = rate_ok s.rates.items c.args.r (rate_tested s.rates.items c.args.r c.len.ensures.value s.least_is c.rate_in_range.ensures ∙ c.if-not-rate_in_range.false) in
    omega (arith, ok.1.1.age)

pub invariant_of-self : goal.invariant_of-self
invariant_of-self c =
    let s = c.args.self.now in
    record { least_is = rw c.push.ensures.items (least_last s.rates.items c.args.r ∙ sym (add-one c.args.r.age)); lives_are = s.lives_are }

pub returns-clause-answer : goal.returns-clause-answer
returns-clause-answer c =
    let s = c.args.self.now in
    rw (rate_tested s.rates.items c.args.r c.len.ensures.value s.least_is c.rate_in_range.ensures ∙ c.if-not-rate_in_range.false)

pub returns-clause-rates : goal.returns-clause-rates
returns-clause-rates c =
    let s = c.args.self.now in
    rw (rate_tested s.rates.items c.args.r c.len.ensures.value s.least_is c.rate_in_range.ensures ∙ c.if-not-rate_in_range.false) c.push.ensures.items
