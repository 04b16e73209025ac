-- What each test adds to those before it.
use Rattle.std.proofs.Common.{◌≡◌, true, ◌+◌, ◌-◌, ◌<◌, ◌≤◌, arith}
use Rattle.std.proofs.lemmas.Bool.Decides.{nat_tests}
use borrow.Author.Tests.{eqb-true}
use Rattle.fund.specs.Limits.{least_group, most_group, most_rate, most_amount, half_rate}
use Rattle.laws.specs.Tells.{tells_as}
use Rattle.totals.proofs.Conjunctions.{at_most}
use Rattle.totals.proofs.inside.life_inside.Goals as goal
use Rattle.totals.proofs.inside.life_inside.Goals.{then-m-le-MOST_RATE, else-m-le-MOST_RATE, then-m+then-m-ne-SINGLE, then-m+else-m-ne-SINGLE, else-m, then-m-lt-HALF+then-m-gt0, then-m-lt-HALF+else-m-gt0, else-m-lt-HALF}

pub returns-then-m-le-MOST_AMOUNT : goal.returns-then-m-le-MOST_AMOUNT
returns-then-m-le-MOST_AMOUNT c =
    let m = c.args.m in
    let last : (c.if-m-lt-HALF.value ≡ true) × (m.e ≡ 0 → m.i ≡ 0) × (m.d ≤ most_amount) = grind (arith, nat_tests, c.if-m-le-MOST_AMOUNT.fact) in
    let no_death : (c.if-m.value ≡ true) × (m.d ≡ 0 → m.q ≡ 0) =
    elim c.if-m-lt-HALF.branch [
      | then-m-lt-HALF+then-m-gt0 w ↦ grind (arith, nat_tests, last)
      | then-m-lt-HALF+else-m-gt0 w ↦ grind (arith, nat_tests, last)
      | else-m-lt-HALF w ↦ grind (arith, nat_tests, last)
    ] in
    let limited : (c.if-m-le-MOST_RATE.value ≡ true) × (m.group ≡ 1 → m.q + m.i < half_rate) =
    elim c.if-m.branch [
      | then-m+then-m-ne-SINGLE w ↦ grind (arith, nat_tests, no_death)
      | then-m+else-m-ne-SINGLE w ↦ grind (arith, nat_tests, no_death)
      | else-m w ↦ grind (arith, nat_tests, no_death)
    ] in
    let rates : (m.i ≤ most_rate - m.q) × (m.q ≤ most_rate) × (least_group ≤ m.group) × (m.group ≤ most_group) =
    elim c.if-m-le-MOST_RATE.branch [
      | then-m-le-MOST_RATE w ↦ grind (arith, nat_tests, limited, w.if-m-le-MOST_RATE.fact)
      | else-m-le-MOST_RATE w ↦ grind (arith, nat_tests, limited)
    ] in
    tells_as (at_most m.e most_amount)
    (λ e. record {
      group_least = rates.2;
      group_most = rates.3;
      rates = omega (arith, rates);
      limited = λ s. limited.1 (eqb-true _ _ s);
      death = last.2;
      disability = e;
      no_death = no_death.1;
      no_disability = last.1;
    })
    (λ h. h.disability)
