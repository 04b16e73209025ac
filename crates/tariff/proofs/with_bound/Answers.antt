-- `tariff::with_bound`: the premium and its bound, added where the premium is not negative, else what the bound leaves.
use Rattle.std.proofs.Common.{arith}
use Rattle.tariff.proofs.WithBound.{size_le, with_bound_below, with_bound_above}
use Rattle.tariff.proofs.with_bound.Goals as goal

pub returns-then-premium-lt0 : goal.returns-then-premium-lt0
returns-then-premium-lt0 c =
    let e = with_bound_below c.args.premium c.args.within _ c.ranges.premium c.unsigned_abs-size.ensures.value c.if-premium-lt0.true in
    record { sum_is = omega (arith, e, c.saturating_sub-left.ensures); high_le = omega arith; low_lt = omega arith }

pub returns : goal.returns
returns c =
    let e = with_bound_above c.args.premium c.args.within _ c.ranges.premium c.unsigned_abs-size.ensures.value c.if-premium-lt0.false in
    let l = size_le c.args.premium c.args.within _ c.ranges.premium c.unsigned_abs-size.ensures.value in
    record { sum_is = omega (arith, e); high_le = omega (arith, l); low_lt = omega arith }
