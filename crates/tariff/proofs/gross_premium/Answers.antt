-- `tariff::gross_premium`: outside the worth's range, else the sum's product with the loaded worth.
use Prim.Native.Nat.{◌*◌, ◌≤◌}
use native.Mathlib.Omega.{arith}
use mir.Facts.{to_z-of_z}
use Rattle.tariff.proofs.GrossAnswers.{loaded_le, gross_outside, gross_from}
use Rattle.tariff.proofs.gross_premium.Goals as goal
use Rattle.tariff.proofs.gross_premium.Goals.{After-loading}

pub returns-then-fund-lt-LEAST_WORTH : goal.returns-then-fund-lt-LEAST_WORTH
returns-then-fund-lt-LEAST_WORTH c = let a = c.args in gross_outside a.fund a.premium a.within c.then-fund-lt-LEAST_WORTH.either

-- the loaded worth fits a word
loaded_small : (c : After-loading) → let f = c.args.fund in f.worth * c.loading.result ≤ 21000000000
loaded_small c =
    let f = c.args.fund in
    rw c.loading.ensures (loaded_le f.worth _ (omega arith))

pub overflow_mul-loaded : goal.overflow_mul-loaded
overflow_mul-loaded c = omega (arith, loaded_small (goal.at.overflow_mul-loaded c).After-loading)

pub centimes-requires : goal.centimes-requires
centimes-requires c = let k = c.with_bound-sum.ensures in (k.high_le, k.low_lt, loaded_small (goal.at.centimes-requires c).After-loading)

pub returns : goal.returns
returns c =
    let k = c in
    let l = k in
    let s = l in
    let a = s.args in
    rw (c.centimes.ensures, l.loading.ensures) (gross_from a.fund a.premium a.within k.with_bound-sum.result (rw (to_z-of_z s.ranges.premium) at k.with_bound-sum.ensures) (omega arith) (omega arith))
