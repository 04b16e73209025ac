-- Nothing is added for a rate of 0, at 0 or beyond the horizon; else the product, which is at most 5 × 10^12 × 4,095.
use mathlib.Core.Path.{◌∙◌, ap}
use Prim.Native.Nat.{◌+◌, ◌*◌, ◌^◌, ◌≤◌, ◌<◌}
use native.Mathlib.Nat.{mul-le-mul}
use native.Mathlib.Omega.{arith}
use lib.IntN.{pos, nat_abs}
use lib.ListN.{get_or}
use Rattle.fund.specs.Transform.{replaced_term}
use Rattle.widths.specs.AddedTerms.{add_d, times}
use Rattle.widths.specs.Times.{size_d_times}
use Rattle.widths.specs.PlacedTerms.{replaced_nothing, replaced_zero, replaced_beyond, replaced_here, replaced_size}
use Rattle.transform.proofs.terms.add_replaced_term.Goals as goal
use Rattle.transform.proofs.terms.add_replaced_term.Goals.{Else-horizon-k, then-w-eq0-via-then-w-eq0, then-w-eq0-via-else-w-eq0+then-k-eq0, then-w-eq0-via-else-w-eq0+else-k-eq0+then-horizon-k}

pub returns-then-w-eq0 : goal.returns-then-w-eq0
unfolding add_d times
returns-then-w-eq0 c =
    let a = c.args in
    elim c.then-w-eq0.branch [
      | then-w-eq0-via-then-w-eq0 w ↦ replaced_nothing a.horizon a.w a.k a.lives w.if-w-eq0.true a.transform.now
      | then-w-eq0-via-else-w-eq0+then-k-eq0 w ↦ rw (replaced_zero a.horizon a.w a.k w.if-k-eq0.true)
      | then-w-eq0-via-else-w-eq0+else-k-eq0+then-horizon-k w ↦ rw (replaced_beyond a.horizon a.w a.k w.if-horizon-k.true)
    ]

here : (c : Else-horizon-k) → let a = c.args in (0 < a.k) × (a.k ≤ a.horizon) × (a.w * a.k ≤ 5000000000000 * 4095)
here c =
    let a = c.args in
    let p = c.requires in
    let k : a.k ≤ 4095 = omega (arith, p.1.horizon) in
    (omega arith, omega arith, mul-le-mul p.0 k)

pub overflow_mul-w : goal.overflow_mul-w
overflow_mul-w c = omega (arith, (here (goal.at.overflow_mul-w c).Else-horizon-k).2)

-- the room that the cell has
room : (c : Else-horizon-k) → let a = c.args in nat_abs (get_or a.transform.now a.k (pos 0)) + a.lives * (a.w * a.k) ≤ 2 ^ 62
room c =
    let s = c in
    let a = s.args in
    let h = here c in
    let size = size_d_times a.lives (replaced_term a.horizon a.w a.k) ∙ ap (λ x. a.lives * x) (replaced_size a.horizon a.w a.k h.0 h.1) in
    omega (arith, s.requires.1.room a.k h.1, size)

pub overflow_mul-lives : goal.overflow_mul-lives
overflow_mul-lives c = omega (arith, room (goal.at.overflow_mul-lives c).Else-horizon-k)

pub shift-requires : goal.shift-requires
shift-requires c =
    let s = c in
    (omega (arith, (here (goal.at.shift-requires c).Else-horizon-k).1, s.requires.1.long), room (goal.at.shift-requires c).Else-horizon-k)

pub returns : goal.returns
unfolding add_d times
returns c =
    let a = c.args in
    let h = here (goal.at.returns c).Else-horizon-k in
    rw (replaced_here a.horizon a.w a.k h.0 h.1) c.shift.ensures
