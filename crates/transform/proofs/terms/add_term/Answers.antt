-- H's cell gains x for each life. D's cell gains nothing where v is 0, and else what `shift` adds or subtracts, by the parity of n.
use mathlib.Core.Path.{◌≡◌, refl, ◌∙◌, ap}
use Prim.Native.Nat.{◌*◌, ◌≤◌, ◌<◌}
use native.Mathlib.Nat.{mul-le-mul, mul-zero}
use native.Mathlib.Omega.{arith}
use lib.IntN.{pos, ◌*ℤ◌, *ℤ-zero}
use Rattle.rounding.specs.Rounding.{near}
use Rattle.widths.specs.PlacedTerms.{alternate_signed, term_zero, add_nothing}
use Rattle.widths.specs.Times.{times_signed}
use Rattle.transform.proofs.terms.add_term.Goals as goal
use Rattle.transform.proofs.terms.add_term.Goals.{After-nearest, Start}

pub returns-then-v-eq0 : goal.returns-then-v-eq0
returns-then-v-eq0 c =
    let a = c.args in
    let n : 0 < a.n = omega arith in
    record { transform_after = add_nothing a.transform.now a.x _ (ap (λ z. pos a.lives *ℤ z) (term_zero a.n a.x a.v n (ap (λ v. a.x * v) c.if-v-eq0.true ∙ mul-zero a.x)) ∙ *ℤ-zero (pos a.lives)); h_after = refl }

product : (c : Start) → c.args.x * c.args.v ≤ 4095 * 1000000000000
product c = mul-le-mul c.requires.place_most c.requires.number_most

pub overflow_mul-x : goal.overflow_mul-x
overflow_mul-x c = omega (arith, product (goal.at.overflow_mul-x c).Start)

-- what D gains, by the number that is found
gain : (c : After-nearest) → let a = c.args in a.lives * c.nearest.result ≡ a.lives * near (a.x * a.v) a.n
gain c = ap (λ r. c.args.lives * r) c.nearest.ensures

pub overflow_mul-lives : goal.overflow_mul-lives
overflow_mul-lives c = omega (arith, gain c, c.requires.d_room)

pub shift-requires : goal.shift-requires
shift-requires c =
    let p = c.requires in
    (p.d_long, omega (arith, gain c, p.d_room))

pub returns : goal.returns
returns c =
    let a = c.args in
    record { transform_after = rw (alternate_signed a.n (near (a.x * a.v) a.n), times_signed a.lives _ (near (a.x * a.v) a.n), ← c.nearest.ensures) c.shift.ensures; h_after = refl }
