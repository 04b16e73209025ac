-- The group decides: p of each life of a line of group 1, and none of group 2.
use borrow.Author.Tests.{eq-eqb, ne_eqb}
use mathlib.Core.Path.{◌≡◌, refl}
use mathlib.Core.Bool.{true, false}
use Prim.Native.Nat.{◌+◌}
use native.Mathlib.Nat as N
use native.Mathlib.Omega.{arith}
use lib.ListN.{replicate}
use Rattle.whole.specs.Sign.{signed}
use Rattle.fund.specs.declared.ModelPoint.{ModelPoint}
use Rattle.fund.specs.Folding.{single}
use Rattle.totals.specs.declared.product.Product.{Product}
use Rattle.totals.specs.Product.{SizeWith, Times}
use Rattle.totals.proofs.StartProduct.{times_none}
use Rattle.totals.proofs.product.product_step.Goals as goal

single_times : (p : ModelPoint) (before r : Product) → single p.life ≡ true → SizeWith (replicate p.lives p.life) before.size r.size → r.singles ≡ before.singles + p.lives → Times p before r
single_times p before r e z c = record { size_is = z; count_is = rw (e, N.mul-one) c }

other_times : (p : ModelPoint) (before : Product) → single p.life ≡ false → Times p before before
other_times p before e =
    record {
      size_is = record { product = λ s. times_none p.life e (signed s before.size) p.lives; within = N.le_refl before.size };
      count_is = rw (e, N.mul-zero) (omega arith);
    }

pub repeated-requires : goal.repeated-requires
repeated-requires c = let s = c in (eq-eqb s.args.p.life.group 1 c.if-p-eq-SINGLE.true, s.requires.0.life_in.rates, s.requires.1)

pub overflow_add-result : goal.overflow_add-result
overflow_add-result c = omega (arith, c.requires.0.lives_most, c.requires.2)

pub returns-then-p-eq-SINGLE : goal.returns-then-p-eq-SINGLE
returns-then-p-eq-SINGLE c =
    let t = c in
    let a = t.args in
    single_times a.p a.product _ (eq-eqb a.p.life.group 1 t.if-p-eq-SINGLE.true) c.repeated.ensures refl

pub returns : goal.returns
returns c = let a = c.args in other_times a.p a.product (ne_eqb a.p.life.group 1 c.if-p-eq-SINGLE.false)
