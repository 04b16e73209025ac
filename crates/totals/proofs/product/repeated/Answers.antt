-- The lives that are left, multiplied with the product so far, give the whole product.
use mathlib.Core.Path.{◌≡◌, sym, ◌∙◌, ap}
use Prim.Native.Nat.{suc, ◌+◌, ◌-◌}
use native.Mathlib.Nat as N
use native.Mathlib.Omega.{arith}
use lib.ListN.{replicate}
use Rattle.fund.specs.Recursion.{multiplied}
use Rattle.whole.specs.Sign.{signed}
use Rattle.totals.proofs.StartProduct.{times_one, no_larger}
use Rattle.totals.proofs.product.repeated.Goals as goal

pub loop-k-init : goal.loop-k-init
loop-k-init c = (N.le_refl c.args.size, λ s. ap (λ n. multiplied (signed s c.args.size) (replicate n c.args.m)) (N.sub-zero c.args.lives))

pub times-product-requires : goal.times-product-requires
times-product-requires c = let p = c.requires in (p.1, omega (arith, c.loop-k.invariant.0, p.2))

pub loop-k-preserved : goal.loop-k-preserved
loop-k-preserved c =
    let m = c.args.m in
    let l = c.loop-k in
    let left = c.args.lives - l._k in
    let e : left ≡ suc (c.args.lives - (l._k + 1)) = omega (arith, c.loop-k-test.true) in (
      omega (arith, c.times-product.ensures, no_larger m l.product, l.invariant.0),
      λ s. ap (λ k. multiplied (signed s k) (replicate (c.args.lives - (l._k + 1)) m)) c.times-product.ensures
          ∙ sym (times_one m c.requires.0 s l.product (replicate (c.args.lives - (l._k + 1)) m))
          ∙ ap (λ n. multiplied (signed s l.product) (replicate n m)) (sym e)
          ∙ l.invariant.1 s,
    )

pub returns : goal.returns
unfolding multiplied
returns c =
    let l = c.loop-k in
    let e : c.args.lives - l._k ≡ 0 = omega (arith, c.loop-k-test.false) in
    record { product = λ s. sym (l.invariant.1 s) ∙ ap (λ n. multiplied (signed s l.product) (replicate n c.args.m)) e; within = l.invariant.0 }
