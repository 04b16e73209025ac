-- The loop's invariant: the sum is that of the first x cells, and the slice begins with the sums of these.
use mathlib.Core.Path.{◌≡◌, ◌∙◌, ap}
use Prim.Native.Nat.{suc, ◌<◌}
use native.Mathlib.Numerals.{add-one}
use native.Mathlib.Omega.{arith}
use borrow.Author.Rules.{sfits_of}
use lib.IntN.{pos, nat_abs}
use lib.ListN.{length, get_or}
use mir.Syntax.{w64}
use mir.Val.{to_z, of_z}
use mir.Facts.{to_z-of_z}
use Rattle.recursion_limits.proofs.PartialSums.{sum_n_grow}
use Rattle.valuation.proofs.RunningSums.{sum_to, sum_none, sum_more, sum_size, summed, sums_none, sums_more, length_summed}
use Rattle.valuation.proofs.sums.fill_sums.Goals as goal
use Rattle.valuation.proofs.sums.fill_sums.Goals.{After-plus-arg-1, At-loop-x}

pub loop-x-init : goal.loop-x-init
loop-x-init c = (sum_none c.args.f.now, sums_none c.args.f.now c.args.sums.now)

pub bounds-f-x : goal.bounds-f-x
bounds-f-x c = let l = c.requires.f_long in omega arith

-- what was read of f is the element
read_f : (c : After-plus-arg-1) →
    let a = c.args in
    let x = c.loop-x.x in
    to_z w64 (of_z w64 (get_or a.f.now x (pos 0))) ≡ get_or a.f.now x (pos 0)
read_f c = to_z-of_z (sfits_of {w = w64} c.plus-arg-1.given)

pub plus-sum-requires : goal.plus-sum-requires
plus-sum-requires c =
    let s = c in
    let f = s.args.f.now in
    let l = c.loop-x in
    let part = sum_n_grow (λ x. nat_abs (get_or f x (pos 0))) (suc l.x) (suc s.args.horizon) (omega arith) in
    rw (read_f c) (omega (arith, ap nat_abs l.invariant.0, sum_size f l.x, part, s.requires.levels_within))

-- the slice has its length, which is above the horizon
kept : (c : At-loop-x) → length c.loop-x.sums ≡ length c.args.sums.now
kept c = let s = c in ap length c.loop-x.invariant.1 ∙ length_summed s.args.f.now c.loop-x.x s.args.sums.now (omega (arith, c.loop-x.auto, s.requires.sums_long))

long : (c : At-loop-x) → c.args.horizon < length c.loop-x.sums
long c = omega (arith, kept c, c.requires.sums_long)

pub bounds-sums-x : goal.bounds-sums-x
bounds-sums-x c = let l = long (goal.at.bounds-sums-x c).At-loop-x in omega arith

pub loop-x-preserved : goal.loop-x-preserved
loop-x-preserved c =
    let at-loop = c in
    let s = at-loop in
    let f = s.args.f.now in
    let x = at-loop.loop-x.x in
    let sum : to_z w64 (of_z w64 c.plus-sum.result) ≡ sum_to f (suc x) = to_z-of_z (sfits_of {w = w64} c.plus-sum.type_inv) ∙ (rw (read_f (goal.at.loop-x-preserved c).After-plus-arg-1) at c.plus-sum.ensures) ∙ sum_more f x _ at-loop.loop-x.invariant.0 in
    rw add-one (sum, sums_more f x s.args.sums.now _ _ (omega (arith, s.requires.sums_long)) at-loop.loop-x.invariant.1 sum)

pub shape_of-sums : goal.shape_of-sums
shape_of-sums c = kept (goal.at.shape_of-sums c).At-loop-x

pub returns : goal.returns
returns c =
    let at-loop = c in
    let s = at-loop in
    let done : at-loop.loop-x.x ≡ suc s.args.horizon = omega (arith, c.loop-x-test.false) in
    at-loop.loop-x.invariant.1 ∙ ap (λ n. summed s.args.f.now n s.args.sums.now) done
