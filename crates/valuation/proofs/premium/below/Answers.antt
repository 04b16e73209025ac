-- `below` meets its contract. The loop's invariant: the sums are those over the first x cells.
use mathlib.Core.Path.{◌≡◌}
use Prim.Native.Nat.{ℕ}
use native.Mathlib.Numerals.{add-one}
use native.Mathlib.Omega.{arith}
use borrow.Author.Rules.{sfits_of}
use lib.IntN.{pos, nat_abs}
use lib.ListN.{get_or}
use mir.Syntax.{w64}
use mir.Val.{to_z, of_z}
use mir.Facts.{to_z-of_z}
use Rattle.recursion_limits.proofs.PartialSums.{sum_n_grow, sum_n_term}
use Rattle.valuation.proofs.WeighedCells.{below_none, below_more}
use Rattle.valuation.proofs.premium.below.Goals as goal
use Rattle.valuation.proofs.premium.below.Goals.{After-shared_slice_known-in-loop-x-1}

pub loop-x-init : goal.loop-x-init
loop-x-init c =
    below_none c.args.deductible c.args.f.now c.args.r.now c.default-s.result c.default-s.ensures

-- what was read of f is the element
read_f : (c : After-shared_slice_known-in-loop-x-1) →
    let a = c.args in
    let x = c.loop-x.x in
    to_z w64 (of_z w64 (get_or a.f.now x (pos 0))) ≡ get_or a.f.now x (pos 0)
read_f c = to_z-of_z (sfits_of {w = w64} c.with_cell-arg-1.given)

pub with_cell-s-requires : goal.with_cell-s-requires
with_cell-s-requires c =
    let s = c in
    let a = s.args in
    let l = c.loop-x in
    let level : ℕ → ℕ = λ x. nat_abs (get_or a.f.now x (pos 0)) in
    let whole = s.requires.levels_within in
    let part = sum_n_grow level l.x a.deductible (omega arith) in
    let term = sum_n_term level a.deductible l.x (omega arith) in
    let i = l.invariant in record { plus_bound = (omega (arith, i.plus_within, part, whole), omega (arith, i.minus_within, part, whole), omega (arith, i.bound_within, s.requires.few)); weight_le_most_deductible = (omega (arith, s.requires.few), rw (read_f c) (omega (arith, term, whole)), s.requires.narrow l.x (omega arith)) }

pub loop-x-preserved : goal.loop-x-preserved
loop-x-preserved c =
    let s = c in
    let a = s.args in
    let l = c.loop-x in
    rw add-one
    (below_more a.deductible a.f.now a.r.now l.x l.s c.with_cell-s.result s.requires (omega arith) l.invariant
    (rw (read_f (goal.at.loop-x-preserved c).After-shared_slice_known-in-loop-x-1) at c.with_cell-s.ensures))
