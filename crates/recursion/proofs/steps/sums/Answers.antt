-- `sums` meets its contract. The loop's invariant: the sums are those over all k up to the places that were visited, since what
-- lies between is blank.
use mathlib.Core.Path.{◌≡◌, subst}
use Prim.Native.Nat.{ℕ, suc, ◌+◌, ◌≤◌, ◌-◌}
use native.Mathlib.Numerals.{add-one}
use native.Mathlib.Omega.{arith}
use borrow.Author.Rules.{sfits_of}
use mathlib.Core.Bool.{Bool}
use lib.IntN.{ℤ, pos}
use lib.ListN.{length, get_or}
use mathlib.Core.List.{List}
use mir.Syntax.{w64}
use mir.Val.{to_z, of_z}
use mir.Facts.{to_z-of_z}
use Rattle.recursion.specs.Places.{from, PlacesOf}
use Rattle.recursion.specs.Steps.{SumsTo}
use Rattle.recursion.proofs.SumsTo.{sums_none, sums_more, sums_small, sums_at, sums_over, sums_end}
use Rattle.recursion.proofs.steps.sums.Goals as goal
use Rattle.recursion.proofs.steps.sums.Goals.{After-shared_slice_known-in-loop-place-1}

-- the places that are visited are those of the struct
visited : {X : ℕ} {d : List ℤ} {h list list' : List ℕ} {small : Bool} → list ≡ list' → PlacesOf X d h list' small → PlacesOf X d h list small
visited e p = rw e p

pub loop-place-init : goal.loop-place-init
loop-place-init c =
    let a = c.args in
    (omega arith, sums_none a.t.d.now a.t.h.now a.f.now a.r.now a.last c.default-s.result c.default-s.ensures)

pub returns-then-last-k : goal.returns-then-last-k
returns-then-last-k c =
    let a = c.args in
    let l = c.loop-place in
    let i = visited c.as_slice-place-items.ensures.value c.requires.places_of in
    sums_over a.t.d.now a.t.h.now a.f.now a.r.now a.last a.t.horizon c.as_slice-place-items.result.now l.s c.requires.transform_fits c.requires.cells_fit.0 c.requires.cells_fit.1 i.listed l.place-index (omega arith) c.if-last-k.true l.invariant.0 l.invariant.1

-- what was read of D and of f are the elements
read_D : (c : After-shared_slice_known-in-loop-place-1) → let k = get_or c.as_slice-place-items.result.now c.loop-place.place-index 0 in to_z w64 (of_z w64 (get_or c.args.t.d.now (k + 1) (pos 0))) ≡ get_or c.args.t.d.now (k + 1) (pos 0)
read_D c = to_z-of_z (sfits_of {w = w64} c.add-arg-1.given)

read_f : (c : After-shared_slice_known-in-loop-place-1) → let k = get_or c.as_slice-place-items.result.now c.loop-place.place-index 0 in to_z w64 (of_z w64 (get_or c.args.f.now (c.args.last - k) (pos 0))) ≡ get_or c.args.f.now (c.args.last - k) (pos 0)
read_f c = to_z-of_z (sfits_of {w = w64} c.add-arg-in-loop-place-2-1.given)

-- the sums up to the place
before : (c : After-shared_slice_known-in-loop-place-1) → let k = get_or c.as_slice-place-items.result.now c.loop-place.place-index 0 in SumsTo c.args.t.d.now c.args.t.h.now c.args.f.now c.args.r.now c.args.last k c.loop-place.s
before c =
    let a = c.args in
    let l = c.loop-place in
    let i = visited c.as_slice-place-items.ensures.value c.requires.places_of in
    sums_at a.t.d.now a.t.h.now a.f.now a.r.now a.last a.t.horizon c.as_slice-place-items.result.now l.s c.requires.transform_fits c.requires.cells_fit.0 c.requires.cells_fit.1 i.listed l.place-index (omega arith) c.if-last-k.false l.invariant.1

pub add-s-requires : goal.add-s-requires
add-s-requires c =
    let a = c.args in
    let l = c.loop-place in
    let i = visited c.as_slice-place-items.ensures.value c.requires.places_of in
    let k = get_or c.as_slice-place-items.result.now l.place-index 0 in
    rw (read_D c, read_f c, add-one)
    (record {
      sums_fit = sums_small a.t.d.now a.t.h.now a.f.now a.r.now a.last a.t.horizon k l.s c.requires.transform_fits c.requires.cells_fit.0 c.requires.cells_fit.1 c.if-last-k.false (before c);
      small_entry = λ e. i.all_small e k (i.listed.within l.place-index (omega arith));
    })

pub loop-place-preserved : goal.loop-place-preserved
loop-place-preserved c =
    let a = c.args in
    let l = c.loop-place in
    let k = get_or c.as_slice-place-items.result.now l.place-index 0 in
    let at = (goal.at.loop-place-preserved c).After-shared_slice_known-in-loop-place-1 in
    rw add-one (
      omega (arith, c.if-last-k.false),
      sums_more a.t.d.now a.t.h.now a.f.now a.r.now a.last k l.s c.add-s.result (before at) (rw (read_D at, read_f at, add-one) at c.add-s.ensures),
    )

pub returns : goal.returns
returns c =
    let a = c.args in
    let l = c.loop-place in
    let i = visited c.as_slice-place-items.ensures.value c.requires.places_of in
    let e : l.place-index ≡ length c.as_slice-place-items.result.now = omega arith in
    let all = subst (λ j. (from c.as_slice-place-items.result.now j ≤ suc a.last) × SumsTo a.t.d.now a.t.h.now a.f.now a.r.now a.last (from c.as_slice-place-items.result.now j) l.s) e l.invariant in
    sums_end a.t.d.now a.t.h.now a.f.now a.r.now a.last a.t.horizon c.as_slice-place-items.result.now l.s c.requires.transform_fits c.requires.cells_fit.0 c.requires.cells_fit.1 i.listed all.0 all.1
