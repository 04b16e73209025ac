-- `sheet_cells::number::rate`: the invariant: every k whose quotient x equals lies from lo on and below hi.
use mathlib.Core.Path.{◌≡◌}
use mathlib.Core.Bool.{Bool}
use Prim.Native.Nat.{ℕ, ◌+◌, ◌-◌, ◌/◌, ◌≤◌}
use native.Mathlib.Nat.{le_trans}
use native.Mathlib.Omega.{arith}
use lib.Dec.{le→leb, lit≤}
use lib.Ieee.{Float, binary64, in_float, of_int, of_bits, div, eq, lt}
use Rattle.fund.specs.SheetCells.{of_whole, quotient, rate_of}
use Rattle.sheet_cells.specs.Ascending as ascending
use Rattle.sheet_cells.proofs.number.rate.Goals as goal

abbrev q : ℕ → Float
q k = quotient k 1000000

-- the literal is the float of 1,000,000
is : {b : Bool} (compare : Float → Float → Bool) (x : Float) (k : ℕ) → compare x (div binary64 (of_whole k) (of_bits binary64 0x412e848000000000)) ≡ b → compare x (q k) ≡ b
unfolding quotient of_int of_bits
is compare x k e = e

pub loop-lo-init : goal.loop-lo-init
loop-lo-init c = (omega arith, ascending.within_all q 1000000 ascending.millionths c.args.x)

pub int_to_float-quotient : goal.int_to_float-quotient
unfolding in_float
int_to_float-quotient c =
    let at = c.loop-lo in
    let small : at.lo + (at.hi - at.lo) / 2 ≤ 1000000 = omega arith in
    le→leb _ _ (le_trans small (lit≤ tt))

pub returns-then-x-quotient : goal.returns-then-x-quotient
unfolding rate_of
returns-then-x-quotient c = let x = c.args.x in ascending.found q 1000000 ascending.millionths x _ (omega arith) (is eq x _ c.if-x-quotient.true)

pub loop-lo-preserved-then-x-quotient-2 : goal.loop-lo-preserved-then-x-quotient-2
loop-lo-preserved-then-x-quotient-2 c =
    let x = c.args.x in
    (omega arith, ascending.within_left q 1000000 ascending.millionths x c.loop-lo.lo c.loop-lo.hi _ c.loop-lo.invariant.1 (omega arith) (is lt x _ c.if-x-quotient-2.true))

pub loop-lo-preserved : goal.loop-lo-preserved
loop-lo-preserved c =
    let x = c.args.x in (
      omega arith,
      ascending.within_right q 1000000 ascending.millionths x c.loop-lo.lo c.loop-lo.hi _ c.loop-lo.invariant.1 (omega arith) (is eq x _ c.if-x-quotient.false) (is lt x _ c.if-x-quotient-2.false),
    )

pub returns : goal.returns
unfolding rate_of
returns c = ascending.none q 1000000 ascending.millionths c.args.x c.loop-lo.lo c.loop-lo.hi c.loop-lo.invariant.1 c.loop-lo-test.false
