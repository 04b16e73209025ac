-- `sheet_cells::number::whole`: the only whole number that x can equal is the one of its bits (`only`), and it is compared with that.
use Rattle.std.specs.Prelude.{None}
use borrow.Author.Rules.{rules}
use mathlib.Core.Path.{◌≡◌, sym, ap, ◌∙◌, subst}
use mathlib.Core.Bool.{false}
use Prim.Native.Nat.{ℕ, ◌≤◌, ◌<◌, ◌^◌}
use native.Mathlib.Nat.{le_trans, not-le_of_lt}
use lib.Dec.{T, le→leb}
use lib.Ieee.{Float, binary64, fits, in_float, of_bits, to_bits, eq}
use lib.Ieee.Bits.{of_bits-to_bits}
use Rattle.fund.specs.SheetCells.{of_whole, whole_of}
use Rattle.sheet_cells.specs.Taken.{whole_at, whole_none}
use Rattle.sheet_cells.specs.Part.{OnlyWhole}
use Rattle.sheet_cells.proofs.number.whole.Goals as goal
use Rattle.sheet_cells.proofs.number.whole.Goals.{else-k-most-via-then-k-most+else-x-k, else-k-most-via-else-k-most}

only : (x : Float) (k : ℕ) → T (fits binary64 x) → OnlyWhole (of_bits binary64 (to_bits binary64 x)) k → OnlyWhole x k
only x k h o = subst (λ (y : Float). OnlyWhole y k) (of_bits-to_bits binary64 x h) o

above : (x : Float) (most k : ℕ) → most ≤ 2 ^ 53 → OnlyWhole x k → most < k → None ≡ whole_of x most
above x most k m o l = sym (whole_none x most (λ n h t. not-le_of_lt l (subst (λ (z : ℕ). z ≤ most) (o n (le_trans h m) t) h)))

other : (x : Float) (most k : ℕ) → most ≤ 2 ^ 53 → OnlyWhole x k → eq x (of_whole k) ≡ false → None ≡ whole_of x most
other x most k m o e = sym (whole_none x most (λ n h t. subst T (ap (λ (z : ℕ). eq x (of_whole z)) (o n (le_trans h m) t) ∙ e) t))

pub int_to_float-k : goal.int_to_float-k
unfolding in_float
int_to_float-k c = le→leb _ _ (le_trans c.if-k-most.true c.requires.0)

pub returns-then-x-k : goal.returns-then-x-k
returns-then-x-k c =
    sym ((whole_at c.args.x c.args.most _ c.requires.0).1 c.if-k-most.true (subst T (sym c.if-x-k.true) tt))

pub returns : goal.returns
returns c =
    let x = c.args.x in
    let o = only x _ (search rules) c.whole_part-k.ensures in
    elim c.else-k-most.branch [ else-k-most-via-then-k-most+else-x-k w ↦ other x c.args.most _ c.requires.0 o w.if-x-k.false | else-k-most-via-else-k-most w ↦ above x c.args.most _ c.requires.0 o w.if-k-most.false ]
