-- `rows::ranges::lives_in_range`: what is left of the most lives is asked, so that no sum is formed.
use mathlib.Core.Path.{◌≡◌, refl, sym, ◌∙◌}
use mathlib.Core.Bool.{Bool, true, false}
use Prim.Native.Nat.{ℕ, ◌+◌, ◌-◌, ◌≤◌}
use native.Mathlib.Omega.{arith}
use borrow.Author.Tests.{leb-true, leb-false, le-leb, lt-leb}
use lib.Dec.{leb}
use Rattle.fund.specs.Limits.{least_lives, most_lives}
use Rattle.laws.specs.Ranges.{between_true}
use Rattle.rows.proofs.ranges.lives_in_range.Goals as goal

left_over : (before lives most : ℕ) → lives ≤ most → leb before (most - lives) ≡ leb (before + lives) most
left_over before lives most h = go (leb before (most - lives)) refl
  where
    go : (t : Bool) → leb before (most - lives) ≡ t → t ≡ leb (before + lives) most
    go true e = sym (le-leb (before + lives) most (omega (arith, leb-true before (most - lives) e)))
    go false e = sym (lt-leb (before + lives) most (omega (arith, leb-false before (most - lives) e)))

pub overflow_sub-result : goal.overflow_sub-result
overflow_sub-result c =
    let a = c.args in
    let h = between_true least_lives most_lives a.lives (sym c.within.ensures ∙ c.if-within.true) in
    omega (arith, h.1)

pub returns-then-within : goal.returns-then-within
returns-then-within c =
    let a = c.args in
    let e = sym c.within.ensures ∙ c.if-within.true in
    rw e (left_over a.before a.lives most_lives (between_true least_lives most_lives a.lives e).1)

pub returns-else-within : goal.returns-else-within
returns-else-within c = rw (sym c.within.ensures ∙ c.if-within.false) c.if-within.false
