-- Group 1, and what the rate at death leaves of a half is at most the rate at disability.
use Rattle.std.proofs.Common.{◌≡◌, refl, arith, ℕ, ◌+◌, ◌-◌, Bool, true, false, leb-true, leb-false, le-leb}
use borrow.Author.Tests.{eq-eqb, ne_eqb, lt-leb}
use lib.Dec.{leb}
use Rattle.fund.specs.Limits.{half_rate}
use Rattle.fund.specs.Refusals.{half}
use Rattle.matching.proofs.points.is_half.Goals as goal

rest : (q i : ℕ) → leb (half_rate - q) i ≡ leb half_rate (q + i)
rest q i = go (leb half_rate (q + i)) refl
  where
    go : (b : Bool) → leb half_rate (q + i) ≡ b → leb (half_rate - q) i ≡ b
    go true e = let h = leb-true half_rate (q + i) e in le-leb _ _ (omega arith)
    go false e = let h = leb-false half_rate (q + i) e in lt-leb _ _ (omega arith)

pub returns-then-m-eq-SINGLE : goal.returns-then-m-eq-SINGLE
unfolding half
returns-then-m-eq-SINGLE c = rw (eq-eqb _ _ c.if-m-eq-SINGLE.true, c.saturating_sub.ensures) (rest c.args.m.q c.args.m.i)

pub returns-else-m-eq-SINGLE : goal.returns-else-m-eq-SINGLE
unfolding half
returns-else-m-eq-SINGLE c = rw (ne_eqb _ _ c.if-m-eq-SINGLE.false) refl
