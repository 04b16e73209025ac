-- The sums of t and c, of a lambda up to the largest load.
use mathlib.Core.Path.{◌≡◌, refl, sym, ap, subst, ◌∙◌}
use mathlib.Core.Bool.{Bool, true, false}
use Prim.Native.Nat.{ℕ, ◌-◌}
use native.Mathlib.Nat as N
use native.Mathlib.Omega.{arith}
use borrow.Author.Tests.{ltb-true}
use lib.Dec.{ltb}
use lib.IntN.{pos, neg_ℤ, nat_abs, ◌-ℤ◌, neg_ℤ-neg_ℤ}
use Rattle.fund.specs.Recursion.{alternating}
use Rattle.whole.specs.Sign.{signed}
use Rattle.whole.proofs.Signs.{diff_neg}
use Rattle.start.specs.Terms.{StartSumIs}
use Rattle.start.proofs.TermBounds.{c_sum}
use Rattle.start.proofs.sums.Goals as goal

-- a difference of 0 has no sign
unsigned : (b : Bool) (m n size : ℕ) → b ≡ ltb m n → signed b size ≡ pos m -ℤ pos n → size ≡ 0 → b ≡ false
unsigned false m n size e d z = refl
unsigned true m n size e d z =
    let h = ltb-true m n (sym e) in
    let s = ap nat_abs (sym (neg_ℤ-neg_ℤ (pos size)) ∙ ap neg_ℤ (d ∙ sym (diff_neg m n (N.le_of_lt h))) ∙ neg_ℤ-neg_ℤ (pos (n - m))) in
    absurd (omega (arith, s))

pub returns : goal.returns
unfolding alternating
returns c =
    let d = c.difference.ensures in
    let s = c.terms-parts.ensures in
    record {
      is =
          subst (λ l. StartSumIs l (record { sum = c.difference.result; bound = c.terms-parts.result.bound })) c.min.ensures
          (record { sum_is = d.0 ∙ s.sum_is; unsigned = unsigned _ c.terms-parts.result.plus c.terms-parts.result.minus _ d.2 d.0; bound_is = s.bound_is });
      size_within = omega (arith, d.1, s.plus_within, s.minus_within);
      bound_within = omega (arith, s.bound_is, c_sum c.min.result (omega (arith, c.min.ensures)));
    }
