-- No H up to k is above its limit.
use native.Mathlib.Numerals.{add-one}
use native.Mathlib.Omega.{arith}
use mathlib.Core.Path.{sym, ap, ◌∙◌}
use Rattle.std.proofs.Common.{Some}
use Rattle.recursion_limits.proofs.TestedLimits.{error_found, errors_more}
use Rattle.recursion_limits.proofs.error_at.Goals as goal

pub loop-k-init : goal.loop-k-init
loop-k-init c = λ j l. absurd (omega arith)

pub returns-then-h-k-gt-MOST_ERROR : goal.returns-then-h-k-gt-MOST_ERROR
returns-then-h-k-gt-MOST_ERROR c =
    let l = c.loop-k in
    error_found c.args.h.now c.args.horizon l.k (omega arith) l.invariant (rw add-one at c.if-h-k-gt-MOST_ERROR.true) ∙ ap Some (sym (add-one l.k))

pub loop-k-preserved : goal.loop-k-preserved
loop-k-preserved c = rw add-one (errors_more c.args.h.now c.loop-k.k c.loop-k.invariant (rw add-one at c.if-h-k-gt-MOST_ERROR.false))
