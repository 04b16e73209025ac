-- `terms` meets its contract. The loop's invariant: t and c are t(n) and c(n), and the sums are those over the first n.
use mathlib.Core.Path.{◌≡◌}
use Rattle.fund.specs.Recursion as R
use Rattle.start.specs.Terms.{TermsTo}
use Rattle.start.proofs.terms.Given as goal

abbrev pub invariant-loop-n : goal.invariant-loop-n
invariant-loop-n l = (l.t ≡ R.t l.lambda l.n) × (l.c ≡ R.c l.lambda l.n) × TermsTo l.lambda l.n l.s
