-- What the tests of the totals answer: the ranges (tested_range), then 7, 8 and 9 (tested_load, tested_order, tested_short).
use mathlib.Core.Path.{◌≡◌}
use mathlib.Core.Bool.{true}
use Prim.Native.Nat.{◌<◌, ◌≤◌}
use borrow.Author.Tests.{lt-ltb, le-ltb}
use Rattle.fund.specs.declared.Fund.{Fund}
use Rattle.fund.specs.declared.Refusal.TheVariants as refusal
use Rattle.fund.specs.Verdict.{refused_at}
use Rattle.std.proofs.Common.{Option, Some, None}
use Rattle.fund.specs.Limits.{most_load, most_truncation}
use Rattle.fund.specs.Refusals.{Lengths, short, refuse, at0}
use Rattle.totals.specs.declared.Totals.{Totals}
use Rattle.totals.specs.Tests.{tested_of}

module _ (fund : Fund) (totals : Option Totals) (n : Lengths) where
  pub tested_range : totals ≡ None → tested_of fund totals n ≡ refused_at refusal.Range 0
  unfolding tested_of
  tested_range e = rw e

  module _ (t : Totals) (e : totals ≡ Some t) where
    pub tested_load : most_load < t.load → tested_of fund totals n ≡ refused_at refusal.Load 0
    unfolding tested_of refuse at0
    tested_load l = rw (e, lt-ltb _ _ l)

    module _ (l : t.load ≤ most_load) where
      pub tested_order : most_truncation < t.truncation → tested_of fund totals n ≡ refused_at refusal.Order 0
      unfolding tested_of refuse at0
      tested_order k = rw (e, le-ltb _ _ l, lt-ltb _ _ k)

      pub tested_short : t.truncation ≤ most_truncation → short n fund.horizon ≡ true → tested_of fund totals n ≡ refused_at refusal.Short 0
      unfolding tested_of refuse at0
      tested_short k s = rw (e, le-ltb _ _ l, le-ltb _ _ k, s)
