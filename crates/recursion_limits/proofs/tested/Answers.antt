-- Each test's answer is the definition's; where all pass, the limits are kept.
use mathlib.Core.Path.{◌≡◌, sym, ◌∙◌}
use mathlib.Core.Bool.{false}
use mathlib.Core.List.{[], ◌∷◌}
use Prim.Native.Nat.{ℕ, suc, ◌<◌, ◌≤◌}
use native.Mathlib.Omega.{arith}
use borrow.Author.Tests.{leb-true, leb-false}
use lib.ListN.{length, get_or}
use Rattle.fund.specs.Limits.{most_horizon}
use Rattle.fund.specs.Refusals.{any_short}
use Rattle.laws.specs.Accepted.{All, long_all}
use Rattle.recursion_limits.specs.Limits.{most_error}
use Rattle.recursion_limits.specs.Tests.{cell_of}
use Rattle.recursion_limits.proofs.TestedLimits.{error_none, tested_horizon, tested_short, tested_error, tested_start, start_of, start_above, sum_above}
use Rattle.recursion_limits.proofs.tested.Goals as goal
use Rattle.recursion_limits.proofs.tested.Goals.{else-sizes_within-via-then-sizes_within+else-start_within, else-sizes_within-via-else-sizes_within, Else-t-gt-MOST_HORIZON, Else-short, In_default}

-- X is within its limit
within : (c : Else-t-gt-MOST_HORIZON) → c.args.t.horizon ≤ most_horizon
within c = omega (arith, c.if-t-gt-MOST_HORIZON.false)

-- the slices are long enough
not_short : (c : Else-short) → any_short (length c.args.t.d.now ∷ length c.args.t.h.now ∷ c.args.cells ∷ c.args.bounds ∷ []) c.args.t.horizon ≡ false
not_short c = sym c.short.ensures ∙ c.if-short.false

long : (c : Else-short) → All (λ n. c.args.t.horizon < n) (length c.args.t.d.now ∷ length c.args.t.h.now ∷ c.args.cells ∷ c.args.bounds ∷ [])
long c = long_all (length c.args.t.d.now ∷ length c.args.t.h.now ∷ c.args.cells ∷ c.args.bounds ∷ []) c.args.t.horizon (not_short c)

-- no H is above its limit
errors : (c : In_default) → (j : ℕ) → j < c.args.t.horizon → get_or c.args.t.h.now (suc j) 0 ≤ most_error
errors c = rw c.in_default.is at c.error_at.ensures

pub returns-then-t-gt-MOST_HORIZON : goal.returns-then-t-gt-MOST_HORIZON
returns-then-t-gt-MOST_HORIZON c = tested_horizon c.args.t.horizon _ _ (cell_of c.args.start) _ _ c.if-t-gt-MOST_HORIZON.true

pub returns-then-short : goal.returns-then-short
returns-then-short c =
    let t = c.args.t in
    tested_short t.horizon t.d.now t.h.now (cell_of c.args.start) _ _ (within (goal.at.returns-then-short c).Else-t-gt-MOST_HORIZON) (sym c.short.ensures ∙ c.if-short.true)

pub error_at-requires : goal.error_at-requires
error_at-requires c = (long (goal.at.error_at-requires c).Else-short).1.0

pub returns-in-Some : goal.returns-in-Some
returns-in-Some c =
    let t = c.args.t in
    tested_error t.horizon t.d.now t.h.now (cell_of c.args.start) _ _ (within (goal.at.returns-in-Some c).Else-t-gt-MOST_HORIZON) (not_short (goal.at.returns-in-Some c).Else-short) _
    (rw c.in-Some.is at c.error_at.ensures)

pub sizes_within-requires : goal.sizes_within-requires
sizes_within-requires c = (long (goal.at.sizes_within-requires c).Else-short).0

pub returns-then-start_within : goal.returns-then-start_within
returns-then-start_within c =
    let at = goal.at.returns-then-start_within c in
    let l = long at.Else-short in
    record {
      transform =
          record {
            horizon = within at.Else-t-gt-MOST_HORIZON;
            d_long = l.0;
            h_long = l.1.0;
            sizes_within = leb-true _ _ (sym c.sizes_within.ensures ∙ c.if-sizes_within.true);
            errors = errors at.In_default;
          };
      f_long = l.1.1.0;
      r_long = l.1.1.1.0;
      start_fits = start_of (cell_of c.args.start) (sym c.start_within.ensures ∙ c.if-start_within.true);
    }

pub returns : goal.returns
returns c =
    let at = goal.at.returns c in
    let t = c.args.t in
    tested_start t.horizon t.d.now t.h.now (cell_of c.args.start) _ _ (within at.Else-t-gt-MOST_HORIZON) (not_short at.Else-short) (error_none _ _ (errors at.In_default))
    (
    elim c.else-sizes_within.branch [
      | else-sizes_within-via-then-sizes_within+else-start_within w ↦
          start_above (cell_of c.args.start) t.horizon t.d.now (sym w.start_within.ensures ∙ w.if-start_within.false)
      | else-sizes_within-via-else-sizes_within w ↦ sum_above (cell_of c.args.start) _ _ (leb-false _ _ (sym c.sizes_within.ensures ∙ w.if-sizes_within.false))
    ]
    )
