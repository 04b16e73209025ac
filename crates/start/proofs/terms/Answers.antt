-- `terms` meets its contract. The loop's invariant: t and c are t(n) and c(n), and the sums are those over the first n.
use mathlib.Core.Path.{sym, ap, ap₂, ◌∙◌}
use Prim.Native.Nat.{◌*◌, ◌%◌, ◌^◌, ◌≤◌}
use lib.Dec.{eqb}
use native.Mathlib.Numerals.{add-one}
use native.Mathlib.Omega.{arith}
use Rattle.rounding.specs.Rounding.{near}
use Rattle.fund.specs.Recursion as R
use Rattle.start.specs.Terms.{most_t, most_c, next_c}
use Rattle.whole.specs.Sums.{PartFits}
use Rattle.whole.proofs.Signs.{with_part_is}
use Rattle.start.proofs.TermBounds.{t_first, t_next, t_within, c_first, c_next, c_within, terms_none, terms_more}
use Rattle.start.proofs.terms.Goals as goal
use Rattle.start.proofs.terms.Goals.{In-loop-n}

pub loop-n-init : goal.loop-n-init
loop-n-init c =
    let lambda = c.args.lambda in
    (sym (t_first lambda), sym (c_first lambda), terms_none lambda c.default-s.result c.default-s.ensures)

-- t and c are within their bounds in a turn
t_is : (c : In-loop-n) → c.loop-n.t ≤ most_t
t_is c = rw c.loop-n.invariant.0 (t_within c.args.lambda c.requires c.loop-n.n c.loop-n-test.true)

c_is : (c : In-loop-n) → c.loop-n.c ≤ most_c
c_is c = rw c.loop-n.invariant.1 (c_within c.args.lambda c.requires c.loop-n.n c.loop-n-test.true)

part_fits : (c : In-loop-n) → PartFits c.loop-n.s c.loop-n.t c.loop-n.c
part_fits c =
    let i = c.loop-n.invariant.2 in
    let t = t_is c in
    let few = c_is c in
    record { plus_fits = omega (arith, i.plus_within); minus_fits = omega (arith, i.minus_within); bound_fits = omega (arith, i.bound_within) }

pub next_term-t-requires : goal.next_term-t-requires
next_term-t-requires c = (t_is (goal.at.next_term-t-requires c).In-loop-n, c.requires, omega arith)

pub next_bound-c-requires : goal.next_bound-c-requires
next_bound-c-requires c = (c_is (goal.at.next_bound-c-requires c).In-loop-n, c.requires, omega arith, omega arith)

pub loop-n-preserved : goal.loop-n-preserved
loop-n-preserved c =
    let lambda = c.args.lambda in
    let l = c.loop-n in (
      c.next_term-t.ensures
          ∙ ap₂ (λ t n. near (t * lambda) (n * 10 ^ 12)) l.invariant.0 (add-one l.n)
          ∙ sym (t_next lambda l.n)
          ∙ ap (R.t lambda) (sym (add-one l.n)),
      c.next_bound-c.ensures
          ∙ ap₂ (next_c lambda) l.invariant.1 (add-one l.n)
          ∙ sym (c_next lambda l.n)
          ∙ ap (R.c lambda) (sym (add-one l.n)),
      rw add-one
          (terms_more lambda l.n l.s c.with_part-s.result c.requires c.loop-n-test.true l.invariant.2
          (rw (c.with_part-s.ensures, ← l.invariant.0, ← l.invariant.1) (with_part_is l.s (eqb (l.n % 2) 1) l.t l.c (part_fits (goal.at.loop-n-preserved c).In-loop-n)))),
    )
