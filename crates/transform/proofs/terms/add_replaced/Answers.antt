-- The second term goes into the room that the first leaves. A weight is at most 10^6 × 5,000 × 1,000.
use mathlib.Core.Path.{◌≡◌, sym, ◌∙◌, ap}
use mathlib.Core.List.{List, ◌++◌}
use native.Mathlib.Omega.{arith}
use Rattle.fund.specs.Transform.{Term, death_weight, disability_weight, replaced_term, replaced_terms}
use Rattle.laws.specs.Weights.{Products, products}
use Rattle.widths.specs.AddedTerms.{add_d, RoomD, times}
use Rattle.widths.specs.Times.{times_append}
use Rattle.widths.specs.AddingLaws.{add_d_append, room_d_first, room_d_rest}
use Rattle.transform.proofs.terms.add_replaced.Goals as goal
use Rattle.transform.proofs.terms.add_replaced.Goals.{Start}

fits : (c : Start) → let a = c.args in Products a.ab a.p.life.q × Products a.ab a.p.life.i
fits c = products c.args.ab c.args.p.life c.requires.1 c.requires.0.rates

-- the two terms, each as often as there are lives
abbrev death : Start → List Term
death c = let a = c.args in times a.p.lives (replaced_term a.horizon (death_weight a.ab a.p.life) a.p.life.d)

abbrev disability : Start → List Term
disability c = let a = c.args in times a.p.lives (replaced_term a.horizon (disability_weight a.ab a.p.life) a.p.life.e)

both : (c : Start) → times c.args.p.lives (replaced_terms c.args.horizon c.args.ab c.args.p.life) ≡ death c ++ disability c
unfolding replaced_terms
both c = times_append c.args.p.lives _ _

apart : (c : Start) → RoomD c.args.horizon c.args.transform.now (death c ++ disability c)
apart c = rw (both c) at c.requires.2

pub overflow_mul-p : goal.overflow_mul-p
overflow_mul-p c = omega (arith, fits (goal.at.overflow_mul-p c).Start)

pub overflow_mul-p-2 : goal.overflow_mul-p-2
overflow_mul-p-2 c = omega (arith, fits (goal.at.overflow_mul-p-2 c).Start)

pub add_replaced_term-requires : goal.add_replaced_term-requires
unfolding death_weight disability_weight
add_replaced_term-requires c = let s = c in (omega (arith, fits (goal.at.add_replaced_term-requires c).Start), room_d_first (death (goal.at.add_replaced_term-requires c).Start) (disability (goal.at.add_replaced_term-requires c).Start) (apart (goal.at.add_replaced_term-requires c).Start))

pub overflow_mul-p-3 : goal.overflow_mul-p-3
overflow_mul-p-3 c = omega (arith, fits (goal.at.overflow_mul-p-3 c).Start)

pub overflow_mul-p-4 : goal.overflow_mul-p-4
overflow_mul-p-4 c = omega (arith, fits (goal.at.overflow_mul-p-4 c).Start)

pub add_replaced_term-requires-2 : goal.add_replaced_term-requires-2
unfolding death_weight disability_weight
add_replaced_term-requires-2 c =
    let s = c in
    (omega (arith, fits (goal.at.add_replaced_term-requires-2 c).Start), rw c.add_replaced_term.ensures (room_d_rest (death (goal.at.add_replaced_term-requires-2 c).Start) (disability (goal.at.add_replaced_term-requires-2 c).Start) (apart (goal.at.add_replaced_term-requires-2 c).Start)))

pub returns : goal.returns
unfolding death_weight disability_weight
returns c =
    let s = c in
    c.add_replaced_term-2.ensures
    ∙ ap (λ x. add_d x (disability (goal.at.returns c).Start)) c.add_replaced_term.ensures
    ∙ sym (add_d_append s.args.transform.now (death (goal.at.returns c).Start) (disability (goal.at.returns c).Start))
    ∙ ap (add_d s.args.transform.now) (sym (both (goal.at.returns c).Start))
