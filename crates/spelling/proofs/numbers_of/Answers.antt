-- `spelling::numbers_of`: the numbers of the text are the k that are read and just as many as are left, of the fields that are left.
use Rattle.std.proofs.Common.{◌≡◌, ◌+◌, ◌-◌, ◌<◌, suc, refl, sym, ap, cond, [], ◌∙◌, arith, rules}
use Rattle.std.proofs.Math.Nat.{sub-zero}
use native.Mathlib.Numerals.{add-one}
use lib.ListN.{length, length-set}
use lib.Seq.{take-suc-set, drop-set-lt}
use borrow.Author.Tests.{tests, lt-leb}
use Rattle.fund.specs.Spelling.{fields}
use Rattle.spelling.specs.Text.{few_numbers}
use Rattle.spelling.proofs.Fields.{numbers_collected, field_next, collected, fields_left, collected_missing, collected_over, collected_all, collected_ill, collected_more, no_numbers, all_numbers_lem}
use Rattle.spelling.proofs.numbers_of.Goals as goal

pub returns-then-count-gt5 : goal.returns-then-count-gt5
unfolding few_numbers
returns-then-count-gt5 c = record { numbers_are = rw (lt-leb c.args.count 5 c.if-count-gt5.true); behind = tt }

pub loop-k-init : goal.loop-k-init
loop-k-init c =
    let e = c.split-fields.ensures in
    (refl, rw sub-zero (numbers_collected c.args.count c.args.text.now ∙ ap (collected [] c.args.count) (sym (ap (λ b. cond b [] (fields c.split-fields.result.rest.now)) e.done ∙ ap fields e.rest))), refl)

pub returns-in_err-next : goal.returns-in_err-next
returns-in_err-next c =
    let f = field_next _ _ _ _ c.next.ensures.steps (λ x b q k. search (rules, tests)) in
    let none : fields_left c.loop-k.fields ≡ [] = rw c.in_err-next.was at f in
    let n : c.args.count - c.loop-k.k ≡ suc (c.args.count - (c.loop-k.k + 1)) = omega arith in
    no_numbers _ _ _ (omega arith) c.from_residual.ensures (c.loop-k.invariant.1 ∙ rw (none, n) (collected_missing _ _))

pub returns-in_err-values : goal.returns-in_err-values
returns-in_err-values c =
    let f = field_next _ _ _ _ c.next.ensures.steps (λ x b q k. search (rules, tests)) in
    let one = rw c.in_ok-next.was at f in
    no_numbers _ _ _ (omega arith) c.from_residual-in_err-values.ensures
    (c.loop-k.invariant.1 ∙ rw one (collected_ill _ _ _ _ (sym c.number_of.ensures ∙ c.in_err-values.was)))

pub loop-k-preserved : goal.loop-k-preserved
loop-k-preserved c =
    let f = field_next _ _ _ _ c.next.ensures.steps (λ x b q k. search (rules, tests)) in
    let one = rw c.in_ok-next.was at f in
    let l = c.loop-k in
    let k : l.k < length l.values = omega arith in
    let n : c.args.count - l.k ≡ suc (c.args.count - (l.k + 1)) = omega arith in (
      simp length-set l.invariant.0,
      l.invariant.1 ∙ rw (one, n, add-one l.k, take-suc-set l.values l.k _ k) (collected_more _ _ _ _ _ (sym c.number_of.ensures ∙ c.in_ok-values.was)),
      drop-set-lt c.args.count l.values l.k _ (omega arith) ∙ l.invariant.2,
    )

pub returns-in-Some : goal.returns-in-Some
returns-in-Some c =
    let f = field_next _ _ _ _ c.next-2.ensures.steps (λ x b q k. search (rules, tests)) in
    let more = rw c.in-Some.is at f in
    let n : c.args.count - c.loop-k.k ≡ 0 = omega arith in
    no_numbers _ _ _ (omega arith) refl (c.loop-k.invariant.1 ∙ rw (more, n) (collected_over _ _ _))

pub returns-in-None : goal.returns-in-None
returns-in-None c =
    let f = field_next _ _ _ _ c.next-2.ensures.steps (λ x b q k. search (rules, tests)) in
    let none = rw c.in-None.is at f in
    let n : c.args.count - c.loop-k.k ≡ 0 = omega arith in
    let all : c.loop-k.k ≡ c.args.count = omega arith in
    all_numbers_lem _ _ _ (omega arith) (c.loop-k.invariant.1 ∙ rw (none, n, all) (collected_all _)) c.loop-k.invariant.2
