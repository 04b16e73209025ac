-- The lines that both iterators give next are compared; where one has ended, the lists' lengths decide.
use Rattle.std.proofs.Common.{arith, ◌≡◌, refl, sym, ◌∙◌, ap, ◌+◌, suc, length, Bool, true, false, Some, true≢false, inl, inr}
use Rattle.std.specs.Prelude.{not}
use Rattle.moves.specs.Differences.{first_member_line, same_member}
use Rattle.moves.proofs.Lines.{alike, unlike, both_ended, one_ended, other_ended}
use Rattle.moves.proofs.files.first_member_line.Goals as goal
use Rattle.moves.proofs.files.first_member_line.Goals.{After-min}

other : {b : Bool} → not b ≡ true → b ≡ false
other {b = true} e = absurd (true≢false (sym e))
other {b = false} e = refl

same : {b : Bool} → not b ≡ false → b ≡ true
same {b = true} e = refl
same {b = false} e = absurd (true≢false e)

pub returns-then-ne : goal.returns-then-ne
unfolding same_member
returns-then-ne c =
    let s = c.in-Some.ensures.steps in
    let k : suc c.loop-k.k-iterator.count ≡ c.in-Some.k + 1 = omega (arith, s.1) in
    ap Some (sym k) ∙ sym (c.loop-k.invariant.0 ∙ unlike _ s.0.0 s.0.1 (other (sym c.ne.ensures ∙ c.if-ne.true)))

pub loop-k-preserved : goal.loop-k-preserved
unfolding same_member
loop-k-preserved c =
    let s = c.in-Some.ensures.steps in
    let i = c.loop-k.invariant in
    let k : suc (suc c.loop-k.k-iterator.count) ≡ suc c.next.new.self.count = omega (arith, s.2) in
    let a : length c.loop-k.k-iterator.iter.a.rest.now ≡ suc (length c.next.new.self.iter.a.rest.now) = ap length s.0.0 in
    let b : length c.loop-k.k-iterator.iter.b.rest.now ≡ suc (length c.next.new.self.iter.b.rest.now) = ap length s.0.1 in (
      i.0 ∙ alike _ s.0.0 s.0.1 (same (sym c.ne.ensures ∙ c.if-ne.false)) ∙ ap (λ n. first_member_line n c.next.new.self.iter.a.rest.now c.next.new.self.iter.b.rest.now) k,
      omega (arith, i.1, a, s.2),
      omega (arith, i.2, b, s.2),
    )

pub returns-then-old-new : goal.returns-then-old-new
returns-then-old-new c =
    let s = c.in-None.ensures.steps in
    let i = c.loop-k.invariant in
    sym (i.0 ∙ both_ended _ _ _ (grind (arith, s.0, i.1, i.2, c.if-old-new.true)) (grind (arith, s.0, i.1, i.2, c.if-old-new.true)))

ended : (c : After-min) →
    let k = c.loop-k.k-iterator in
    first_member_line (suc k.count) k.iter.a.rest.now k.iter.b.rest.now ≡ Some (suc k.count)
ended c =
    let s = c.in-None.ensures.steps in
    let i = c.loop-k.invariant in
    elim s.0 [
      | inl a ↦ one_ended _ _ _ (a.1.0, omega (arith, a.1.0, i.1, i.2, c.if-old-new.false))
      | inr b ↦ other_ended _ _ _ (omega (arith, b.1.0, i.1, i.2, c.if-old-new.false), b.1.0)
    ]

pub returns : goal.returns
returns c =
    let s = c.in-None.ensures.steps in
    let i = c.loop-k.invariant in
    let n : suc c.loop-k.k-iterator.count ≡ c.min.result + 1 = grind (arith, s.0, i.1, i.2, c.min.ensures) in
    ap Some (sym n) ∙ sym (i.0 ∙ ended c)
