-- `lines::part::line_at`: the line behind so many others is the next one.
use Rattle.std.proofs.Common.{◌≡◌, refl, ap, ◌∙◌, arith}
use Rattle.fund.specs.Answer.{line_at}
use Rattle.lines.specs.Lines.{line_of}
use Rattle.lines.proofs.Lines.{line_there, line_missing, passed_next, passed_none}
use Rattle.lines.proofs.Parts.{spans_none, spans_there}
use Rattle.lines.proofs.part.line_at.Goals as goal

pub loop-k-init : goal.loop-k-init
loop-k-init c = (refl, passed_none c.args.file.now, omega arith)

pub returns-in_default : goal.returns-in_default
returns-in_default c =
    let i = c.loop-k.invariant in
    let t = rw i.0 at c.in_default.ensures.line in
    spans_none _ _ (line_missing _ _ _ i.1 c.args.place c.loop-k-test.true t)

pub overflow_add-result : goal.overflow_add-result
overflow_add-result c =
    let t = rw c.loop-k.invariant.0 at c.in-Some.ensures.line in
    omega (arith, t.ends, t.inside)

pub returns-then-k-place : goal.returns-then-k-place
returns-then-k-place c =
    let i = c.loop-k.invariant in
    let t = rw i.0 at c.in-Some.ensures.line in
    spans_there _ (line_of c.in-Some.line) _ (omega (arith, t.ends, t.inside)) (line_there _ _ _ i.1 _ _ t ∙ ap (line_at c.args.file.now) c.if-k-place.true)

pub loop-k-preserved : goal.loop-k-preserved
loop-k-preserved c =
    let i = c.loop-k.invariant in
    (ap (λ b. b.now) c.next_line.ensures.file ∙ i.0, passed_next _ _ _ i.1 _ _ (rw i.0 at c.in-Some.ensures.line), omega arith)

pub returns : goal.returns
unfolding line_at
returns c =
    let none : c.args.place ≡ 0 = omega (arith, c.loop-k.invariant.2) in
    spans_none _ _ (rw none)
