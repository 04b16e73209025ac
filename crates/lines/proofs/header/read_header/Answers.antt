-- `lines::header::read_header`: each header line in its turn.
use Rattle.std.proofs.Common.{ap, arith}
use Rattle.std.proofs.lemmas.Result.{err_from_is_err_and}
use denote.Ref.{Bor}
use Rattle.std.proofs.Common.{ℕ, List}
use Rattle.fund.specs.Base.{bytes}
use Rattle.fund.specs.Reading.{header_lines, header_of}
use Rattle.lines.proofs.Headers.{start, stopped_at, more_numbers, one_number, two_numbers, whole}
use Rattle.lines.proofs.header.read_header.Goals as goal

pub returns-in_err-rates : goal.returns-in_err-rates
unfolding header_lines bytes
returns-in_err-rates c =
    let l0 = start c.args.text.now in
    let p = err_from_is_err_and c.from_residual.result c.from_residual.ensures.1 in
    rw (p.1, p.2) (stopped_at l0 c.in_err-rates.ensures.step)

pub returns-in_err-members : goal.returns-in_err-members
unfolding header_lines bytes
returns-in_err-members c =
    let l0 = start c.args.text.now in
    let l1 = more_numbers l0 c.in_ok-rates.ensures.step (ap (λ (b : Bor (List ℕ)). b.now) c.in_ok-rates.ensures.file) (one_number _ (omega arith)) in
    let p = err_from_is_err_and c.from_residual-in_err-members.result c.from_residual-in_err-members.ensures.1 in
    rw (p.1, p.2) (stopped_at l1 c.in_err-members.ensures.step)

pub returns-in_err-horizon : goal.returns-in_err-horizon
unfolding header_lines bytes
returns-in_err-horizon c =
    let l0 = start c.args.text.now in
    let l1 = more_numbers l0 c.in_ok-rates.ensures.step (ap (λ (b : Bor (List ℕ)). b.now) c.in_ok-rates.ensures.file) (one_number _ (omega arith)) in
    let l2 = more_numbers l1 c.in_ok-members.ensures.step (ap (λ (b : Bor (List ℕ)). b.now) c.in_ok-members.ensures.file) (one_number _ (omega arith)) in
    let p = err_from_is_err_and c.from_residual-in_err-horizon.result c.from_residual-in_err-horizon.ensures.1 in
    rw (p.1, p.2) (stopped_at l2 c.in_err-horizon.ensures.step)

pub returns-in_err-order : goal.returns-in_err-order
unfolding header_lines bytes
returns-in_err-order c =
    let l0 = start c.args.text.now in
    let l1 = more_numbers l0 c.in_ok-rates.ensures.step (ap (λ (b : Bor (List ℕ)). b.now) c.in_ok-rates.ensures.file) (one_number _ (omega arith)) in
    let l2 = more_numbers l1 c.in_ok-members.ensures.step (ap (λ (b : Bor (List ℕ)). b.now) c.in_ok-members.ensures.file) (one_number _ (omega arith)) in
    let l3 = more_numbers l2 c.in_ok-horizon.ensures.step (ap (λ (b : Bor (List ℕ)). b.now) c.in_ok-horizon.ensures.file) (one_number _ (omega arith)) in
    let p = err_from_is_err_and c.from_residual-in_err-order.result c.from_residual-in_err-order.ensures.1 in
    rw (p.1, p.2) (stopped_at l3 c.in_err-order.ensures.step)

pub returns-in_err-death : goal.returns-in_err-death
unfolding header_lines bytes
returns-in_err-death c =
    let l0 = start c.args.text.now in
    let l1 = more_numbers l0 c.in_ok-rates.ensures.step (ap (λ (b : Bor (List ℕ)). b.now) c.in_ok-rates.ensures.file) (one_number _ (omega arith)) in
    let l2 = more_numbers l1 c.in_ok-members.ensures.step (ap (λ (b : Bor (List ℕ)). b.now) c.in_ok-members.ensures.file) (one_number _ (omega arith)) in
    let l3 = more_numbers l2 c.in_ok-horizon.ensures.step (ap (λ (b : Bor (List ℕ)). b.now) c.in_ok-horizon.ensures.file) (one_number _ (omega arith)) in
    let l4 = more_numbers l3 c.in_ok-order.ensures.step (ap (λ (b : Bor (List ℕ)). b.now) c.in_ok-order.ensures.file) (one_number _ (omega arith)) in
    let p = err_from_is_err_and c.from_residual-in_err-death.result c.from_residual-in_err-death.ensures.1 in
    rw (p.1, p.2) (stopped_at l4 c.in_err-death.ensures.step)

pub returns-in_err-deductible : goal.returns-in_err-deductible
unfolding header_lines bytes
returns-in_err-deductible c =
    let l0 = start c.args.text.now in
    let l1 = more_numbers l0 c.in_ok-rates.ensures.step (ap (λ (b : Bor (List ℕ)). b.now) c.in_ok-rates.ensures.file) (one_number _ (omega arith)) in
    let l2 = more_numbers l1 c.in_ok-members.ensures.step (ap (λ (b : Bor (List ℕ)). b.now) c.in_ok-members.ensures.file) (one_number _ (omega arith)) in
    let l3 = more_numbers l2 c.in_ok-horizon.ensures.step (ap (λ (b : Bor (List ℕ)). b.now) c.in_ok-horizon.ensures.file) (one_number _ (omega arith)) in
    let l4 = more_numbers l3 c.in_ok-order.ensures.step (ap (λ (b : Bor (List ℕ)). b.now) c.in_ok-order.ensures.file) (one_number _ (omega arith)) in
    let l5 = more_numbers l4 c.in_ok-death.ensures.step (ap (λ (b : Bor (List ℕ)). b.now) c.in_ok-death.ensures.file) (two_numbers _ (omega arith)) in
    let p = err_from_is_err_and c.from_residual-in_err-deductible.result c.from_residual-in_err-deductible.ensures.1 in
    rw (p.1, p.2) (stopped_at l5 c.in_err-deductible.ensures.step)

pub returns-in_err-worth : goal.returns-in_err-worth
unfolding header_lines bytes
returns-in_err-worth c =
    let l0 = start c.args.text.now in
    let l1 = more_numbers l0 c.in_ok-rates.ensures.step (ap (λ (b : Bor (List ℕ)). b.now) c.in_ok-rates.ensures.file) (one_number _ (omega arith)) in
    let l2 = more_numbers l1 c.in_ok-members.ensures.step (ap (λ (b : Bor (List ℕ)). b.now) c.in_ok-members.ensures.file) (one_number _ (omega arith)) in
    let l3 = more_numbers l2 c.in_ok-horizon.ensures.step (ap (λ (b : Bor (List ℕ)). b.now) c.in_ok-horizon.ensures.file) (one_number _ (omega arith)) in
    let l4 = more_numbers l3 c.in_ok-order.ensures.step (ap (λ (b : Bor (List ℕ)). b.now) c.in_ok-order.ensures.file) (one_number _ (omega arith)) in
    let l5 = more_numbers l4 c.in_ok-death.ensures.step (ap (λ (b : Bor (List ℕ)). b.now) c.in_ok-death.ensures.file) (two_numbers _ (omega arith)) in
    let l6 = more_numbers l5 c.in_ok-deductible.ensures.step (ap (λ (b : Bor (List ℕ)). b.now) c.in_ok-deductible.ensures.file) (one_number _ (omega arith)) in
    let p = err_from_is_err_and c.from_residual-in_err-worth.result c.from_residual-in_err-worth.ensures.1 in
    rw (p.1, p.2) (stopped_at l6 c.in_err-worth.ensures.step)

pub returns : goal.returns
unfolding header_lines header_of bytes
returns c =
    let l0 = start c.args.text.now in
    let l1 = more_numbers l0 c.in_ok-rates.ensures.step (ap (λ (b : Bor (List ℕ)). b.now) c.in_ok-rates.ensures.file) (one_number _ (omega arith)) in
    let l2 = more_numbers l1 c.in_ok-members.ensures.step (ap (λ (b : Bor (List ℕ)). b.now) c.in_ok-members.ensures.file) (one_number _ (omega arith)) in
    let l3 = more_numbers l2 c.in_ok-horizon.ensures.step (ap (λ (b : Bor (List ℕ)). b.now) c.in_ok-horizon.ensures.file) (one_number _ (omega arith)) in
    let l4 = more_numbers l3 c.in_ok-order.ensures.step (ap (λ (b : Bor (List ℕ)). b.now) c.in_ok-order.ensures.file) (one_number _ (omega arith)) in
    let l5 = more_numbers l4 c.in_ok-death.ensures.step (ap (λ (b : Bor (List ℕ)). b.now) c.in_ok-death.ensures.file) (two_numbers _ (omega arith)) in
    let l6 = more_numbers l5 c.in_ok-deductible.ensures.step (ap (λ (b : Bor (List ℕ)). b.now) c.in_ok-deductible.ensures.file) (one_number _ (omega arith)) in
    let l7 = more_numbers l6 c.in_ok-worth.ensures.step (ap (λ (b : Bor (List ℕ)). b.now) c.in_ok-worth.ensures.file) (one_number _ (omega arith)) in
    whole l7 (omega (arith, c.in_ok-rates.ensures.step.behind.1, c.in_ok-members.ensures.step.behind.1, c.in_ok-horizon.ensures.step.behind.1, c.in_ok-order.ensures.step.behind.1, c.in_ok-death.ensures.step.behind.1, c.in_ok-deductible.ensures.step.behind.1, c.in_ok-worth.ensures.step.behind.1)) (ap (λ (b : Bor (List ℕ)). b.now) c.in_ok-worth.ensures.file) c.in_ok-worth.ensures.step.behind.0
