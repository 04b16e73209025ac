-- A recursion that is not done met a wide cell; else the cells stand, and the sums and the figures are the fund's.
use mathlib.Core.Path.{◌≡◌, ap, ◌∙◌}
use Prim.Native.Nat.{ℕ}
use lib.IntN.{pos}
use lib.ListN.{length, replicate}
use mir.Syntax.{w64}
use mir.Val.{to_z, of_z}
use Rattle.std.proofs.Common.{rules}
use Rattle.std.specs.Prelude.{unwrap_or}
use Rattle.valuation.specs.Steps.{ReadyFor}
use Rattle.valuation.proofs.SettledCells.{answers_wide, Stands, stands, below_deductible, sums_fit, answers_accepted}
use Rattle.valuation.proofs.settled.Goals as goal
use Rattle.valuation.proofs.settled.Goals.{In_default}

pub returns-in-Err : goal.returns-in-Err
returns-in-Err c count ps k =
    let a = c.args in
    let left = rw c.in-Err.is at c.requires.left_is in
    let d : c.fill.new.self ≡ replicate (length a.transform.now) (pos 0) = search rules in
    let h : c.fill-in-Err.new.self ≡ replicate {A = ℕ} (length a.h.now) 0 = search rules in
    let s : c.fill-in-Err-2.new.self ≡ replicate (length a.sums.now) (pos 0) = search rules in
    answers_wide a.fund count ps a.t a.transform.now a.h.now a.f.now a.r.now (length a.sums.now) k c.in-Err.limit left c.refusal.result _ _ _ c.refusal.ensures d h s

-- the cells stand, for every table of which this is known
standing : (c : In_default) (count : _) (ps : _) →
    let a = c.args in
    (k : ReadyFor a.fund count ps a.t a.transform.now a.h.now (length a.f.now) (length a.r.now) (length a.sums.now)) →
    Stands a.fund count ps a.t a.transform.now a.h.now a.f.now a.r.now (length a.sums.now) k
standing c count ps k =
    let a = c.args in
    stands a.fund count ps a.t a.transform.now a.h.now a.f.now a.r.now (length a.sums.now) k (rw c.in_default.is at c.requires.left_is)

pub running_sums-requires : goal.running_sums-requires
running_sums-requires c =
    let a = c.args in
    let k = c.requires.ready.ready in
    sums_fit a.fund c.requires.ready.count c.requires.ready.ps a.t a.transform.now a.h.now a.f.now a.r.now (length a.sums.now) k (standing (goal.at.running_sums-requires c).In_default _ _ k)

pub premium-priced-requires-clause-cells : goal.premium-priced-requires-clause-cells
premium-priced-requires-clause-cells c =
    let a = c.args in
    let k = c.requires.ready.ready in
    below_deductible a.fund c.requires.ready.count c.requires.ready.ps a.t a.transform.now a.h.now a.f.now a.r.now (length a.sums.now) k (standing (goal.at.premium-priced-requires-clause-cells c).In_default _ _ k)

pub returns : goal.returns
returns c count ps k =
    let a = c.args in
    let same : to_z w64 (of_z w64 c.premium-priced.result.premium) ≡ c.premium-priced.result.premium = search rules in
    answers_accepted a.fund count ps a.t a.transform.now a.h.now a.f.now a.r.now (length a.sums.now) k (standing (goal.at.returns c).In_default count ps k) _ c.premium-priced.result _ _ c.premium-priced.ensures
    same
    (c.unwrap_or.ensures ∙ ap (λ o. unwrap_or o 0) (rw same at c.gross_premium-gross.ensures))
    c.running_sums.ensures
