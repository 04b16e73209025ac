-- Where there is a line, it is small, and stands behind the header lines and the rate lines of each file.
use Rattle.std.proofs.Common.{arith, ◌≡◌, refl, sym, ◌∙◌, ap, ap₂, List, ℕ, ◌+◌, ◌<◌, ◌≤◌, length, take, length-take, Some}
use Rattle.std.specs.Prelude.{option_map}
use Rattle.fund.specs.declared.Rate.{Rate}
use Rattle.fund.specs.Limits.{most_rates, most_members}
use Rattle.fund.specs.Reading.{FundFile, header_lines}
use Rattle.moves.specs.Differences.{in_both, member_difference, member_line, file_in}
use Rattle.moves.proofs.Lines.{first_between, line_is}
use Rattle.moves.proofs.files.first_member.Goals as goal
use Rattle.moves.proofs.files.first_member.Goals.{In_ok-member, After-first_member_line}

-- what the search answered
found : (c : After-first_member_line) → option_map (in_both (file_in c.args.old) (file_in c.args.new)) c.first_member_line.result ≡ member_difference (file_in c.args.old) (file_in c.args.new)
unfolding member_difference file_in
found c = rw (c.first_member_line.ensures, c.first-old_members.ensures, c.first-new_members.ensures) refl

cut : {A : Type 0} (n : ℕ) {xs : List A} (ys : List A) → xs ≡ take n ys → length xs ≤ n
cut n ys e = let k = ap length e in omega (arith, k, length-take n ys)

small : (c : In_ok-member) → (0 < c.in_ok-member.member) × (c.in_ok-member.member ≤ 1 + most_members + most_members)
small c =
    let k = first_between 1 _ _ _ (sym c.in_ok-member.ensures) in
    (omega (arith, k), omega (arith, k, cut most_members _ c.first-old_members.ensures, cut most_members _ c.first-new_members.ensures))

pub returns-in_err-member : goal.returns-in_err-member
returns-in_err-member c = c.from_residual.ensures ∙ ap (option_map (in_both (file_in c.args.old) (file_in c.args.new))) (sym c.in_err-member.was) ∙ found (goal.at.returns-in_err-member c).After-first_member_line

pub overflow_add-before : goal.overflow_add-before
overflow_add-before c = omega (arith, small (goal.at.overflow_add-before c).In_ok-member)

pub overflow_add-result : goal.overflow_add-result
overflow_add-result c = omega (arith, small (goal.at.overflow_add-result c).In_ok-member, cut most_rates _ c.first.ensures)

pub overflow_add-result-2 : goal.overflow_add-result-2
overflow_add-result-2 c = omega (arith, small (goal.at.overflow_add-result-2 c).In_ok-member, cut most_rates _ c.first-2.ensures)

line : (rates : List Rate) (k n : ℕ) → 0 < k → n ≡ length rates → (file : FundFile) → file.rates ≡ rates → 7 + k + n ≡ member_line file k
unfolding header_lines
line rates k n h e file r = let l = line_is file k h in omega (arith, l, e, ap length r)

pub returns : goal.returns
unfolding file_in
returns c =
    let k = c.in_ok-member.member in
    let old = line _ k _ (small (goal.at.returns c).In_ok-member).0 refl (file_in c.args.old) (sym c.first.ensures) in
    let new = line _ k _ (small (goal.at.returns c).In_ok-member).0 refl (file_in c.args.new) (sym c.first-2.ensures) in
    ap₂ (λ m n. Some (record { member = k; old_line = m; new_line = n })) old new
    ∙ ap (option_map (in_both (file_in c.args.old) (file_in c.args.new))) (sym c.in_ok-member.was) ∙ found (goal.at.returns c).After-first_member_line
