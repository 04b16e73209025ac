-- `rows::so_far::RowsSoFar::add_member`: the test of a member row is the definition's; what is in range has its place.
use Rattle.std.proofs.Common.{◌∙◌, ap, ◌+◌, arith}
use Rattle.laws.specs.Ranges.{lives_more, member_ok}
use Rattle.rows.proofs.InRange.{member_tested}
use Rattle.rows.proofs.so_far.RowsSoFar.add_member.Goals as goal

pub returns-then-not-member_in_range-clause-answer : goal.returns-then-not-member_in_range-clause-answer
returns-then-not-member_in_range-clause-answer c =
    let s = c.args.self.now in
    rw (member_tested s.members.items c.args.m c.len.ensures.value s.lives_are c.member_in_range.ensures ∙ c.if-not-member_in_range.true) c.out_of_range.ensures

pub returns-then-not-member_in_range-clause-members : goal.returns-then-not-member_in_range-clause-members
returns-then-not-member_in_range-clause-members c =
    let s = c.args.self.now in
    rw (member_tested s.members.items c.args.m c.len.ensures.value s.lives_are c.member_in_range.ensures ∙ c.if-not-member_in_range.true)

pub push-requires : goal.push-requires
push-requires c =
    let s = c.args.self.now in
    let ok = member_ok s.members.items c.args.m (member_tested s.members.items c.args.m c.len.ensures.value s.lives_are c.member_in_range.ensures ∙ c.if-not-member_in_range.false) in
    ok.0

pub overflow_add-self : goal.overflow_add-self
overflow_add-self c =
    let s = c.args.self.now in
    let ok = member_ok s.members.items c.args.m (member_tested s.members.items c.args.m c.len.ensures.value s.lives_are c.member_in_range.ensures ∙ c.if-not-member_in_range.false) in
    omega (arith, ok.1.0, s.lives_are)

pub invariant_of-self : goal.invariant_of-self
invariant_of-self c =
    let s = c.args.self.now in
    record { least_is = s.least_is; lives_are = rw c.push.ensures.items (lives_more s.members.items c.args.m ∙ ap (λ n. n + c.args.m.lives) s.lives_are) }

pub returns-clause-answer : goal.returns-clause-answer
returns-clause-answer c =
    let s = c.args.self.now in
    rw (member_tested s.members.items c.args.m c.len.ensures.value s.lives_are c.member_in_range.ensures ∙ c.if-not-member_in_range.false)

pub returns-clause-members : goal.returns-clause-members
returns-clause-members c =
    let s = c.args.self.now in
    rw (member_tested s.members.items c.args.m c.len.ensures.value s.lives_are c.member_in_range.ensures ∙ c.if-not-member_in_range.false) c.push.ensures.items
