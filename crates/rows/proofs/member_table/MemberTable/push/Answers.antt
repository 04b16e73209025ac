-- `rows::member_table::MemberTable::push`: the row stands behind the others, and blanks behind it.
use Rattle.std.proofs.Common.{◌<◌, ap, arith, length, length-take-le}
use Rattle.fund.specs.declared.Member.{Member}
use Rattle.fund.specs.Limits.{most_members}
use Rattle.laws.specs.Rows.{blank_member}
use Rattle.rows.specs.Table.{Table}
use Rattle.rows.proofs.Tables.{pushed_length, pushed_padded}
use Rattle.rows.proofs.member_table.MemberTable.push.Goals as goal

pub invariant_of-self : goal.invariant_of-self
invariant_of-self c =
    let s = c.self.inside in
    let i = c.self.invariant in
    let room : s.count < most_members = omega (arith, c.requires, ap (λ (t : Table Member). length t.items) c.self.view_is, length-take-le s.count s.rows i.0) in
    let sized = pushed_length blank_member c.args.row most_members s.count s.rows i.0 i.2 room in
    (omega (arith, sized, room), sized, pushed_padded blank_member c.args.row most_members s.count s.rows i.0 i.2 room)
