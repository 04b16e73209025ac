-- That nothing else differs, or the lines of what does.
use mathlib.Core.Path.{sym, ◌∙◌}
use native.Mathlib.Omega.{arith}
use lib.ListN.{length-append}
use Rattle.fund.specs.Base.{bytes}
use Rattle.writing.proofs.PieceLaws.{puts_then}
use Rattle.comparison_printing.specs.Lines.{other_header, other_member, other_lines}
use Rattle.comparison_printing.proofs.put_other.Goals as goal

pub returns-then-is_nothing : goal.returns-then-is_nothing
unfolding other_lines bytes
returns-then-is_nothing c =
    let e = sym c.is_nothing.ensures ∙ c.if-is_nothing.true in
    record { puts = rw e c.key.ensures; in_room = rw e (omega arith) }

pub returns : goal.returns
unfolding other_lines
returns c =
    let d = c.args.differences in
    let e = sym c.is_nothing.ensures ∙ c.if-is_nothing.false in
    let header = c.put_other_header.ensures in
    let member = c.put_other_member.ensures in
    record {
      puts = rw e (puts_then header.puts member.puts);
      in_room = rw (e, length-append (other_header d.header) (other_member d.member)) (omega (arith, header.in_room, member.in_room));
    }
