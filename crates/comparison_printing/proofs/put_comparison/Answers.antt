-- The move and its bound, the intervals, and what else differs; or nothing.
use mathlib.Core.Path.{◌≡◌, ap}
use native.Mathlib.Omega.{arith}
use lib.ListN.{length-append}
use mir.Syntax.{w64}
use mir.Val.{to_z, of_z}
use borrow.Author.Rules.{rules}
use Rattle.fund.specs.Base.{bytes}
use Rattle.writing.proofs.PieceLaws.{puts_none, puts_then, puts_as}
use Rattle.comparison_printing.specs.Lines.{signed_line, pointed_line, move_lines}
use Rattle.comparison_printing.proofs.LineSizes.{units_size, signed_units_size}
use Rattle.comparison_printing.proofs.put_comparison.Goals as goal

pub returns-in_default : goal.returns-in_default
unfolding move_lines
returns-in_default c =
    let e = ap move_lines c.in_default.is in
    record { puts = puts_as _ e (puts_none _); in_room = rw e (omega arith) }

pub returns : goal.returns
unfolding move_lines signed_line pointed_line bytes
returns c =
    let m = c.in-Some.field-0.moved in
    let e = ap move_lines c.in-Some.is in
    let same : to_z w64 (of_z w64 m.premium) ≡ m.premium = search rules in
    let intervals = rw c.is_nothing.ensures at c.put_intervals.ensures in
    let other = c.put_other.ensures in
    let move_small = signed_units_size (bytes "move=") m.premium (search rules) in
    let arithmetic_small = units_size (bytes "arithmetic=") m.arithmetic (search rules) in record {
      puts = puts_as _ e (puts_then (rw same at c.line.ensures) (puts_then c.line-2.ensures (puts_then intervals.puts other.puts)));
      in_room = rw e (simp length-append (omega (arith, move_small, arithmetic_small, intervals.in_room, other.in_room)));
    }
