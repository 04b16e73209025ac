-- The keys go by whether the rates alone differ.
use mathlib.Core.Path.{◌≡◌}
use mir.Syntax.{w64}
use mir.Val.{to_z, of_z}
use borrow.Author.Rules.{rules}
use Rattle.fund.specs.Base.{bytes}
use Rattle.writing.proofs.PieceLaws.{puts_then}
use Rattle.comparison_printing.specs.Lines.{signed_line, interval_line, interval_lines}
use Rattle.comparison_printing.proofs.LineSizes.{intervals_size}
use Rattle.comparison_printing.proofs.put_intervals.Goals as goal
use Rattle.comparison_printing.proofs.put_intervals.Goals.{then-rates_alone, else-rates_alone}

pub returns : goal.returns
unfolding interval_lines interval_line signed_line bytes
returns c =
    let m = c.args.m in
    let least : to_z w64 (of_z w64 m.least) ≡ m.least = search rules in
    let most : to_z w64 (of_z w64 m.most) ≡ m.most = search rules in
    let gross : to_z w64 (of_z w64 m.gross) ≡ m.gross = search rules in
    let gross_least : to_z w64 (of_z w64 m.gross_least) ≡ m.gross_least = search rules in
    let gross_most : to_z w64 (of_z w64 m.gross_most) ≡ m.gross_most = search rules in
    let first = rw (least, most) at c.put_interval.ensures in
    let second = rw gross at c.line.ensures in
    let third = rw (gross_least, gross_most) at c.put_interval-2.ensures in record {
      puts = elim c.if-rates_alone.branch [
        | then-rates_alone w ↦ rw w.if-rates_alone.true (puts_then (rw w.key-is at first) (puts_then second (puts_then c.key.ensures (rw w.key-is at third))))
        | else-rates_alone w ↦ rw w.if-rates_alone.false (puts_then (rw w.key-is at first) (puts_then second (puts_then c.key.ensures (rw w.key-is at third))))
      ];
      in_room = intervals_size c.args.rates_alone m (search rules) (search rules) (search rules) (search rules) (search rules);
    }
