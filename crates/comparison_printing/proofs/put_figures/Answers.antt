-- Three lines, the name before each.
use mathlib.Core.Path.{◌≡◌}
use mir.Syntax.{w64}
use mir.Val.{to_z, of_z}
use borrow.Author.Rules.{rules}
use Rattle.fund.specs.Base.{bytes}
use Rattle.writing.proofs.PieceLaws.{puts_then}
use Rattle.comparison_printing.specs.Lines.{signed_line, pointed_line, figure_lines}
use Rattle.comparison_printing.proofs.LineSizes.{figures_size}
use Rattle.comparison_printing.proofs.put_figures.Goals as goal

pub returns : goal.returns
unfolding figure_lines signed_line pointed_line bytes
returns c =
    let z = c.args.figures.premium in
    let same : to_z w64 (of_z w64 z) ≡ z = search rules in
    let premium = puts_then c.key.ensures (rw same at c.line.ensures) in record {
      puts = puts_then premium (puts_then (puts_then c.key-2.ensures c.line-2.ensures) (puts_then c.key-3.ensures c.line-3.ensures));
      in_room = figures_size c.args.name.now c.args.figures (search rules) (search rules) (search rules);
    }
