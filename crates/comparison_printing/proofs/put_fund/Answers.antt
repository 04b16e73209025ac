-- The figures of a fund that is accepted, or its refusal.
use mathlib.Core.Path.{ap}
use native.Mathlib.Omega.{arith}
use lib.ListN.{length-append}
use borrow.Author.Rules.{rules}
use Rattle.comparison_printing.specs.Printed.{priced_lines}
use Rattle.writing.proofs.NumberSizes.{refusal_length}
use Rattle.writing.proofs.PieceLaws.{puts_as, puts_then}
use Rattle.comparison_printing.proofs.put_fund.Goals as goal

pub returns-in-Ok : goal.returns-in-Ok
unfolding priced_lines
returns-in-Ok c =
    let e = ap (priced_lines c.args.name.now) c.in-Ok.is in
    record { puts = puts_as _ e c.put_figures.ensures.puts; in_room = rw e c.put_figures.ensures.in_room }

pub returns-in-Err : goal.returns-in-Err
unfolding priced_lines
returns-in-Err c =
    let e = ap (priced_lines c.args.name.now) c.in-Err.is in
    let r = c.in-Err.stop.refused in
    record { puts = puts_as _ e (puts_then c.key.ensures c.print.ensures); in_room = rw (e, length-append) (omega (arith, refusal_length r.why r.place (search rules))) }
