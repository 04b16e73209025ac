-- What the lives of group 1 of a table in its ranges add is below the cap.
use mathlib.Core.Path.{◌∙◌, ap}
use Prim.Native.Nat.{◌+◌}
use native.Mathlib.Omega.{arith}
use Rattle.totals.proofs.TableTotals.{singles_is}
use Rattle.totals.proofs.figures.load.Goals as goal

pub total-requires : goal.total-requires
total-requires c = c.requires.0.in_range

pub overflow_add-result : goal.overflow_add-result
overflow_add-result c = omega (arith, c.total.ensures, c.requires.1)

pub returns : goal.returns
returns c = ap (λ k. c.args.lambda + k) (c.total.ensures ∙ singles_is c.args.points.now c.requires.0)
