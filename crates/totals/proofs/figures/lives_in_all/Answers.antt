-- Each life counts one.
use mathlib.Core.Path.{◌∙◌, ap}
use Prim.Native.Nat.{min}
use Rattle.totals.proofs.TableTotals.{all_taken, lives_are}
use Rattle.totals.proofs.figures.lives_in_all.Goals as goal

pub total-requires : goal.total-requires
total-requires c = all_taken c.args.points.now

pub returns : goal.returns
returns c = c.total.ensures ∙ ap (λ n. min n c.args.most) (lives_are c.args.points.now)
