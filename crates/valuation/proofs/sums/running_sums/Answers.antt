-- The slice is cleared, then its front is filled.
use mathlib.Core.Path.{◌≡◌}
use lib.IntN.{pos}
use lib.ListN.{length, replicate}
use Rattle.std.proofs.Common.{rules}
use Rattle.laws.specs.Slices.{fronted}
use Rattle.valuation.proofs.sums.running_sums.Goals as goal

pub returns : goal.returns
returns c =
    let z : c.fill.new.self ≡ replicate (length c.args.sums.now) (pos 0) = search rules in
    fronted (pos 0) _ _ _ _ (rw z at c.fill_sums.ensures)
