-- The list holds the places below k, and all entries below k are small where the struct says so.
use mathlib.Core.Path.{◌≡◌}
use mathlib.Core.Bool.{true}
use Rattle.recursion.specs.Places.{Listed, AllSmall}
use Rattle.recursion.proofs.places.Places.fill.Given as goal

abbrev pub invariant-loop-k : goal.invariant-loop-k
invariant-loop-k l =
    Listed l.k l.t.d.now l.t.h.now l.self.list.items × (l.self.small ≡ true → AllSmall l.k l.t.d.now l.t.h.now)
