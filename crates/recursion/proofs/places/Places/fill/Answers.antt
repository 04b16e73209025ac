-- The list holds the places below k, and all entries below k are small where the struct says so.
use native.Mathlib.Numerals.{add-one}
use borrow.Author.Rules.{sfits_of}
use mir.Facts.{to_z-of_z}
use Rattle.recursion.proofs.ListedPlaces.{listed_noted, small_noted}
use Rattle.recursion.proofs.places.Places.fill.Goals as goal

pub loop-k-preserved : goal.loop-k-preserved
loop-k-preserved c =
    let l = c.loop-k in
    let n = rw (to_z-of_z (sfits_of c.note-arg-in-loop-k-1.given), add-one) at c.note.ensures in
    rw add-one (
      listed_noted c.args.t.d.now c.args.t.h.now l.k l.self.list.items _ l.self.small _ l.invariant.0 n,
      small_noted c.args.t.d.now c.args.t.h.now l.k l.self.list.items _ l.self.small _ l.invariant.0 n l.invariant.1,
    )
