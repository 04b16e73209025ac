-- Both ways add what one k adds.
use mir.Facts.{to_z-of_z}
use Rattle.recursion.proofs.products.add.Goals as goal

pub add_small-requires : goal.add_small-requires
add_small-requires c =
    let s = c in
    rw (to_z-of_z s.ranges.d, to_z-of_z s.ranges.f) (record { sums_fit = s.requires.sums_fit; small_entry = s.requires.small_entry c.if-small.true })

pub returns-then-small : goal.returns-then-small
returns-then-small c =
    let s = c in
    rw (to_z-of_z s.ranges.d, to_z-of_z s.ranges.f) at c.add_small.ensures

pub add_wide-requires : goal.add_wide-requires
add_wide-requires c =
    let s = c in
    rw (to_z-of_z s.ranges.d, to_z-of_z s.ranges.f) s.requires.sums_fit

pub returns : goal.returns
returns c =
    let s = c in
    rw (to_z-of_z s.ranges.d, to_z-of_z s.ranges.f) at c.add_wide.ensures
