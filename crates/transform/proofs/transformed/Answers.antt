-- The slices are cleared; where the tests pass, the table fills them.
use Rattle.std.proofs.Common.{◌≡◌, rules, ℕ, pos, length, replicate}
use Rattle.transform.specs.Transformed.{lengths_of}
use Rattle.transform.proofs.FilledTransform.{refused_transform, table_fits, filled_transform}
use Rattle.transform.proofs.transformed.Goals as goal

pub returns-in-Err : goal.returns-in-Err
returns-in-Err c =
    let a = c.args in
    let d : c.fill.new.self ≡ replicate (length a.transform.now) (pos 0) = search rules in
    let h : c.fill-2.new.self ≡ replicate {A = ℕ} (length a.h.now) 0 = search rules in
    rw (d, h)
    (refused_transform a.fund (length a.points.now) a.points.now _ c.first_totals-totals.ensures (lengths_of a.transform.now a.h.now a.f a.r a.sums) _ c.in-Err.ensures)

pub fill_transform-requires : goal.fill_transform-requires
fill_transform-requires c =
    let a = c.args in
    let d : c.fill.new.self ≡ replicate (length a.transform.now) (pos 0) = search rules in
    let h : c.fill-2.new.self ≡ replicate {A = ℕ} (length a.h.now) 0 = search rules in
    rw (d, h)
    (table_fits a.fund (length a.points.now) a.points.now _ c.first_totals-totals.ensures (lengths_of a.transform.now a.h.now a.f a.r a.sums) _ c.in-Ok.ensures)

pub returns : goal.returns
returns c =
    let a = c.args in
    let d : c.fill.new.self ≡ replicate (length a.transform.now) (pos 0) = search rules in
    let h : c.fill-2.new.self ≡ replicate {A = ℕ} (length a.h.now) 0 = search rules in
    filled_transform a.fund (length a.points.now) a.points.now _ c.first_totals-totals.ensures (lengths_of a.transform.now a.h.now a.f a.r a.sums) _ c.in-Ok.ensures _ _
    (rw (d, h) at c.fill_transform.ensures)
