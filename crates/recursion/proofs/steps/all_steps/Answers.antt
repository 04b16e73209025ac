-- The start stands in its cells, so that the steps are those from it.
use mathlib.Core.Path.{◌≡◌, sym, ap, ap₂, ◌∙◌, subst}
use native.Mathlib.Omega.{arith}
use lib.ListN.{length}
use Rattle.laws.specs.Cells.{cell_at}
use Rattle.recursion_limits.specs.Limits.{CellFits}
use Rattle.recursion.specs.Slices.{cell_in, entries_in}
use Rattle.recursion.proofs.Outcomes.{start_cell, steps_from}
use Rattle.recursion.proofs.steps.all_steps.Goals as goal
use Rattle.recursion.proofs.steps.all_steps.Goals.{After-start_cells}

-- the first cell is the start
first_is : (c : After-start_cells) → cell_in c.start_cells.new.f c.start_cells.new.r 0 ≡ record { f = c.args.start.cell; R = c.args.start.bound }
first_is c =
    let e = c.start_cells.ensures in
    ap₂ (λ f r. cell_in f r 0) e.0 e.1
    ∙ start_cell (length c.args.f.now) (length c.args.r.now) c.args.start.cell c.args.start.bound (omega (arith, c.requires.f_long)) (omega (arith, c.requires.r_long))

pub fill-requires : goal.fill-requires
fill-requires c = record { lengths = (c.requires.transform.d_long, c.requires.transform.h_long, c.requires.transform.horizon); none_yet = c.none-places.ensures }

pub fill_cells-requires : goal.fill_cells-requires
fill_cells-requires c =
    let k = c.start_cells.auto in
    let p = c.fill.ensures in
    let first = first_is (goal.at.fill_cells-requires c).After-start_cells in
    record {
      transform_fits = c.requires.transform;
      horizon_in_bounds = (omega (arith, k.f, c.requires.f_long), omega (arith, k.r, c.requires.r_long), subst CellFits (sym first) c.requires.start_fits);
      places_of = record { listed = p.0; all_small = p.1 };
    }

pub returns : goal.returns
returns c =
    let t = c.args.t in
    let e = c.start_cells.ensures in
    steps_from t.horizon _ _ _ _ _ _ _ _ _ _ c.fill_cells.result (ap (cell_at (entries_in t.horizon t.d.now t.h.now)) (first_is (goal.at.returns c).After-start_cells)) e.0 e.1
    c.fill_cells.ensures
