-- What filling the transform asks and gives, by a line and by a table.
use Rattle.std.specs.Prelude.{◌≡◌, List, ◌++◌, ℕ, suc, ◌≤◌, ℤ, drop}
use Rattle.fund.specs.declared.ModelPoint.{ModelPoint}
use Rattle.fund.specs.Base.{table}
use Rattle.fund.specs.Limits.{most_order, most_load}
use Rattle.fund.specs.Folding.{copies}
use Rattle.fund.specs.Transform.{D, H, load, terms}
use Rattle.laws.specs.Ranges.{FrequenciesOk}
use Rattle.widths.specs.Lives.{InRange}
use Rattle.widths.specs.AddedTerms.{add_d, add_h, Room, point_terms, Cleared}
use Rattle.transform.specs.declared.terms.Filling.{Filling}
use Rattle.totals.specs.Table.{Points}

-- ---- one line more
pub record PointFits (d : List ℤ) (h : List ℕ) (p : ModelPoint) (x : Filling) : Type 0 where
  pub in_range : InRange p.life
  pub order : x.order ≤ most_order
  pub frequency : FrequenciesOk x.frequency
  pub room : Room x.horizon d h (point_terms x.horizon x.order x.frequency p)

pub record PointAdded (d : List ℤ) (h : List ℕ) (p : ModelPoint) (x : Filling) (d' : List ℤ) (h' : List ℕ) : Type 0 where
  pub d_is : d' ≡ add_d d (point_terms x.horizon x.order x.frequency p)
  pub h_is : h' ≡ add_h h (point_terms x.horizon x.order x.frequency p)

-- ---- a table
pub record TableFits (ps : List ModelPoint) (x : Filling) (d : List ℤ) (h : List ℕ) : Type 0 where
  pub points : Points ps
  pub order : x.order ≤ most_order
  pub frequency : FrequenciesOk x.frequency
  pub load_within : load x.frequency (copies ps) ≤ most_load
  pub cleared : Cleared x.horizon d h

pub record TableAdded (ps : List ModelPoint) (x : Filling) (d : List ℤ) (h : List ℕ) (d' : List ℤ) (h' : List ℕ) : Type 0 where
  pub d_is : d' ≡ table (suc x.horizon) (D (terms x.horizon x.order x.frequency (copies ps))) ++ drop (suc x.horizon) d
  pub h_is : h' ≡ table (suc x.horizon) (H (terms x.horizon x.order x.frequency (copies ps))) ++ drop (suc x.horizon) h
