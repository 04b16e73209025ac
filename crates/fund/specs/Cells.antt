-- The five result slices that a caller lends, before and after a call.
use Rattle.std.specs.Prelude.{◌≡◌, List, ℕ, ℤ, pos, length, replicate}
use Rattle.std.specs.Borrow.{MutBor}
use Rattle.fund.specs.declared.Cells.{Cells}
use Rattle.fund.specs.Refusals.{Lengths}

abbrev pub lengths : Cells → Lengths
lengths c = record { D = length c.transform.now; H = length c.h.now; f = length c.f.now; R = length c.r.now; F = length c.sums.now }

-- Five slices, lent as one struct.
pub record LentAs (c : Cells) (d : MutBor (List ℤ)) (h : MutBor (List ℕ)) (f : MutBor (List ℤ)) (r : MutBor (List ℕ)) (s : MutBor (List ℤ)) : Type 0 where
  pub transform : c.transform ≡ d
  pub h_is : c.h ≡ h
  pub f_is : c.f ≡ f
  pub r_is : c.r ≡ r
  pub sums : c.sums ≡ s

-- They are the caller's own slices still.
pub record SameSlices (old new : Cells) : Type 0 where
  pub transform : new.transform.ghost_name ≡ old.transform.ghost_name
  pub h : new.h.ghost_name ≡ old.h.ghost_name
  pub f : new.f.ghost_name ≡ old.f.ghost_name
  pub r : new.r.ghost_name ≡ old.r.ghost_name
  pub sums : new.sums.ghost_name ≡ old.sums.ghost_name

-- "zero in every lent result cell"
pub record Zeros (n : Lengths) (c : Cells) : Type 0 where
  pub D : c.transform.now ≡ replicate n.D (pos 0)
  pub H : c.h.now ≡ replicate n.H 0
  pub f : c.f.now ≡ replicate n.f (pos 0)
  pub R : c.r.now ≡ replicate n.R 0
  pub F : c.sums.now ≡ replicate n.F (pos 0)

-- The lengths of five slices that are lent one by one.
abbrev pub slice_lengths : List ℤ → List ℕ → List ℤ → List ℕ → List ℤ → Lengths
slice_lengths d h f r s = record { D = length d; H = length h; f = length f; R = length r; F = length s }
