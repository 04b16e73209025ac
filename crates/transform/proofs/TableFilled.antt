-- Filling the cells by a walk over the table: the cells so far, with the terms of the lines to come added, are the cells at the end, and there is
-- room for those terms. Line by line the terms give the D and the H of all lives.
use mathlib.Core.Path.{◌≡◌, refl, sym, ◌∙◌, ap}
use mathlib.Core.List.{List, [], ◌∷◌, ◌++◌}
use Prim.Native.Nat.{ℕ, suc}
use native.Mathlib.Omega.{arith}
use lib.IntN.{ℤ}
use lib.ListN.{drop}
use Rattle.fund.specs.declared.ModelPoint.{ModelPoint}
use Rattle.fund.specs.Base.{table}
use Rattle.fund.specs.Folding.{copies}
use Rattle.fund.specs.Transform.{Term}
use Rattle.laws.specs.Accepted.{All}
use Rattle.widths.specs.AddedTerms.{add_d, add_h, Room, point_terms, line_terms}
use Rattle.widths.specs.AddingLaws.{add_d_append, add_h_append, room_d_first, room_d_rest, room_h_first, room_h_rest}
use Rattle.widths.specs.TermLaws.{lines_sound, cleared_room, filled_d, filled_h}
use Rattle.widths.specs.Times.{size_lines_D, size_lines_H, D_lines, H_lines}
use Rattle.widths.specs.Widths.{width_D, width_H}
use Rattle.totals.specs.Table.{PointIn, members_of_lem}
use Rattle.transform.specs.declared.terms.Filling.{Filling}
use Rattle.transform.specs.Filling.{PointFits, PointAdded, TableFits, TableAdded}

abbrev line_terms_of : Filling → List ModelPoint → List Term
line_terms_of x ps = line_terms x.horizon x.order x.frequency ps

abbrev point_terms_of : Filling → ModelPoint → List Term
point_terms_of x p = point_terms x.horizon x.order x.frequency p

pub record Fills (ps : List ModelPoint) (x : Filling) (d₀ : List ℤ) (h₀ : List ℕ) (rest : List ModelPoint) (d : List ℤ) (h : List ℕ) : Type 0 where
  pub fits : TableFits ps x d₀ h₀
  pub rest_in : All PointIn rest
  pub room : Room x.horizon d h (line_terms_of x rest)
  pub d_is : add_d d (line_terms_of x rest) ≡ add_d d₀ (line_terms_of x ps)
  pub h_is : add_h h (line_terms_of x rest) ≡ add_h h₀ (line_terms_of x ps)

module _ (ps : List ModelPoint) (x : Filling) (d₀ : List ℤ) (h₀ : List ℕ) where
  pub fills_first : TableFits ps x d₀ h₀ → Fills ps x d₀ h₀ ps d₀ h₀
  fills_first f =
      let c = f.cleared in
      let ms = copies ps in
      let all = members_of_lem ps f.points in
      let wide = width_D x.horizon x.order x.frequency ms c.horizon f.order all.few all.in_range f.load_within in
      let tall = width_H x.horizon x.order x.frequency ms c.horizon f.order all.few all.in_range in
      let wide-lines = size_lines_D x.horizon x.order x.frequency ps in
      let tall-lines = size_lines_H x.horizon x.order x.frequency ps in
      record { fits = f; rest_in = f.points.in_range; room = cleared_room c (line_terms_of x ps) (omega (arith, wide, wide-lines)) (omega (arith, tall, tall-lines)); d_is = refl; h_is = refl }

  pub fills_more : (p : ModelPoint) (rest : List ModelPoint) (d : List ℤ) (h : List ℕ) (d' : List ℤ) (h' : List ℕ) → Fills ps x d₀ h₀ (p ∷ rest) d h → PointAdded d h p x d' h' → Fills ps x d₀ h₀ rest d' h'
  unfolding line_terms
  fills_more p rest d h d' h' i a =
      let R = i.room in
      record {
        fits = i.fits;
        rest_in = i.rest_in.1;
        room = record { in_d = rw a.d_is (room_d_rest (point_terms_of x p) (line_terms_of x rest) R.in_d); in_h = rw a.h_is (room_h_rest (point_terms_of x p) (line_terms_of x rest) R.in_h) };
        d_is = ap (λ c. add_d c (line_terms_of x rest)) a.d_is ∙ sym (add_d_append d (point_terms_of x p) (line_terms_of x rest)) ∙ i.d_is;
        h_is = ap (λ c. add_h c (line_terms_of x rest)) a.h_is ∙ sym (add_h_append h (point_terms_of x p) (line_terms_of x rest)) ∙ i.h_is;
      }

  pub fills_asks : (p : ModelPoint) (rest : List ModelPoint) (d : List ℤ) (h : List ℕ) → Fills ps x d₀ h₀ (p ∷ rest) d h → PointFits d h p x
  unfolding line_terms
  fills_asks p rest d h i =
      record {
        in_range = i.rest_in.0.life_in;
        order = i.fits.order;
        frequency = i.fits.frequency;
        room = record { in_d = room_d_first (point_terms_of x p) (line_terms_of x rest) i.room.in_d; in_h = room_h_first (point_terms_of x p) (line_terms_of x rest) i.room.in_h };
      }

  pub fills_all : (d : List ℤ) (h : List ℕ) → Fills ps x d₀ h₀ [] d h → TableAdded ps x d₀ h₀ d h
  unfolding line_terms add_d add_h
  fills_all d h i =
      let sound = lines_sound x.horizon x.order x.frequency ps in
      record {
        d_is = i.d_is ∙ filled_d i.fits.cleared (line_terms_of x ps) sound ∙ (λ j. table (suc x.horizon) (λ k. D_lines x.horizon x.order x.frequency ps k j) ++ drop (suc x.horizon) d₀);
        h_is = i.h_is ∙ filled_h i.fits.cleared (line_terms_of x ps) sound ∙ (λ j. table (suc x.horizon) (λ k. H_lines x.horizon x.order x.frequency ps k j) ++ drop (suc x.horizon) h₀);
      }
