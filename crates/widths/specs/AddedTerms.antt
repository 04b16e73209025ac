-- Terms added to the cells of two slices, one by one, and what the slices must have for that: cells up to the horizon, and in
-- each of them room for all the terms.
use Rattle.std.specs.Prelude.{true, ◌≡◌, List, [], ◌∷◌, ◌++◌, ℕ, ◌+◌, ◌*◌, ◌^◌, ◌≤◌, ◌<◌, ℤ, pos, nat_abs, ◌+ℤ◌, ◌*ℤ◌, length, get_or, set, if◌then◌else◌}
use Rattle.rounding.specs.Rounding.{near}
use Rattle.fund.specs.declared.Frequencies.{Frequencies}
use Rattle.fund.specs.declared.Life.{Life}
use Rattle.fund.specs.declared.ModelPoint.{ModelPoint}
use Rattle.fund.specs.Base.{total}
use Rattle.fund.specs.Limits.{most_horizon, most_order}
use Rattle.fund.specs.Folding.{single}
use Rattle.fund.specs.Transform.{Term, placed, term_of, single_terms, replaced_terms}
use Rattle.widths.specs.Lives.{InRange}

unfoldable pub add_d : List ℤ → List Term → List ℤ
add_d d [] = d
add_d d (t ∷ ts) = add_d (set d t.place (get_or d t.place (pos 0) +ℤ t.to_d)) ts

unfoldable pub add_h : List ℕ → List Term → List ℕ
add_h h [] = h
add_h h (t ∷ ts) = add_h (set h t.place (get_or h t.place 0 + t.to_h)) ts

-- The sizes of the terms, whatever their places and signs.
unfoldable pub size_d : List Term → ℕ
size_d ts = total (λ (t : Term). nat_abs t.to_d) ts

unfoldable pub size_h : List Term → ℕ
size_h ts = total (λ (t : Term). t.to_h) ts

pub record RoomD (X : ℕ) (d : List ℤ) (ts : List Term) : Type 0 where
  pub horizon : X ≤ most_horizon
  pub long : X < length d
  pub room : (k : ℕ) → k ≤ X → nat_abs (get_or d k (pos 0)) + size_d ts ≤ 2 ^ 62

pub record RoomH (X : ℕ) (h : List ℕ) (ts : List Term) : Type 0 where
  pub long : X < length h
  pub room : (k : ℕ) → k ≤ X → get_or h k 0 + size_h ts ≤ 2 ^ 62

pub record Room (X : ℕ) (d : List ℤ) (h : List ℕ) (ts : List Term) : Type 0 where
  pub in_d : RoomD X d ts
  pub in_h : RoomH X h ts

-- The term of row n and column l, if it is placed, and all terms of a life.
abbrev pub terms_at : ℕ → Life → ℕ → ℕ → List Term
terms_at X m n l = if placed X m n l then term_of m n l ∷ [] else []

abbrev pub life_terms : ℕ → ℕ → Frequencies → Life → List Term
life_terms X r a m = if single m then single_terms X m r else replaced_terms X a m

-- Terms of c equal lives: each c times.
unfoldable pub times : ℕ → List Term → List Term
times c [] = []
times c (t ∷ ts) = record { place = t.place; to_d = pos c *ℤ t.to_d; to_h = c * t.to_h } ∷ times c ts

-- All terms of a line, and of lines.
abbrev pub point_terms : ℕ → ℕ → Frequencies → ModelPoint → List Term
point_terms X r a p = times p.lives (life_terms X r a p.life)

unfoldable pub line_terms : ℕ → ℕ → Frequencies → List ModelPoint → List Term
line_terms X r a [] = []
line_terms X r a (p ∷ ps) = point_terms X r a p ++ line_terms X r a ps

-- What a placed number v of row n, of c lives, asks of the cells at its place x.
pub record TermRoom (d : List ℤ) (h : List ℕ) (x v n c : ℕ) : Type 0 where
  pub n_least : 1 ≤ n
  pub n_most : n ≤ most_order
  pub place_most : x ≤ most_horizon
  pub number_most : v ≤ 10 ^ 12
  pub d_long : x < length d
  pub h_long : x < length h
  pub d_room : nat_abs (get_or d x (pos 0)) + c * near (x * v) n ≤ 2 ^ 62
  pub h_room : get_or h x 0 + c * x ≤ 2 ^ 62

-- A life of group 1, and a row of its triangle.
pub record SingleRow (m : Life) (n : ℕ) : Type 0 where
  pub life : InRange m
  pub alone : single m ≡ true
  pub n_least : 1 ≤ n
  pub n_most : n ≤ most_order

-- Slices that reach the horizon, with nothing in their cells up to it.
pub record Cleared (X : ℕ) (d : List ℤ) (h : List ℕ) : Type 0 where
  pub horizon : X ≤ most_horizon
  pub d_long : X < length d
  pub h_long : X < length h
  pub d_zero : (k : ℕ) → k ≤ X → get_or d k (pos 0) ≡ pos 0
  pub h_zero : (k : ℕ) → k ≤ X → get_or h k 0 ≡ 0
