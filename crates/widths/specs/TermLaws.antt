-- The terms of all lines: each of them at a place up to the horizon and 0 at place 0 (`lines_sound`); so cells that were 0 hold D
-- and H after the terms are added (`filled_d`, `filled_h`).
use Rattle.std.specs.Prelude.{◌≡◌, refl, Bool, true, false, ◌&&◌, List, [], ◌∷◌, ◌++◌, ℕ, zero, suc, ◌+◌, ◌*◌, ◌≤◌, ◌<◌, eqb, leb, ltb, ℤ, pos, nat_abs, ◌+ℤ◌, ◌*ℤ◌, length, get_or, take, drop, if◌then◌else◌}
use Rattle.std.proofs.Common.{sym, ◌∙◌, ap, ap₂, arith, leb-true, ltb-true, take-append-drop, ext_get_or, get_or-take, length-take-le}
use Rattle.std.proofs.Math.Nat as N
use Rattle.std.proofs.Math.Dec.{eqb-suc-zero}
use Rattle.std.proofs.Math.IntN.{+ℤ_idl, *ℤ-zero}
use Rattle.fund.specs.declared.Frequencies.{Frequencies}
use Rattle.fund.specs.declared.Life.{Life}
use Rattle.fund.specs.declared.ModelPoint.{ModelPoint}
use Rattle.fund.specs.Base.{table}
use Rattle.fund.specs.Folding.{single}
use Rattle.fund.specs.Transform.{Term, row, place_of, placed, term_of, row_terms, single_terms, replaced_term, replaced_terms, death_weight, disability_weight, sum_d, sum_h, D, H}
use Rattle.laws.specs.Accepted.{All, all_map}
use Rattle.laws.specs.Tables.{length_table, get_or_table}
use Rattle.widths.specs.AddedTerms.{add_d, add_h, size_d, size_h, Room, terms_at, times, life_terms, point_terms, line_terms, Cleared}
use Rattle.widths.specs.AddingLaws.{add_d_at, add_h_at, add_d_beyond, add_h_beyond, length_add_d, length_add_h}
use Rattle.widths.specs.PlacedTerms.{placed_within, term_zero}

-- ---- places
pub record Sound (X : ℕ) (t : Term) : Type 0 where
  pub within : t.place ≤ X
  pub no_D : t.place ≡ 0 → t.to_d ≡ pos 0
  pub no_H : t.place ≡ 0 → t.to_h ≡ 0

all_join : {A : Type 0} (P : A → Type 0) (xs ys : List A) → All P xs → All P ys → All P (xs ++ ys)
all_join P [] ys p q = q
all_join P (x ∷ xs) ys p q = (p.0, all_join P xs ys p.1 q)

at_sound : (X : ℕ) (m : Life) (n l : ℕ) → 0 < n → All (Sound X) (terms_at X m n l)
unfolding term_of
at_sound X m n l h = go (placed X m n l) refl
  where
    go : (b : Bool) → placed X m n l ≡ b → All (Sound X) (if b then term_of m n l ∷ [] else [])
    go true e = (
      record {
        within = placed_within X m n l e;
        no_D = λ z. term_zero n (place_of m n l) (get_or (row m n) l 0) h (ap (λ x. x * get_or (row m n) l 0) z ∙ N.zero-mul (get_or (row m n) l 0));
        no_H = λ z. z;
      },
      tt,
    )
    go false e = tt

row_sound : (X : ℕ) (m : Life) (n l : ℕ) → 0 < n → All (Sound X) (row_terms X m n l)
unfolding row_terms
row_sound X m n zero h = tt
row_sound X m n (suc l) h = all_join (Sound X) (row_terms X m n l) (terms_at X m n l) (row_sound X m n l h) (at_sound X m n l h)

single_sound : (X : ℕ) (m : Life) (r : ℕ) → All (Sound X) (single_terms X m r)
unfolding single_terms
single_sound X m zero = tt
single_sound X m (suc r) =
    all_join (Sound X) (single_terms X m r) (row_terms X m (suc r) (suc (suc r))) (single_sound X m r) (row_sound X m (suc r) (suc (suc r)) (omega arith))

replaced_sound : (X w k : ℕ) → All (Sound X) (replaced_term X w k)
unfolding replaced_term
replaced_sound X w k = go (ltb 0 k) (leb k X) refl refl
  where
    go : (b c : Bool) → ltb 0 k ≡ b → leb k X ≡ c → All (Sound X) (if b && c then record { place = k; to_d = pos (w * k); to_h = 0 } ∷ [] else [])
    go true true e f =
        let h = ltb-true 0 k e in
        (record { within = leb-true k X f; no_D = λ z. absurd (let b : ⊥ = omega arith in b); no_H = λ z. refl }, tt)
    go true false e f = tt
    go false c e f = tt

life_sound : (X r : ℕ) (a : Frequencies) (m : Life) → All (Sound X) (life_terms X r a m)
unfolding replaced_terms
life_sound X r a m = go (single m)
  where
    go : (b : Bool) → All (Sound X) (if b then single_terms X m r else replaced_terms X a m)
    go true = single_sound X m r
    go false =
        all_join (Sound X) (replaced_term X (death_weight a m) m.d) (replaced_term X (disability_weight a m) m.e)
        (replaced_sound X (death_weight a m) m.d) (replaced_sound X (disability_weight a m) m.e)

times_sound : (X c : ℕ) (ts : List Term) → All (Sound X) ts → All (Sound X) (times c ts)
unfolding times
times_sound X c [] a = tt
times_sound X c (t ∷ ts) a = (
  record {
    within = a.0.within;
    no_D = λ z. ap (λ y. pos c *ℤ y) (a.0.no_D z) ∙ *ℤ-zero (pos c);
    no_H = λ z. ap (λ y. c * y) (a.0.no_H z) ∙ N.mul-zero c;
  },
  times_sound X c ts a.1,
)

pub lines_sound : (X r : ℕ) (a : Frequencies) (ps : List ModelPoint) → All (Sound X) (line_terms X r a ps)
unfolding line_terms
lines_sound X r a [] = tt
lines_sound X r a (p ∷ ps) =
    all_join (Sound X) (point_terms X r a p) (line_terms X r a ps) (times_sound X p.lives (life_terms X r a p.life) (life_sound X r a p.life)) (lines_sound X r a ps)

-- ---- D and H are the sums over the terms at each place, 0 among them
sum_d_zero : (X : ℕ) (ts : List Term) → All (Sound X) ts → sum_d 0 ts ≡ pos 0
unfolding sum_d
sum_d_zero X [] a = refl
sum_d_zero X (t ∷ ts) a = ap₂ ◌+ℤ◌ (go t.place a.0.no_D) (sum_d_zero X ts a.1)
  where
    go : (p : ℕ) → (p ≡ 0 → t.to_d ≡ pos 0) → (if eqb p 0 then t.to_d else pos 0) ≡ pos 0
    go zero f = f refl
    go (suc p) f = rw (eqb-suc-zero p)

sum_h_zero : (X : ℕ) (ts : List Term) → All (Sound X) ts → sum_h 0 ts ≡ 0
unfolding sum_h
sum_h_zero X [] a = refl
sum_h_zero X (t ∷ ts) a = ap₂ ◌+◌ (go t.place a.0.no_H) (sum_h_zero X ts a.1)
  where
    go : (p : ℕ) → (p ≡ 0 → t.to_h ≡ 0) → (if eqb p 0 then t.to_h else 0) ≡ 0
    go zero f = f refl
    go (suc p) f = rw (eqb-suc-zero p)

pub D_is : (X : ℕ) (ts : List Term) → All (Sound X) ts → (k : ℕ) → sum_d k ts ≡ D ts k
unfolding D
D_is X ts a zero = sum_d_zero X ts a
D_is X ts a (suc k) = refl

pub H_is : (X : ℕ) (ts : List Term) → All (Sound X) ts → (k : ℕ) → sum_h k ts ≡ H ts k
unfolding H
H_is X ts a zero = sum_h_zero X ts a
H_is X ts a (suc k) = refl

-- ---- a list by its first n elements and the rest
filled : {A : Type 0} (z : A) (now before : List A) (g : ℕ → A) (n : ℕ) → n ≤ length now → ((k : ℕ) → k < n → get_or now k z ≡ g k) → drop n now ≡ drop n before → now ≡ table n g ++ drop n before
filled z now before g n h f e =
    sym (take-append-drop n now)
    ∙ ap₂ ◌++◌
    (ext_get_or z (take n now) (table n g) (length-take-le n now h ∙ sym (length_table n g))
    (λ k l.
    let u : k < n = omega (arith, length-take-le n now h) in
    get_or-take n now k z u ∙ f k u ∙ sym (get_or_table n g k z u)))
    e

module _ {X : ℕ} {d : List ℤ} {h : List ℕ} (c : Cleared X d h) (ts : List Term) (a : All (Sound X) ts) where
  places : All (λ (t : Term). t.place ≤ X) ts
  places = all_map (λ (t : Term) (s : Sound X t). s.within) ts a

  pub filled_d : add_d d ts ≡ table (suc X) (D ts) ++ drop (suc X) d
  filled_d =
      filled (pos 0) (add_d d ts) d (D ts) (suc X) (omega (arith, length_add_d d ts, c.d_long))
      (λ k l.
      add_d_at d ts k (omega (arith, c.d_long))
      ∙ ap (λ z. z +ℤ sum_d k ts) (c.d_zero k (omega arith))
      ∙ +ℤ_idl (sum_d k ts)
      ∙ D_is X ts a k)
      (add_d_beyond X d ts places)

  pub filled_h : add_h h ts ≡ table (suc X) (H ts) ++ drop (suc X) h
  filled_h =
      filled 0 (add_h h ts) h (H ts) (suc X) (omega (arith, length_add_h h ts, c.h_long))
      (λ k l.
      add_h_at h ts k (omega (arith, c.h_long))
      ∙ ap (λ z. z + sum_h k ts) (c.h_zero k (omega arith))
      ∙ N.zero-add (sum_h k ts)
      ∙ H_is X ts a k)
      (add_h_beyond X h ts places)

-- ---- room in cleared slices
pub cleared_room : {X : ℕ} {d : List ℤ} {h : List ℕ} → Cleared X d h → (ts : List Term) → size_d ts ≤ 400000000000000000 → size_h ts ≤ 1000000000 → Room X d h ts
cleared_room c ts wide tall =
    record {
      in_d = record { horizon = c.horizon; long = c.d_long; room = λ k l. omega (arith, ap nat_abs (c.d_zero k l)) };
      in_h = record { long = c.h_long; room = λ k l. omega (arith, c.h_zero k l) };
    }
