-- Why D and H never wrap: the sizes of all terms add up to at most 400,000 × 10^12 for D (`width_D`) and 10^9 for H
-- (`width_H`), by the load. A row of the triangle adds up to at most the life's part of the load and 7 for each row before
-- it, so a life of group 1 adds at most 12 × 4,095 times that.
use Rattle.std.specs.Prelude.{◌≡◌, Bool, ◌&&◌, eqb, ltb, ℤ, nat_abs, length, get_or, take, if◌then◌else◌}
use Rattle.std.proofs.Math.Path.{refl}
use Rattle.std.proofs.Common.{◌∙◌, ap, leb-true, leb-false, ltb-true, ltb-false, eq-eqb, ne_eqb}
use Rattle.std.proofs.Math.Bool.{true, false}
use mathlib.Core.List.{List, [], ◌∷◌}
use Prim.Native.Nat.{ℕ, zero, suc, ◌+◌, ◌*◌, ◌≤◌, ◌<◌}
use Rattle.std.proofs.Math.Nat as N
use native.Mathlib.Omega.{arith}
use Rattle.std.proofs.Math.Dec.{leb}
use Rattle.std.proofs.Math.IntN.{pos}
use Rattle.rounding.specs.Rounding.{up}
use Rattle.rounding.proofs.Laws.{near_below}
use Rattle.fund.specs.declared.Frequencies.{Frequencies}
use Rattle.fund.specs.declared.Life.{Life}
use Rattle.fund.specs.Base.{total, sum}
use Rattle.fund.specs.Limits.{most_horizon, most_lives}
use Rattle.fund.specs.Folding.{claim, stay, single}
use Rattle.fund.specs.Transform.{unit, row, Term, place_of, placed, row_terms, single_terms, death_weight, disability_weight, replaced_term, replaced_terms, terms, sum_d, D, H, load}
use Rattle.laws.specs.Accepted.{All}
use Rattle.widths.specs.Lives.{InRange}
use Rattle.widths.specs.Parts.{load_part}
use Rattle.widths.specs.AddedTerms.{size_d, size_h, terms_at, life_terms}
use Rattle.widths.specs.Sums.{total_le, total_bound}
use Rattle.widths.specs.PartBounds.{load_is}
use Rattle.widths.specs.AddingLaws.{size_d_append, size_h_append, sum_d_le, sum_h_le, place_cases}
use Rattle.widths.specs.Signed.{nat_abs_add}
use Rattle.widths.specs.PlacedTerms.{left_out, placed_within, placed_size_d, placed_size_h, replaced_zero, replaced_beyond, replaced_size}
use Rattle.widths.specs.Triangle.{sum_row, take_sum, take_sum_le, row_sum}

-- ---- the terms of a life, in D
none_D : size_d [] ≡ 0
unfolding size_d total
none_D = refl

none_H : size_h [] ≡ 0
unfolding size_h total
none_H = refl

module _ (X : ℕ) (h : X ≤ most_horizon) (m : Life) where
  at_D : (n l : ℕ) → 0 < n → size_d (terms_at X m n l) ≤ most_horizon * get_or (row m n) l 0
  at_D n l u = go (placed X m n l) refl
    where
      go : (b : Bool) → placed X m n l ≡ b → size_d (terms_at X m n l) ≤ most_horizon * get_or (row m n) l 0
      go true e =
          let x = place_of m n l in
          let v = get_or (row m n) l 0 in
          omega (
            arith,
            placed_size_d X m n l e,
            near_below (x * v) n (x * v) u (omega (arith, N.mul-le-mul_right (x * v) u)),
            N.mul-le-mul_right v (N.le_trans (placed_within X m n l e) h),
          )
      go false e = omega (arith, ap size_d (left_out X m n l e), none_D)

  row_D : (n l : ℕ) → 0 < n → size_d (row_terms X m n l) ≤ most_horizon * sum_row (take l (row m n))
  unfolding row_terms
  row_D n zero u = omega (arith, none_D)
  row_D n (suc l) u =
      omega (arith, size_d_append (row_terms X m n l) (terms_at X m n l), row_D n l u, at_D n l u, take_sum l (row m n))

  single_D : claim m < 500000 → (r : ℕ) → r ≤ 12 → size_d (single_terms X m r) ≤ r * (most_horizon * (up (unit * claim m) (stay m) + 84))
  unfolding single_terms
  single_D c zero g = omega (arith, none_D)
  single_D c (suc r) g =
      omega (
        arith,
        size_d_append (single_terms X m r) (row_terms X m (suc r) (suc (suc r))),
        single_D c r (omega arith),
        row_D (suc r) (suc (suc r)) (omega arith),
        take_sum_le (suc (suc r)) (row m (suc r)),
        row_sum m c r,
      )

  replaced_D : (w k : ℕ) → size_d (replaced_term X w k) ≤ most_horizon * w
  replaced_D w k = go (ltb 0 k) (leb k X) refl refl
    where
      go : (b c : Bool) → ltb 0 k ≡ b → leb k X ≡ c → size_d (replaced_term X w k) ≤ most_horizon * w
      go true true e f =
          let l = leb-true k X f in
          omega (arith, replaced_size X w k (ltb-true 0 k e) l, N.mul-le-mul_left w (N.le_trans l h))
      go true false e f = omega (arith, ap size_d (replaced_beyond X w k (leb-false k X f)), none_D)
      go false c e f = omega (arith, ap size_d (replaced_zero X w k (omega (arith, ltb-false 0 k e))), none_D)

  life_D : (r : ℕ) (a : Frequencies) → InRange m → r ≤ 12 → size_d (life_terms X r a m) ≤ 49140 * (load_part a m + 84)
  unfolding replaced_terms
  life_D r a i g = go (single m) refl
    where
      go : (b : Bool) → single m ≡ b → size_d (if b then single_terms X m r else replaced_terms X a m) ≤ 49140 * ((if b then 0 else death_weight a m + disability_weight a m) + (if b then up (unit * claim m) (stay m) else 0) + 84)
      go true e =
          let k = most_horizon * (up (unit * claim m) (stay m) + 84) in
          omega (arith, single_D (i.limited e) r g, N.mul-le-mul_right k g)
      go false e =
          let q = death_weight a m in
          let j = disability_weight a m in
          omega (arith, size_d_append (replaced_term X q m.d) (replaced_term X j m.e), replaced_D q m.d, replaced_D j m.e)

  -- ---- and in H
  at_H : (n l : ℕ) → size_h (terms_at X m n l) ≤ most_horizon
  at_H n l = go (placed X m n l) refl
    where
      go : (b : Bool) → placed X m n l ≡ b → size_h (terms_at X m n l) ≤ most_horizon
      go true e = omega (arith, placed_size_h X m n l e, placed_within X m n l e)
      go false e = omega (arith, ap size_h (left_out X m n l e), none_H)

  row_H : (n l : ℕ) → size_h (row_terms X m n l) ≤ most_horizon * l
  unfolding row_terms
  row_H n zero = omega (arith, none_H)
  row_H n (suc l) = omega (arith, size_h_append (row_terms X m n l) (terms_at X m n l), row_H n l, at_H n l)

  single_H : (r : ℕ) → r ≤ 12 → size_h (single_terms X m r) ≤ r * 53235
  unfolding single_terms
  single_H zero g = omega (arith, none_H)
  single_H (suc r) g =
      omega (
        arith,
        size_h_append (single_terms X m r) (row_terms X m (suc r) (suc (suc r))),
        single_H r (omega arith),
        row_H (suc r) (suc (suc r)),
      )

  replaced_H : (w k : ℕ) → size_h (replaced_term X w k) ≡ 0
  unfolding replaced_term size_h total
  replaced_H w k = go (ltb 0 k && leb k X)
    where
      go : (b : Bool) → size_h (if b then record { place = k; to_d = pos (w * k); to_h = 0 } ∷ [] else []) ≡ 0
      go true = refl
      go false = refl

  life_H : (r : ℕ) (a : Frequencies) → r ≤ 12 → size_h (life_terms X r a m) ≤ 638820
  unfolding replaced_terms
  life_H r a g = go (single m)
    where
      go : (b : Bool) → size_h (if b then single_terms X m r else replaced_terms X a m) ≤ 638820
      go true = omega (arith, single_H r g)
      go false =
          let q = death_weight a m in
          let j = disability_weight a m in
          omega (arith, size_h_append (replaced_term X q m.d) (replaced_term X j m.e), replaced_H q m.d, replaced_H j m.e)

-- ---- the terms of all lives
lives_D : (X r : ℕ) (a : Frequencies) (ms : List Life) → size_d (terms X r a ms) ≡ total (λ m. size_d (life_terms X r a m)) ms
unfolding terms total
lives_D X r a [] = none_D
lives_D X r a (m ∷ ms) =
    size_d_append (life_terms X r a m) (terms X r a ms) ∙ ap (λ x. size_d (life_terms X r a m) + x) (lives_D X r a ms)

lives_H : (X r : ℕ) (a : Frequencies) (ms : List Life) → size_h (terms X r a ms) ≡ total (λ m. size_h (life_terms X r a m)) ms
unfolding terms total
lives_H X r a [] = none_H
lives_H X r a (m ∷ ms) =
    size_h_append (life_terms X r a m) (terms X r a ms) ∙ ap (λ x. size_h (life_terms X r a m) + x) (lives_H X r a ms)

module _ (X r : ℕ) (a : Frequencies) (ms : List Life) (x : X ≤ most_horizon) (o : r ≤ 12) (few : length ms ≤ most_lives) (i : All InRange ms) where
  pub width_D : load a ms ≤ 8000000000000 → size_d (terms X r a ms) ≤ 400000000000000000
  width_D l =
      omega (
        arith,
        lives_D X r a ms,
        load_is a ms,
        total_le InRange (λ m. size_d (life_terms X r a m)) (load_part a) 49140 84 (λ m j. life_D X x m r a j o) ms i,
      )

  pub width_H : size_h (terms X r a ms) ≤ 1000000000
  width_H =
      omega (arith, lives_H X r a ms, total_bound InRange (λ m. size_h (life_terms X r a m)) 638820 (λ m j. life_H X x m r a o) ms i)

-- ---- D and H at a place, and D over many places
sum_two : (n : ℕ) (f g h : ℕ → ℕ) → ((k : ℕ) → f k ≤ g k + h k) → sum n f ≤ sum n g + sum n h
unfolding sum
sum_two zero f g h u = omega arith
sum_two (suc n) f g h u = omega (arith, sum_two n f g h u, u n)

at_place : ℕ → ℕ → ℕ → ℕ
at_place p x k = if eqb p k then x else 0

sum_before : (n p x : ℕ) → n ≤ p → sum n (at_place p x) ≡ 0
unfolding sum at_place
sum_before zero p x h = refl
sum_before (suc n) p x h = rw (ne_eqb p n (omega arith)) (omega (arith, sum_before n p x (omega arith)))

sum_place : (n p x : ℕ) → sum n (at_place p x) ≤ x
unfolding sum at_place
sum_place zero p x = omega arith
sum_place (suc n) p x =
    place_cases p n
    (λ e. rw (eq-eqb p n e) (omega (arith, sum_before n p x (omega arith))))
    (λ e. rw (ne_eqb p n e) (omega (arith, sum_place n p x)))

sum_nothing : (n : ℕ) → sum n (λ k. 0) ≡ 0
unfolding sum
sum_nothing zero = refl
sum_nothing (suc n) = omega (arith, sum_nothing n)

sums_D : (n : ℕ) (ts : List Term) → sum n (λ k. nat_abs (sum_d k ts)) ≤ size_d ts
unfolding sum_d size_d total at_place
sums_D n [] = N.le_of_eq (sum_nothing n)
sums_D n (t ∷ ts) =
    omega (
      arith,
      sum_two n (λ k. nat_abs (sum_d k (t ∷ ts))) (at_place t.place (nat_abs t.to_d)) (λ k. nat_abs (sum_d k ts))
          (λ k. omega (arith, nat_abs_add (if eqb t.place k then t.to_d else pos 0) (sum_d k ts), N.le_of_eq (part (eqb t.place k) t.to_d))),
      sum_place n t.place (nat_abs t.to_d),
      sums_D n ts,
    )
  where
    part : (b : Bool) (z : ℤ) → nat_abs (if b then z else pos 0) ≡ (if b then nat_abs z else 0)
    part true z = refl
    part false z = refl

D_part : (ts : List Term) (k : ℕ) → nat_abs (D ts k) ≤ nat_abs (sum_d k ts)
unfolding D
D_part ts zero = omega arith
D_part ts (suc k) = N.le_refl (nat_abs (sum_d (suc k) ts))

pub D_le : (ts : List Term) (k : ℕ) → nat_abs (D ts k) ≤ size_d ts
D_le ts k = N.le_trans (D_part ts k) (sum_d_le k ts)

pub H_le : (ts : List Term) (k : ℕ) → H ts k ≤ size_h ts
unfolding H
H_le ts zero = omega arith
H_le ts (suc k) = sum_h_le (suc k) ts

pub D_sum_le : (ts : List Term) (n : ℕ) → sum n (λ k. nat_abs (D ts k)) ≤ size_d ts
D_sum_le ts n =
    omega (arith, sum_two n (λ k. nat_abs (D ts k)) (λ k. nat_abs (sum_d k ts)) (λ k. 0) (λ k. omega (arith, D_part ts k)), sum_nothing n, sums_D n ts)
