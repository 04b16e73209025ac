-- The rows of a sheet's first bytes are the sheet's, or so many rows are (rows_first).
use Rattle.std.specs.Prelude.{◌≡◌, refl, Bool, true, false, List, [], ◌∷◌, ◌++◌, map, ℕ, zero, suc, ◌+◌, ◌-◌, ◌*◌, ◌≤◌, ◌<◌, leb, length, take, drop}
use Rattle.std.proofs.Common.{sym, ◌∙◌, append_assoc, append-nil, le-div_iff_mul-le, leb-true, leb-false, length-take, take_all, take-take}
use Rattle.std.proofs.Math.Path.{ap}
use Rattle.std.proofs.lemmas.List.{map-append, length-map}
use Rattle.std.proofs.Math.Nat.{mul-le-mul_left, mul-suc}
use native.Mathlib.Omega.{arith}
use Rattle.fund.specs.Base.{table}
use Rattle.fund.specs.Sheets.{row_count, row_at, rows_of}
use Rattle.laws.specs.Slices.{table_ext}
use Rattle.laws.specs.Tables.{length_table}

-- Two lists are the same, or they begin with the same elements, so many.
pub data SameFirst {A : Type 0} (count : ℕ) (xs ys : List A) : Type 0 where
  same : xs ≡ ys → SameFirst count xs ys
  both : (front x y : List A) → xs ≡ front ++ x → ys ≡ front ++ y → length front ≡ count → SameFirst count xs ys

table_append : {A : Type 0} (n m : ℕ) (g : ℕ → A) → table (n + m) g ≡ table n g ++ table m (λ k. g (n + k))
unfolding table
table_append n zero g = let e : n + 0 ≡ n = omega arith in ap (λ k. table k g) e ∙ sym (append-nil (table n g))
table_append n (suc m) g =
    let e : n + suc m ≡ suc (n + m) = omega arith in
    ap (λ k. table k g) e
    ∙ ap (λ l. l ++ (g (n + m) ∷ [])) (table_append n m g)
    ∙ append_assoc (table n g) (table m (λ k. g (n + k))) (g (n + m) ∷ [])

take_drop_take : (m n a : ℕ) (l : List ℕ) → n + m ≤ a → take m (drop n (take a l)) ≡ take m (drop n l)
take_drop_take m zero a l h = take-take m a l (omega arith)
take_drop_take m (suc n) zero l h = absurd (omega arith)
take_drop_take m (suc n) (suc a) [] h = refl
take_drop_take m (suc n) (suc a) (b ∷ l) h = take_drop_take m n a l (omega arith)

-- the rows behind so many
abbrev rows_behind : ℕ → ℕ → List ℕ → List (List ℕ)
rows_behind width count sheet = table (row_count width sheet - count) (λ k. row_at width sheet (count + k))

module _ (width : ℕ) (positive : 0 < width) (count : ℕ) where
  enough_rows : (sheet : List ℕ) → width * count ≤ length sheet → count ≤ row_count width sheet
  unfolding row_count
  enough_rows sheet h = (le-div_iff_mul-le positive).1 (omega arith)

  first_rows : (sheet : List ℕ) → width * count ≤ length sheet →
      rows_of width sheet ≡ table count (row_at width sheet) ++ rows_behind width count sheet
  unfolding rows_of
  first_rows sheet h =
      let many = enough_rows sheet h in
      let e : row_count width sheet ≡ count + (row_count width sheet - count) = omega arith in
      ap (λ n. table n (row_at width sheet)) e ∙ table_append count (row_count width sheet - count) (row_at width sheet)

  same_rows : (a : ℕ) (sheet : List ℕ) → width * count ≤ a → table count (row_at width (take a sheet)) ≡ table count (row_at width sheet)
  unfolding row_at
  same_rows a sheet h =
      table_ext count (row_at width (take a sheet)) (row_at width sheet)
      (λ k l. take_drop_take width (width * k) a sheet (omega (arith, mul-le-mul_left width l, mul-suc width k)))

  pub rows_first : (a : ℕ) (sheet : List ℕ) → width * count ≤ a → SameFirst count (rows_of width sheet) (rows_of width (take a sheet))
  rows_first a sheet h = go (leb (length sheet) a) refl
    where
      go : (b : Bool) → leb (length sheet) a ≡ b → SameFirst count (rows_of width sheet) (rows_of width (take a sheet))
      go true e = same (ap (rows_of width) (sym (take_all a sheet (leb-true _ _ e))))
      go false e =
          let long : a < length sheet = leb-false _ _ e in
          both (table count (row_at width sheet)) (rows_behind width count sheet) (rows_behind width count (take a sheet))
          (first_rows sheet (omega arith))
          (first_rows (take a sheet) (omega (arith, length-take a sheet)) ∙ ap (λ l. l ++ rows_behind width count (take a sheet)) (same_rows a sheet h))
          (length_table count (row_at width sheet))

pub map_first : {A B : Type 0} (f : A → B) (count : ℕ) (xs ys : List A) → SameFirst count xs ys → SameFirst count (map f xs) (map f ys)
map_first f count xs ys (same e) = same (ap (map f) e)
map_first f count xs ys (both front x y d e h) =
    both (map f front) (map f x) (map f y) (ap (map f) d ∙ map-append f front x) (ap (map f) e ∙ map-append f front y) (length-map front f ∙ h)
