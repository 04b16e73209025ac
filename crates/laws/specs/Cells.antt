-- The cells as a sequence: cell_at x is f(x) and R(x), each from those before it by the sums over k (cell_at_f, cell_at_R), for any
-- D and H and for those of a list of terms (term_cell_f, term_cell_R); the list of cells holds them in order (cells_are), and the
-- premium's sums are sums over x below M (sum_below_is, bound_below_is).
use Rattle.std.specs.Prelude.{◌≡◌, List, [], ◌∷◌, reverse, ℤ, pos, nat_abs, ◌+ℤ◌, ◌*ℤ◌, length, get_or}
use Rattle.std.proofs.Math.Path.{refl, ap}
use Rattle.std.proofs.Common.{sym, ◌∙◌, ap₂, zero-add, add-zero}
use Prim.Native.Nat.{ℕ, zero, suc, ◌+◌, ◌-◌, ◌*◌, ◌≤◌, ◌<◌}
use native.Mathlib.Omega.{arith}
use Rattle.std.proofs.Math.IntN.{+ℤ_idl, +ℤ_idr}
use Rattle.algebra.specs.Integer.{ℤ_ring}
use Rattle.algebra.specs.Sum as S
use Rattle.algebra.specs.NatSum.{sum_n, sum_n_ext, sum_n_first}
use Rattle.algebra.specs.RationalSum.{sum_z}
use Rattle.rounding.specs.Rounding.{nearest, up}
use Rattle.fund.specs.Base.{sum, sumℤ, table}
use Rattle.fund.specs.Transform.{unit, Term, D, H}
use Rattle.fund.specs.Recursion.{Cell, Entry, entries, sum_r, sum_f, next_cell, cells}
use Rattle.fund.specs.Premium.{sum_below, bound_below}
use Rattle.laws.specs.Tables.{length_table, get_or_table, table_first, down_from, reverse_down}

-- the definitions' sums are the algebra's
pub sumℤ_is : (n : ℕ) (f : ℕ → ℤ) → sumℤ n f ≡ sum_z n f
unfolding sumℤ
sumℤ_is zero f = refl
sumℤ_is (suc n) f = ap (λ s. s +ℤ f n) (sumℤ_is n f)

pub sum_is : (n : ℕ) (f : ℕ → ℕ) → sum n f ≡ sum_n n f
unfolding sum
sum_is zero f = refl
sum_is (suc n) f = ap (λ s. s + f n) (sum_is n f)

-- ---- the sums over k
-- what one k adds to the sum of f and to the sum of R
abbrev pub add_f : Entry → Cell → ℤ
add_f k y = nearest (k.D *ℤ y.f) unit

abbrev pub add_r : Entry → Cell → ℕ
add_r k y = up (nat_abs k.D * y.R) unit + up (k.H * (nat_abs y.f + y.R)) unit

abbrev pub no_entry : Entry
no_entry = record { D = pos 0; H = 0 }

sum_f_nil : (ks : List Entry) → sum_f ks [] ≡ pos 0
unfolding sum_f
sum_f_nil [] = refl
sum_f_nil (k ∷ ks) = refl

sum_r_nil : (ks : List Entry) → sum_r ks [] ≡ 0
unfolding sum_r
sum_r_nil [] = refl
sum_r_nil (k ∷ ks) = refl

sum_f_is : (ks : List Entry) (g : ℕ → Cell) (m : ℕ) → m < length ks → sum_f ks (down_from g m) ≡ sum_z (suc m) (λ k. add_f (get_or ks k no_entry) (g (m - k)))
unfolding sum_f
sum_f_is [] g m h = absurd (omega arith)
sum_f_is (k ∷ ks) g zero h = ap (λ s. add_f k (g 0) +ℤ s) (sum_f_nil ks) ∙ +ℤ_idr (add_f k (g 0)) ∙ sym (+ℤ_idl (add_f k (g 0)))
sum_f_is (k ∷ ks) g (suc m) h =
    let z : suc m ≡ suc m - 0 = omega arith in
    ap₂ ◌+ℤ◌ (ap (λ i. add_f k (g i)) z) (sum_f_is ks g m (omega arith)
    ∙ S.sum_ext ℤ_ring (suc m) (λ j. add_f (get_or ks j no_entry) (g (m - j))) (λ j. add_f (get_or ks j no_entry) (g (suc m - suc j)))
    (λ j l. ap (λ i. add_f (get_or ks j no_entry) (g i)) (omega arith)))
    ∙ sym (S.sum_first ℤ_ring (suc m) (λ j. add_f (get_or (k ∷ ks) j no_entry) (g (suc m - j))))

sum_r_is : (ks : List Entry) (g : ℕ → Cell) (m : ℕ) → m < length ks → sum_r ks (down_from g m) ≡ sum_n (suc m) (λ k. add_r (get_or ks k no_entry) (g (m - k)))
unfolding sum_r
sum_r_is [] g m h = absurd (omega arith)
sum_r_is (k ∷ ks) g zero h = ap (λ s. add_r k (g 0) + s) (sum_r_nil ks) ∙ add-zero (add_r k (g 0)) ∙ sym (zero-add (add_r k (g 0)))
sum_r_is (k ∷ ks) g (suc m) h =
    let z : suc m ≡ suc m - 0 = omega arith in
    ap₂ ◌+◌ (ap (λ i. add_r k (g i)) z) (sum_r_is ks g m (omega arith)
    ∙ sum_n_ext (suc m) (λ j. add_r (get_or ks j no_entry) (g (m - j))) (λ j. add_r (get_or ks j no_entry) (g (suc m - suc j)))
    (λ j l. ap (λ i. add_r (get_or ks j no_entry) (g i)) (omega arith)))
    ∙ sym (sum_n_first (suc m) (λ j. add_r (get_or (k ∷ ks) j no_entry) (g (suc m - j))))

-- ---- the sequence of cells, for any D(1), H(1), .. and any start
module _ (ks : List Entry) (first : Cell) where
  unfoldable pub cell_at : ℕ → Cell
  cell_at zero = first
  cell_at (suc x) = next_cell ks (suc x) (cells ks first x)

  cells_down : (x : ℕ) → cells ks first x ≡ down_from cell_at x
  unfolding cells cell_at
  cells_down zero = refl
  cells_down (suc x) = ap (λ l. next_cell ks (suc x) (cells ks first x) ∷ l) (cells_down x)

  pub cells_are : (X : ℕ) → reverse (cells ks first X) ≡ table (suc X) cell_at
  cells_are X = ap reverse (cells_down X) ∙ reverse_down cell_at X

  pub cell_at_zero : cell_at 0 ≡ first
  unfolding cell_at
  cell_at_zero = refl

  pub cell_at_f : (m : ℕ) → m < length ks → (cell_at (suc m)).f ≡ nearest (sum_z (suc m) (λ k. add_f (get_or ks k no_entry) (cell_at (m - k)))) (suc m)
  unfolding cell_at next_cell
  cell_at_f m h = ap (λ s. nearest s (suc m)) (ap (sum_f ks) (cells_down m) ∙ sum_f_is ks cell_at m h)

  pub cell_at_R : (m : ℕ) → m < length ks → (cell_at (suc m)).R ≡ up (sum_n (suc m) (λ k. add_r (get_or ks k no_entry) (cell_at (m - k)))) (suc m) + 1
  unfolding cell_at next_cell
  cell_at_R m h = ap (λ s. up s (suc m) + 1) (ap (sum_r ks) (cells_down m) ∙ sum_r_is ks cell_at m h)

-- ---- the entries of a list of terms
abbrev pub entry_at : List Term → ℕ → Entry
entry_at ts k = record { D = D ts (suc k); H = H ts (suc k) }

module _ (ts : List Term) (X : ℕ) (first : Cell) where
  abbrev pub term_cell : ℕ → Cell
  term_cell = cell_at (entries ts X) first

  entry : (k : ℕ) → k < X → get_or (entries ts X) k no_entry ≡ entry_at ts k
  unfolding entries
  entry k h = get_or_table X (entry_at ts) k no_entry h

  long : (m : ℕ) → m < X → m < length (entries ts X)
  unfolding entries
  long m h = let e = length_table X (entry_at ts) in omega arith

  pub term_cell_f : (m : ℕ) → m < X → (term_cell (suc m)).f ≡ nearest (sum_z (suc m) (λ k. add_f (entry_at ts k) (term_cell (m - k)))) (suc m)
  term_cell_f m h =
      cell_at_f (entries ts X) first m (long m h)
      ∙ ap (λ s. nearest s (suc m)) (S.sum_ext ℤ_ring (suc m) (λ k. add_f (get_or (entries ts X) k no_entry) (term_cell (m - k))) (λ k. add_f (entry_at ts k) (term_cell (m - k)))
      (λ k l. ap (λ e. add_f e (term_cell (m - k))) (entry k (omega arith))))

  pub term_cell_R : (m : ℕ) → m < X → (term_cell (suc m)).R ≡ up (sum_n (suc m) (λ k. add_r (entry_at ts k) (term_cell (m - k)))) (suc m) + 1
  term_cell_R m h =
      cell_at_R (entries ts X) first m (long m h)
      ∙ ap (λ s. up s (suc m) + 1) (sum_n_ext (suc m) (λ k. add_r (get_or (entries ts X) k no_entry) (term_cell (m - k))) (λ k. add_r (entry_at ts k) (term_cell (m - k)))
      (λ k l. ap (λ e. add_r e (term_cell (m - k))) (entry k (omega arith))))

-- ---- the premium's sums
pub sum_below_is : (M n : ℕ) (g : ℕ → Cell) → M ≤ n → sum_below M (table n g) ≡ sum_z M (λ x. pos (M - x) *ℤ (g x).f)
unfolding sum_below
sum_below_is zero n g h = refl
sum_below_is (suc m) zero g h = absurd (omega arith)
sum_below_is (suc m) (suc n) g h =
    let z : suc m ≡ suc m - 0 = omega arith in
    ap (sum_below (suc m)) (table_first n g)
    ∙ ap₂ ◌+ℤ◌ (ap (λ i. pos i *ℤ (g 0).f) z)
    (sum_below_is m n (λ k. g (suc k)) (omega arith)
    ∙ S.sum_ext ℤ_ring m (λ x. pos (m - x) *ℤ (g (suc x)).f) (λ x. pos (suc m - suc x) *ℤ (g (suc x)).f) (λ x l. ap (λ i. pos i *ℤ (g (suc x)).f) (omega arith)))
    ∙ sym (S.sum_first ℤ_ring m (λ x. pos (suc m - x) *ℤ (g x).f))

pub bound_below_is : (M n : ℕ) (g : ℕ → Cell) → M ≤ n → bound_below M (table n g) ≡ sum_n M (λ x. (M - x) * (g x).R)
unfolding bound_below
bound_below_is zero n g h = refl
bound_below_is (suc m) zero g h = absurd (omega arith)
bound_below_is (suc m) (suc n) g h =
    let z : suc m ≡ suc m - 0 = omega arith in
    ap (bound_below (suc m)) (table_first n g)
    ∙ ap₂ ◌+◌ (ap (λ i. i * (g 0).R) z)
    (bound_below_is m n (λ k. g (suc k)) (omega arith)
    ∙ sum_n_ext m (λ x. (m - x) * (g (suc x)).R) (λ x. (suc m - suc x) * (g (suc x)).R) (λ x l. ap (λ i. i * (g (suc x)).R) (omega arith)))
    ∙ sym (sum_n_first m (λ x. (suc m - x) * (g x).R))
