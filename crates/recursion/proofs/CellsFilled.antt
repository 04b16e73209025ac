-- The slices filled up to a place hold the cells of the recursion (filled_cell). The start fills place 0 (filled_first), the
-- sums over k give the next cell (next_f, next_R), and writing it fills one place more (filled_more).
use mathlib.Core.Path.{◌≡◌, refl, sym, ap, ap₂, subst, ◌∙◌}
use mathlib.Core.Logic.{⊎_elim}
use mathlib.Core.List.{List, [], ◌∷◌, ◌++◌}
use Prim.Native.Nat.{ℕ, suc, ◌+◌, ◌-◌, ◌≤◌, ◌<◌}
use native.Mathlib.Nat as N
use native.Mathlib.Omega.{arith}
use lib.IntN.{ℤ, pos}
use lib.ListN.{length, take, drop, get_or, set}
use lib.Seq.{take-suc, take-suc-set, drop-set-lt, drop-drop, get_or-take}
use Rattle.rounding.specs.Rounding.{nearest, up}
use Rattle.algebra.specs.Integer.{ℤ_ring}
use Rattle.algebra.specs.Sum as S
use Rattle.algebra.specs.RationalSum.{sum_n_ext}
use Rattle.fund.specs.Base.{table}
use Rattle.fund.specs.Recursion.{Cell}
use Rattle.laws.specs.Cells.{add_f, add_r, no_entry, cell_at_zero, cell_at_f, cell_at_R}
use Rattle.laws.specs.Tables.{length_table, get_or_table}
use Rattle.whole.specs.declared.Sums.{Sums}
use Rattle.whole.specs.Sums.{sum_of}
use Rattle.recursion_limits.specs.Limits.{CellFits}
use Rattle.recursion.specs.Slices.{cell_in, entry_in, entries_in, cell_of, CellsFit}
use Rattle.recursion.specs.Steps.{SumsTo, CellsFilled}

abbrev cell_from : ℤ → ℕ → Cell
cell_from z n = record { f = z; R = n }

-- ---- one list
-- an element of a list whose front is a table
front : {A : Type 0} (n : ℕ) (g : ℕ → A) (l : List A) (k : ℕ) (a : A) → take n l ≡ table n g → k < n → get_or l k a ≡ g k
front n g l k a e h = sym (get_or-take n l k a h) ∙ ap (λ t. get_or t k a) e ∙ get_or_table n g k a h

front_first : {A : Type 0} (g : ℕ → A) (l : List A) (a : A) → 0 < length l → get_or l 0 a ≡ g 0 → take 1 l ≡ table 1 g
unfolding table
front_first g l a h e = take-suc l 0 a h ∙ ap (λ x. x ∷ []) e

front_more : {A : Type 0} (n : ℕ) (g : ℕ → A) (l : List A) (a : A) → take n l ≡ table n g → n < length l → a ≡ g n →
    take (suc n) (set l n a) ≡ table (suc n) g
unfolding table
front_more n g l a e h p = take-suc-set l n a h ∙ ap₂ (λ t x. t ++ (x ∷ [])) e p

beyond_more : {A : Type 0} (n : ℕ) (l l₀ : List A) (a : A) → drop n l ≡ drop n l₀ → drop (suc n) (set l n a) ≡ drop (suc n) l₀
beyond_more n l l₀ a e =
    let one : n + 1 ≡ suc n = omega arith in
    drop-set-lt (suc n) l n a (omega arith)
    ∙ sym (drop-drop 1 n l ∙ ap (λ m. drop m l) one)
    ∙ ap (drop 1) e
    ∙ drop-drop 1 n l₀
    ∙ ap (λ m. drop m l₀) one

-- ---- the slices
module _ (X : ℕ) (d : List ℤ) (h : List ℕ) (f₀ : List ℤ) (r₀ : List ℕ) where
  abbrev cell : ℕ → Cell
  cell = cell_of X d h f₀ r₀

  pub filled_first : 0 < length f₀ → 0 < length r₀ → CellFits (cell_in f₀ r₀ 0) → CellsFilled 0 (cell_of X d h f₀ r₀) f₀ f₀ r₀ r₀
  filled_first p q limited =
      let e = cell_at_zero (entries_in X d h) (cell_in f₀ r₀ 0) in
      record {
        f_are = front_first (λ x. (cell x).f) f₀ (pos 0) p (sym (ap (λ (y : Cell). y.f) e));
        r_are = front_first (λ x. (cell x).R) r₀ 0 q (sym (ap (λ (y : Cell). y.R) e));
        f_beyond = refl;
        r_beyond = refl;
        fit = λ x l. let z : x ≡ 0 = omega arith in subst (λ x. CellFits (cell x)) (sym z) (subst CellFits (sym e) limited);
      }

  module _ (f : List ℤ) (r : List ℕ) (last : ℕ) (filled : CellsFilled last (cell_of X d h f₀ r₀) f₀ f r₀ r) where
    pub filled_cell : (x : ℕ) → x ≤ last → cell_in f r x ≡ cell_of X d h f₀ r₀ x
    filled_cell x l =
        ap₂ cell_from
        (front (suc last) (λ x. (cell x).f) f x (pos 0) filled.f_are (omega arith))
        (front (suc last) (λ x. (cell x).R) r x 0 filled.r_are (omega arith))

    pub filled_known : last < length f → last < length r → CellsFit f r last
    filled_known p q = record { f_long = p; r_long = q; fit = λ x l. subst CellFits (sym (filled_cell x l)) (filled.fit x l) }

    entry : (k : ℕ) → k < X → entry_in d h k ≡ get_or (entries_in X d h) k no_entry
    entry k l = sym (get_or_table X (entry_in d h) k no_entry l)

    long : last < X → last < length (entries_in X d h)
    long l = let e = length_table X (entry_in d h) in omega arith

    pub next_f : (s : Sums) → last < X → SumsTo d h f r last (suc last) s →
        nearest (sum_of s) (suc last) ≡ (cell_of X d h f₀ r₀ (suc last)).f
    next_f s l i =
        ap (λ z. nearest z (suc last))
        (i.f_is
        ∙ S.sum_ext ℤ_ring (suc last) (λ k. add_f (entry_in d h k) (cell_in f r (last - k))) (λ k. add_f (get_or (entries_in X d h) k no_entry) (cell (last - k)))
        (λ k g. ap₂ add_f (entry k (omega arith)) (filled_cell (last - k) (omega arith))))
        ∙ sym (cell_at_f (entries_in X d h) (cell_in f₀ r₀ 0) last (long l))

    pub next_R : (s : Sums) → last < X → SumsTo d h f r last (suc last) s → up s.bound (suc last) + 1 ≡ (cell_of X d h f₀ r₀ (suc last)).R
    next_R s l i =
        ap (λ m. up m (suc last) + 1)
        (i.R_is
        ∙ sum_n_ext (suc last) (λ k. add_r (entry_in d h k) (cell_in f r (last - k))) (λ k. add_r (get_or (entries_in X d h) k no_entry) (cell (last - k)))
        (λ k g. ap₂ add_r (entry k (omega arith)) (filled_cell (last - k) (omega arith))))
        ∙ sym (cell_at_R (entries_in X d h) (cell_in f₀ r₀ 0) last (long l))

    pub filled_more : (z : ℤ) (n : ℕ) → suc last < length f → suc last < length r → z ≡ (cell_of X d h f₀ r₀ (suc last)).f →
        n ≡ (cell_of X d h f₀ r₀ (suc last)).R → CellFits (cell_of X d h f₀ r₀ (suc last)) →
        CellsFilled (suc last) (cell_of X d h f₀ r₀) f₀ (set f (suc last) z) r₀ (set r (suc last) n)
    filled_more z n p q zf nr limited =
        record {
          f_are = front_more (suc last) (λ x. (cell x).f) f z filled.f_are p zf;
          r_are = front_more (suc last) (λ x. (cell x).R) r n filled.r_are q nr;
          f_beyond = beyond_more (suc last) f f₀ z filled.f_beyond;
          r_beyond = beyond_more (suc last) r r₀ n filled.r_beyond;
          fit = λ x l. ⊎_elim (λ e. subst (λ x. CellFits (cell x)) (sym e) limited) (λ g. filled.fit x (N.le_of_suc-le-suc g)) (N.eq-or-lt_of_le l);
        }
