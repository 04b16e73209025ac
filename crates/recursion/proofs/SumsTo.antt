-- The sums over k, one k after the other: from none (sums_none) to one more (sums_more), past blank ones (sums_skip) to the next place
-- (sums_at) or to the end (sums_over, sums_end), and that a next k fits (sums_small), since the sizes of D add up to at most their limit.
use mathlib.Core.Path.{◌≡◌, refl, ap, ◌∙◌, subst}
use mathlib.Core.List.{List}
use Prim.Native.Nat.{ℕ, zero, suc, ◌+◌, ◌-◌, ◌≤◌, ◌<◌}
use native.Mathlib.Omega.{arith}
use lib.IntN.{ℤ, pos, nat_abs, ◌+ℤ◌}
use lib.ListN.{length, get_or}
use Rattle.laws.specs.Cells.{add_f, add_r}
use Rattle.whole.specs.declared.Sums.{Sums}
use Rattle.recursion_limits.specs.Limits.{TransformFits}
use Rattle.recursion_limits.proofs.PartialSums.{sum_n_grow}
use Rattle.recursion.specs.Slices.{cell_in, entry_in, CellsFit}
use Rattle.recursion.specs.Places.{Blank, from, Listed}
use Rattle.recursion.specs.Steps.{most_part_sum, SumsFit, ProductAdded, SumsTo}
use Rattle.recursion.proofs.ProductAdded.{added_empty}

module _ (d : List ℤ) (h : List ℕ) (f : List ℤ) (r : List ℕ) (last : ℕ) where
  pub sums_none : (s : Sums) → (s.plus ≡ 0) × ((s.minus ≡ 0) × (s.bound ≡ 0)) → SumsTo d h f r last 0 s
  sums_none s e = record { f_is = rw (e.0, e.1.0) refl; R_is = e.1.1; plus_within = omega arith; minus_within = omega arith; bound_within = omega arith }

  pub sums_more : (k : ℕ) (s t : Sums) → SumsTo d h f r last k s → ProductAdded s (entry_in d h k) (cell_in f r (last - k)) t →
      SumsTo d h f r last (suc k) t
  sums_more k s t i a =
      record {
        f_is = a.f_is ∙ ap (λ z. z +ℤ add_f (entry_in d h k) (cell_in f r (last - k))) i.f_is;
        R_is = a.R_is ∙ ap (λ m. m + add_r (entry_in d h k) (cell_in f r (last - k))) i.R_is;
        plus_within = omega (arith, a.plus_within, i.plus_within);
        minus_within = omega (arith, a.minus_within, i.minus_within);
        bound_within = omega (arith, a.bound_within, i.bound_within);
      }

  -- the sums of a part fit
  pub sums_fit : (X n : ℕ) (s : Sums) → TransformFits X d h → n ≤ X → SumsTo d h f r last n s →
      (s.plus ≤ most_part_sum) × (s.minus ≤ most_part_sum) × (s.bound ≤ most_part_sum)
  sums_fit X n s t l i =
      let g = sum_n_grow (λ k. nat_abs (get_or d (suc k) (pos 0))) n X l in (
        omega (arith, i.plus_within, t.sizes_within),
        omega (arith, i.minus_within, t.sizes_within),
        omega (arith, i.bound_within, t.sizes_within, t.horizon),
      )

  -- a blank k adds nothing
  pub sums_skip : (X n t m : ℕ) (s : Sums) → TransformFits X d h → CellsFit f r last → last < X → m ≡ n + t → m ≤ suc last → ((k : ℕ) → n ≤ k → k < m → Blank d h k) → SumsTo d h f r last n s → SumsTo d h f r last m s
  sums_skip X n zero m s tr y l e j b i = let z : n ≡ m = omega arith in subst (λ q. SumsTo d h f r last q s) z i
  sums_skip X n (suc t) m s tr y l e j b i =
      let z : suc (n + t) ≡ m = omega arith in
      let before = sums_skip X n t (n + t) s tr y l refl (omega arith) (λ k g v. b k g (omega arith)) i in
      let none = b (n + t) (omega arith) (omega arith) in
      subst (λ q. SumsTo d h f r last q s) z
      (sums_more (n + t) s s before
      (added_empty (entry_in d h (n + t)) (cell_in f r (last - (n + t))) (y.fit (last - (n + t)) (omega arith)) (tr.errors (n + t) (omega arith)) s none.0 none.1))

  pub sums_small : (X k : ℕ) (s : Sums) → TransformFits X d h → CellsFit f r last → last < X → k ≤ last → SumsTo d h f r last k s →
      SumsFit s (entry_in d h k) (cell_in f r (last - k))
  sums_small X k s t y l j i =
      let fit = sums_fit X k s t (omega arith) i in
      let g = sum_n_grow (λ k. nat_abs (get_or d (suc k) (pos 0))) (suc k) X (omega arith) in
      record {
        cell_fits = y.fit (last - k) (omega arith);
        transform = omega (arith, t.sizes_within);
        error = t.errors k (omega arith);
        plus_within = fit.0;
        minus_within = fit.1;
        bound_within = fit.2;
      }

  -- the sums up to the next place, or up to `last` where it lies beyond
  module _ (X : ℕ) (list : List ℕ) (s : Sums) (t : TransformFits X d h) (y : CellsFit f r last) (l : last < X) (i : Listed X d h list) where
    pub sums_at : (j : ℕ) → j < length list → get_or list j 0 ≤ last → SumsTo d h f r last (from list j) s → SumsTo d h f r last (get_or list j 0) s
    sums_at j g near k =
        let up = i.rising j g in
        sums_skip X (from list j) (get_or list j 0 - from list j) (get_or list j 0) s t y l (omega arith) (omega arith) (λ n a b. i.before j n g a b) k

    pub sums_over : (j : ℕ) → j < length list → last < get_or list j 0 → from list j ≤ suc last → SumsTo d h f r last (from list j) s → SumsTo d h f r last (suc last) s
    sums_over j g far within k =
        sums_skip X (from list j) (suc last - from list j) (suc last) s t y l (omega arith) (omega arith) (λ n a b. i.before j n g a (omega arith)) k

    pub sums_end : from list (length list) ≤ suc last → SumsTo d h f r last (from list (length list)) s → SumsTo d h f r last (suc last) s
    sums_end within k =
        sums_skip X (from list (length list)) (suc last - from list (length list)) (suc last) s t y l (omega arith) (omega arith) (λ n a b. i.behind n a (omega arith)) k
