-- The tests of the limits: the first H that is above its limit (error_found, error_none), and what each test says of the answer.
use mathlib.Core.Path.{◌≡◌, refl, sym, ◌∙◌, ap, subst}
use mathlib.Core.Bool.{Bool, true, false, true≢false, ◌&&◌, ◌||◌, or-true}
use mathlib.Core.Logic.{⊎_elim}
use mathlib.Core.List.{List, [], ◌∷◌}
use Prim.Native.Nat.{ℕ, suc, ◌+◌, ◌<◌, ◌≤◌}
use native.Mathlib.Nat.{eq-or-lt_of_le, le_of_suc-le-suc}
use native.Mathlib.Numerals.{add-one}
use native.Mathlib.Omega.{arith}
use borrow.Author.Tests.{lt-ltb, lt-leb, le-ltb, leb-true, leb-false}
use lib.Dec.{leb, ltb}
use lib.IntN.{ℤ, pos, nat_abs}
use lib.ListN.{length, get_or}
use Rattle.std.proofs.Common.{Some, None, Ok, Err}
use Rattle.fund.specs.Limits.{most_horizon, most_bound}
use Rattle.fund.specs.Recursion.{Cell}
use Rattle.fund.specs.Refusals.{wide, any_short}
use Rattle.laws.specs.Accepted.{all_long}
use Rattle.laws.specs.Valued.{first_none_of, first_some_of, narrow_cell}
use Rattle.recursion_limits.specs.declared.Broken.TheVariants.{Short, Outside}
use Rattle.recursion_limits.specs.Limits.{sizes, most_transform, most_error, most_cell, CellFits}
use Rattle.recursion_limits.proofs.PartialSums.{sum_n_grow}
use Rattle.recursion_limits.specs.Tests.{large, error_at, sum_or_start, tested, Kept}

pub small_cell : (y : Cell) → CellFits y → large y ≡ false
unfolding large
small_cell y h = le-ltb _ _ h.level

-- ---- the first H above its limit
module _ (h : List ℕ) where
  pub errors_more : (k : ℕ) → ((j : ℕ) → j < k → get_or h (suc j) 0 ≤ most_error) → get_or h (suc k) 0 ≤ most_error → (j : ℕ) → j < suc k → get_or h (suc j) 0 ≤ most_error
  errors_more k i b j l = ⊎_elim (λ e. subst (λ n. get_or h (suc n) 0 ≤ most_error) (sym e) b) (λ g. i j g) (eq-or-lt_of_le (le_of_suc-le-suc l))

  pub error_found : (X k : ℕ) → k < X → ((j : ℕ) → j < k → get_or h (suc j) 0 ≤ most_error) → most_error < get_or h (suc k) 0 → error_at X h ≡ Some (suc k)
  unfolding error_at
  error_found X k l i m =
      first_some_of (ltb most_error) 1 X k (λ j. get_or h (suc j) 0) l (λ j g. le-ltb _ _ (i j g)) (lt-ltb _ _ m)
      ∙ ap Some (let e : 1 + k ≡ suc k = omega arith in e)

  pub error_none : (X : ℕ) → ((j : ℕ) → j < X → get_or h (suc j) 0 ≤ most_error) → error_at X h ≡ None
  unfolding error_at
  error_none X i = first_none_of (ltb most_error) 1 X (λ j. get_or h (suc j) 0) (λ j g. le-ltb _ _ (i j g))

-- ---- the sum of |D(k)|: the limit is passed where less is left than the next size
pub sizes_above : (d : List ℤ) (X k left size : ℕ) → k < X → left + sizes d k ≡ most_transform → size ≡ nat_abs (get_or d (k + 1) (pos 0)) → left < size →
    false ≡ leb (sizes d X) most_transform
sizes_above d X k left size h e s l =
    let g = sum_n_grow (λ j. nat_abs (get_or d (suc j) (pos 0))) (suc k) X (omega arith) in
    let n = rw add-one at s in
    sym (lt-leb (sizes d X) most_transform (omega (arith, n)))

-- ---- the answers
module _ (X : ℕ) (d : List ℤ) (h : List ℕ) (start : Cell) (nf nr : ℕ) where
  pub tested_horizon : most_horizon < X → tested X d h start nf nr ≡ Err (Outside 0)
  unfolding tested
  tested_horizon l = rw (lt-ltb _ _ l)

  module _ (l : X ≤ most_horizon) where
    pub tested_short : any_short (length d ∷ length h ∷ nf ∷ nr ∷ []) X ≡ true → tested X d h start nf nr ≡ Err Short
    unfolding tested
    tested_short s = rw (le-ltb _ _ l, s)

    module _ (s : any_short (length d ∷ length h ∷ nf ∷ nr ∷ []) X ≡ false) where
      pub tested_error : (k : ℕ) → error_at X h ≡ Some k → tested X d h start nf nr ≡ Err (Outside k)
      unfolding tested
      tested_error k e = rw (le-ltb _ _ l, s, e)

      module _ (e : error_at X h ≡ None) where
        pub tested_start : sum_or_start X d start ≡ true → tested X d h start nf nr ≡ Err (Outside 0)
        unfolding tested
        tested_start m = rw (le-ltb _ _ l, s, e, m)

pub tested_kept : (X : ℕ) (d : List ℤ) (h : List ℕ) (start : Cell) (nf nr : ℕ) → Kept X d h start nf nr → tested X d h start nf nr ≡ Ok tt
unfolding tested sum_or_start
tested_kept X d h start nf nr k =
    rw (
      le-ltb _ _ k.transform.horizon,
      all_long (length d ∷ length h ∷ nf ∷ nr ∷ []) X (k.transform.d_long, (k.transform.h_long, (k.f_long, (k.r_long, tt)))),
      error_none h X k.transform.errors,
      le-ltb _ _ k.transform.sizes_within,
      small_cell start k.start_fits,
      narrow_cell start k.start_fits.narrow,
    )

-- ---- what the tests that pass say: f(0) and R(0)
module _ (start : Cell) where
  pub start_of : (leb (nat_abs start.f) most_cell && leb start.R most_bound) ≡ true → CellFits start
  start_of e = go (leb (nat_abs start.f) most_cell) refl e
    where
      go : (b : Bool) → leb (nat_abs start.f) most_cell ≡ b → (b && leb start.R most_bound) ≡ true → CellFits start
      go true a h = record { narrow = leb-true _ _ h; level = leb-true _ _ a }
      go false a h = absurd (true≢false (sym h))

  pub sum_above : (X : ℕ) (d : List ℤ) → most_transform < sizes d X → sum_or_start X d start ≡ true
  unfolding sum_or_start
  sum_above X d m = rw (lt-ltb _ _ m)

  pub start_above : (X : ℕ) (d : List ℤ) → (leb (nat_abs start.f) most_cell && leb start.R most_bound) ≡ false → sum_or_start X d start ≡ true
  unfolding sum_or_start large wide
  start_above X d e = go (leb (nat_abs start.f) most_cell) refl e
    where
      go : (b : Bool) → leb (nat_abs start.f) most_cell ≡ b → (b && leb start.R most_bound) ≡ false →
          (ltb most_transform (sizes d X) || ltb most_cell (nat_abs start.f) || ltb most_bound start.R) ≡ true
      go true a h = rw (lt-ltb most_bound start.R (leb-false _ _ h), or-true)
      go false a h = rw (lt-ltb most_cell (nat_abs start.f) (leb-false _ _ a), or-true)
