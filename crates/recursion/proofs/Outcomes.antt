-- From the tests and the steps to the definition's answer: the start in its cell (start_cell, steps_from), cells that stop (stopped_at,
-- stopped_none), and what is left in each case (outcome_tested, outcome_steps, outcome_broken, outcome_done).
use mathlib.Core.Path.{◌≡◌, refl, sym, ◌∙◌, ap, ap₂, subst}
use mathlib.Core.Bool.{true, false, true≢false}
use mathlib.Core.List.{List, [], ◌∷◌, map}
use Prim.Native.Nat.{ℕ, zero, suc, ◌+◌, ◌<◌}
use native.Mathlib.Nat as N
use native.Mathlib.Omega.{arith}
use borrow.Author.Tests.{lt-ltb}
use lib.IntN.{ℤ, pos, nat_abs}
use lib.ListN.{drop, replicate, set, length-replicate}
use lib.Seq.{get_or-set_same}
use Rattle.std.specs.Prelude.{if◌then◌else◌, ⊤, Result, Ok, Err}
use Rattle.std.specs.Result.{is_err}
use Rattle.fund.specs.Base.{table}
use Rattle.fund.specs.Recursion.{Cell}
use Rattle.fund.specs.Refusals.{wide}
use Rattle.fund.specs.Answer.{lent}
use Rattle.laws.specs.Tables.{table_first, map_table}
use Rattle.laws.specs.Slices.{lent_is}
use Rattle.laws.specs.Valued.{narrow_cell, wide_cell}
use Rattle.laws.specs.Cells.{cell_at, cells_are}
use Rattle.recursion_limits.specs.declared.Broken.{Broken}
use Rattle.recursion_limits.specs.declared.Broken.TheVariants.{Short, Outside, Wide, Large}
use Rattle.recursion_limits.specs.Limits.{most_cell, CellFits}
use Rattle.recursion_limits.specs.Tests.{large, tested, Kept}
use Rattle.recursion_limits.proofs.TestedLimits.{small_cell, tested_kept}
use Rattle.recursion.specs.Slices.{cell_in, entries_in}
use Rattle.recursion.specs.Recursion.{stopped, cells_to, after, recursed, left_cells, leaves, recursion}
use Rattle.recursion.specs.Steps.{CellsFilled, StepsTo, StepsFrom, CarriedOut}

-- ---- the start
pub start_cell : (nf nr : ℕ) (z : ℤ) (n : ℕ) → 0 < nf → 0 < nr → cell_in (set (replicate nf (pos 0)) 0 z) (set (replicate nr 0) 0 n) 0 ≡ record { f = z; R = n }
start_cell nf nr z n p q =
    ap₂ (λ x y. record { f = x; R = y })
    (get_or-set_same (replicate nf (pos 0)) 0 z (pos 0) (omega (arith, length-replicate nf (pos 0))))
    (get_or-set_same (replicate nr 0) 0 n 0 (omega (arith, length-replicate {A = ℕ} nr 0)))

-- a store at place 0 leaves what stands beyond
drop_set : {A : Type 0} (X : ℕ) (s : List A) (a : A) → drop (suc X) (set s 0 a) ≡ drop (suc X) s
drop_set X [] a = refl
drop_set X (b ∷ s) a = refl

pub steps_from : (X : ℕ) (cell cell' : ℕ → Cell) (f f₁ f' : List ℤ) (r r₁ r' : List ℕ) (z : ℤ) (n : ℕ) (a : Result ⊤ Broken) → cell ≡ cell' →
    f₁ ≡ set f 0 z → r₁ ≡ set r 0 n → StepsTo X cell f₁ f' r₁ r' a → StepsTo X cell' f f' r r' a
steps_from X cell cell' f f₁ f' r r₁ r' z n a e f_is r_is k = go a (subst (λ c. StepsTo X c f₁ f' r₁ r' a) e k)
  where
    go : (a : Result ⊤ Broken) → StepsTo X cell' f₁ f' r₁ r' a → StepsTo X cell' f f' r r' a
    go (Ok tt) k =
        record {
          f_are = k.f_are;
          r_are = k.r_are;
          f_beyond = k.f_beyond ∙ ap (drop (suc X)) f_is ∙ drop_set X f z;
          r_beyond = k.r_beyond ∙ ap (drop (suc X)) r_is ∙ drop_set X r n;
          fit = k.fit;
        }
    go (Err Short) k = k
    go (Err (Outside j)) k = k
    go (Err (Wide x)) k = k
    go (Err (Large x)) k = k

-- ---- the first cell that is not within the limits
large_cell : (y : Cell) → most_cell < nat_abs y.f → large y ≡ true
unfolding large
large_cell y h = lt-ltb _ _ h

abbrev step : ℕ → Cell → Result ⊤ Broken → Result ⊤ Broken
step x y after = if wide y then Err (Wide x) else if large y then Err (Large x) else after

step_fits : (x : ℕ) (y : Cell) (after : Result ⊤ Broken) → CellFits y → step x y after ≡ after
step_fits x y after h = rw (narrow_cell y h.narrow, small_cell y h)

stopped_first : (at n : ℕ) (g : ℕ → Cell) → stopped at (table (suc n) g) ≡ step at (g 0) (stopped (suc at) (table n (λ k. g (suc k))))
unfolding stopped
stopped_first at n g = ap (stopped at) (table_first n g)

pub stopped_none : (at n : ℕ) (g : ℕ → Cell) → ((k : ℕ) → k < n → CellFits (g k)) → stopped at (table n g) ≡ Ok tt
unfolding stopped table
stopped_none at zero g h = refl
stopped_none at (suc n) g h =
    stopped_first at n g
    ∙ step_fits at (g 0) _ (h 0 (omega arith))
    ∙ stopped_none (suc at) n (λ k. g (suc k)) (λ k l. h (suc k) (omega arith))

pub stopped_at : (at n x : ℕ) (g : ℕ → Cell) (a : Result ⊤ Broken) → x < n → ((k : ℕ) → k < x → CellFits (g k)) → ((after : Result ⊤ Broken) → step (at + x) (g x) after ≡ a) → stopped at (table n g) ≡ a
stopped_at at zero x g a l h s = absurd (omega arith)
stopped_at at (suc n) zero g a l h s = stopped_first at n g ∙ subst (λ m. (after : Result ⊤ Broken) → step m (g 0) after ≡ a) (let e : at + 0 ≡ at = omega arith in e) s _
stopped_at at (suc n) (suc x) g a l h s =
    stopped_first at n g
    ∙ step_fits at (g 0) _ (h 0 (omega arith))
    ∙ stopped_at (suc at) n x (λ k. g (suc k)) a (omega arith) (λ k q. h (suc k) (omega arith)) (subst (λ m. (after : Result ⊤ Broken) → step m (g (suc x)) after ≡ a) (let e : at + suc x ≡ suc at + x = omega arith in e) s)

module _ (X : ℕ) (d : List ℤ) (h : List ℕ) (start : Cell) (nf nr : ℕ) where
  abbrev cell : ℕ → Cell
  cell = cell_at (entries_in X d h) start

  are : cells_to X d h start ≡ table (suc X) cell
  unfolding cells_to
  are = cells_are (entries_in X d h) start X

  -- a limit is broken
  pub outcome_tested : (f : List ℤ) (r : List ℕ) (limit : Broken) → tested X d h start nf nr ≡ Err limit → recursed X d h start nf nr ≡ Err limit
  unfolding recursed
  outcome_tested f r limit t = ap (λ a. after a (stopped 0 (cells_to X d h start))) t

  -- all limits are kept
  module _ (kept : Kept X d h start nf nr) where
    rest : recursed X d h start nf nr ≡ stopped 0 (table (suc X) cell)
    unfolding recursed
    rest = ap (λ a. after a (stopped 0 (cells_to X d h start))) (tested_kept X d h start nf nr kept) ∙ ap (stopped 0) are

    module _ (f : List ℤ) (r : List ℕ) (s : CellsFilled X cell (replicate nf (pos 0)) f (replicate nr 0) r) where
      f_lent : f ≡ lent (pos 0) nf (map (λ (y : Cell). y.f) (cells_to X d h start))
      f_lent =
          lent_is (pos 0) nf X (λ k. (cell k).f) f s.f_are s.f_beyond
          ∙ ap (lent (pos 0) nf) (sym (map_table (λ (y : Cell). y.f) (suc X) cell) ∙ ap (map (λ (y : Cell). y.f)) (sym are))

      r_lent : r ≡ lent 0 nr (map (λ (y : Cell). y.R) (cells_to X d h start))
      r_lent =
          lent_is 0 nr X (λ k. (cell k).R) r s.r_are s.r_beyond
          ∙ ap (lent 0 nr) (sym (map_table (λ (y : Cell). y.R) (suc X) cell) ∙ ap (map (λ (y : Cell). y.R)) (sym are))

      done : left_cells (Ok tt) f r ≡ recursion X d h start nf nr
      unfolding recursion leaves
      done = rw (rest ∙ stopped_none 0 (suc X) cell (λ k l. s.fit k (N.le_of_suc-le-suc l))) (ap₂ (left_cells (Ok tt)) f_lent r_lent)

    pub outcome_steps : (f : List ℤ) (r : List ℕ) (a : Result ⊤ Broken) → StepsFrom X d h start nf nr f r a → CarriedOut X d h start nf nr f r a
    outcome_steps f r (Ok tt) s = done f r s
    outcome_steps f r (Err Short) s = absurd s
    outcome_steps f r (Err (Outside k)) s = absurd s
    outcome_steps f r (Err (Wide x)) s =
        rest ∙ stopped_at 0 (suc X) x cell (Err (Wide x)) (let l = s.within in omega arith) s.fit
        (λ after. rw (wide_cell (cell x) s.wide) (ap (λ n. Err (Wide n)) (let e : 0 + x ≡ x = omega arith in e)))
    outcome_steps f r (Err (Large x)) s =
        rest ∙ stopped_at 0 (suc X) x cell (Err (Large x)) (let l = s.within in omega arith) s.fit
        (λ after. rw (narrow_cell (cell x) s.narrow, large_cell (cell x) s.large) (ap (λ n. Err (Large n)) (let e : 0 + x ≡ x = omega arith in e)))

  -- what is left where a limit is broken, and where none is
  pub outcome_broken : (f f' : List ℤ) (r r' : List ℕ) (a : Result ⊤ Broken) → is_err a ≡ true → CarriedOut X d h start nf nr f r a →
      f' ≡ replicate nf (pos 0) → r' ≡ replicate nr 0 → left_cells a f' r' ≡ recursion X d h start nf nr
  unfolding recursion leaves
  outcome_broken f f' r r' (Ok tt) b o p q = absurd (true≢false (sym b))
  outcome_broken f f' r r' (Err limit) b o p q = rw o (ap₂ (left_cells (Err limit)) p q)

  pub outcome_done : (f : List ℤ) (r : List ℕ) (a : Result ⊤ Broken) → is_err a ≡ false → CarriedOut X d h start nf nr f r a → left_cells a f r ≡ recursion X d h start nf nr
  outcome_done f r (Ok tt) b o = o
  outcome_done f r (Err limit) b o = absurd (true≢false b)
