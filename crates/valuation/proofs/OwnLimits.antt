-- A fund's own transform and start keep the recursion's limits (kept), and a cell of a fund is not too large before one is too wide, so that the recursion
-- is done or stops at the first wide cell (recursion_is).
use mathlib.Core.Path.{◌≡◌, refl, sym, ◌∙◌, ap, ap₂, subst}
use mathlib.Core.Bool.{Bool, true, false}
use mathlib.Core.List.{List, ◌∷◌, ◌++◌, reverse}
use Prim.Native.Nat.{ℕ, zero, suc, ◌+◌, ◌<◌, ◌≤◌}
use native.Mathlib.Omega.{arith}
use borrow.Author.Tests.{le-ltb, ltb-false}
use lib.IntN.{ℤ, pos, nat_abs}
use lib.ListN.{length, get_or, length-append}
use Rattle.algebra.specs.NatSum.{sum_n_ext, sum_n_first}
use Rattle.fund.specs.declared.Fund.{Fund}
use Rattle.fund.specs.declared.Life.{Life}
use Rattle.fund.specs.Base.{table}
use Rattle.fund.specs.Limits.{most_bound}
use Rattle.fund.specs.Transform.{Term, terms, D, H}
use Rattle.fund.specs.Recursion.{Cell, entries, cells}
use Rattle.fund.specs.Refusals.{first, wide}
use Rattle.fund.specs.Answer.{fund_terms, fund_start, fund_cells}
use Rattle.laws.specs.Tables.{length_table, table_first}
use Rattle.laws.specs.Cells.{cell_at_zero, sum_is}
use Rattle.laws.specs.Slices.{D_at, H_at, entries_are}
use Rattle.laws.specs.Answer.{fund_cell, fund_cells_are}
use Rattle.distance.specs.Members.{Priceable}
use Rattle.distance.specs.Widths.{f_small}
use Rattle.widths.specs.Widths.{width_D, width_H, H_le, D_sum_le}
use Rattle.std.specs.Prelude.{⊤, Option, Some, None, Result, Ok, Err}
use Rattle.recursion_limits.specs.declared.Broken.{Broken}
use Rattle.recursion_limits.specs.declared.Broken.TheVariants.{Wide}
use Rattle.recursion_limits.specs.Limits.{most_cell, CellFits, TransformFits}
use Rattle.recursion_limits.specs.Tests.{large}
use Rattle.recursion_limits.proofs.TestedLimits.{tested_kept}
use Rattle.recursion.specs.Recursion.{stopped, cells_to, leaves, recursion, recursed, after}
use Rattle.totals.specs.Table.{Members}
use Rattle.totals.specs.Inside.{HeaderIn}

-- ---- the first wide cell
abbrev pub answer_of : Option ℕ → Result ⊤ Broken
answer_of None = Ok tt
answer_of (Some x) = Err (Wide x)

narrow_more : (g : ℕ → Cell) → (g 0).R ≤ most_bound → (x : ℕ) → ((k : ℕ) → k ≤ x → (g (suc k)).R ≤ most_bound) → (k : ℕ) → k ≤ suc x → (g k).R ≤ most_bound
narrow_more g first x rest zero l = first
narrow_more g first x rest (suc k) l = rest k (omega arith)

narrow_first : (g : ℕ → Cell) → (g 0).R ≤ most_bound → (k : ℕ) → k ≤ 0 → (g k).R ≤ most_bound
narrow_first g first zero l = first
narrow_first g first (suc k) l = absurd (omega arith)

pub narrow_of : (y : Cell) → wide y ≡ false → y.R ≤ most_bound
unfolding wide
narrow_of y e = ltb-false most_bound y.R e

level_of : (y : Cell) → nat_abs y.f ≤ most_cell → large y ≡ false
unfolding large
level_of y h = le-ltb most_cell (nat_abs y.f) h

one_more : (at : ℕ) (y : Cell) (rest : List Cell) → (wide y ≡ false → large y ≡ false) → (wide y ≡ false → stopped (suc at) rest ≡ answer_of (first wide (suc at) rest)) →
    stopped at (y ∷ rest) ≡ answer_of (first wide at (y ∷ rest))
unfolding stopped first
one_more at y rest level later = go (wide y) refl
  where
    go : (b : Bool) → wide y ≡ b → stopped at (y ∷ rest) ≡ answer_of (first wide at (y ∷ rest))
    go true e = rw e refl
    go false e = rw (e, level e) (later e)

-- no cell is too large before one is too wide
pub stopped_wide : (at n : ℕ) (g : ℕ → Cell) → ((x : ℕ) → x < n → ((k : ℕ) → k ≤ x → (g k).R ≤ most_bound) → nat_abs (g x).f ≤ most_cell) → stopped at (table n g) ≡ answer_of (first wide at (table n g))
unfolding stopped first table
stopped_wide at zero g h = refl
stopped_wide at (suc n) g h =
    ap (stopped at) (table_first n g)
    ∙ one_more at (g 0) (table n (λ k. g (suc k)))
    (λ e. level_of (g 0) (h 0 (omega arith) (narrow_first g (narrow_of (g 0) e))))
    (λ e. stopped_wide (suc at) n (λ k. g (suc k)) (λ x l b. h (suc x) (omega arith) (narrow_more g (narrow_of (g 0) e) x b)))
    ∙ ap (λ l. answer_of (first wide at l)) (sym (table_first n g))

-- ---- a fund that passes 7 and 8, with slices that are long enough
pub record FundFits (fund : Fund) (ms : List Life) : Type 0 where
  pub members : Members ms
  pub header : HeaderIn fund
  pub priceable : Priceable fund.order fund.frequency ms

module _ (fund : Fund) (ms : List Life) (fits : FundFits fund ms) where
  abbrev X : ℕ
  X = fund.horizon

  level : (x : ℕ) → x ≤ X → ((k : ℕ) → k ≤ x → (fund_cell fund ms k).R ≤ most_bound) → nat_abs (fund_cell fund ms x).f ≤ most_cell
  unfolding fund_terms fund_start
  level x l narrow = let s = f_small X fund.order fund.frequency ms fits.header.order fits.priceable fits.header.horizon x l narrow in omega arith

  pub stopped_is : stopped 0 (fund_cells fund ms) ≡ answer_of (first wide 0 (fund_cells fund ms))
  stopped_is =
      ap (stopped 0) (fund_cells_are fund ms)
      ∙ stopped_wide 0 (suc X) (fund_cell fund ms) (λ x l. level x (omega arith))
      ∙ ap (λ c. answer_of (first wide 0 c)) (sym (fund_cells_are fund ms))

  module _ (td : List ℤ) (th : List ℕ) (rd : List ℤ) (rh : List ℕ) (d_is : td ≡ table (suc X) (D (fund_terms fund ms)) ++ rd) (h_is : th ≡ table (suc X) (H (fund_terms fund ms)) ++ rh) where
    -- the transform in its slices is within the recursion's limits
    limits : TransformFits X td th
    unfolding fund_terms
    limits =
        let h = fits.header in
        let l = fits.members in
        record {
          horizon = h.horizon;
          d_long = omega (arith, ap length d_is, length-append (table (suc X) (D ts)) rd, length_table (suc X) (D ts));
          h_long = omega (arith, ap length h_is, length-append (table (suc X) (H ts)) rh, length_table (suc X) (H ts));
          sizes_within =
              omega (
                arith,
                sum_n_ext X (λ k. nat_abs (get_or td (suc k) (pos 0))) (λ k. nat_abs (D ts (suc k))) (λ k g. ap nat_abs (D_at ts X td th rd rh d_is h_is (suc k) (omega arith))),
                sum_n_first X (λ k. nat_abs (D ts k)),
                sum_is (suc X) (λ k. nat_abs (D ts k)),
                D_sum_le ts (suc X),
                width_D X fund.order fund.frequency ms h.horizon h.order l.few l.in_range fits.priceable.load_within,
              );
          errors = λ k g. omega (arith, H_at ts X td th rd rh d_is h_is (suc k) (omega arith), H_le ts (suc k), width_H X fund.order fund.frequency ms h.horizon h.order l.few l.in_range);
        }
      where
        ts : List Term
        ts = terms X fund.order fund.frequency ms

    same_cells : cells_to X td th (fund_start fund ms) ≡ fund_cells fund ms
    unfolding cells_to fund_cells
    same_cells = ap (λ ks. reverse (cells ks (fund_start fund ms) X)) (entries_are (fund_terms fund ms) X td th rd rh d_is h_is)

    module _ (bound : (fund_start fund ms).R ≤ 691 + length ms) where
      start_narrow : (fund_start fund ms).R ≤ most_bound
      start_narrow = let k = fits.members.few in omega (arith, bound)

      start_fits : CellFits (fund_start fund ms)
      start_fits =
          let e = cell_at_zero (entries (fund_terms fund ms) X) (fund_start fund ms) in
          record { narrow = start_narrow; level = subst (λ (y : Cell). nat_abs y.f ≤ most_cell) e (level 0 (omega arith) (narrow_first (fund_cell fund ms) (subst (λ (y : Cell). y.R ≤ most_bound) (sym e) start_narrow))) }

      pub recursion_is : (nf nr : ℕ) → X < nf → X < nr → recursion X td th (fund_start fund ms) nf nr ≡ leaves (fund_cells fund ms) nf nr (answer_of (first wide 0 (fund_cells fund ms)))
      unfolding recursion recursed
      recursion_is nf nr lf lr =
          ap₂ (λ c a. leaves c nf nr a) same_cells
          (ap (λ a. after a (stopped 0 (cells_to X td th (fund_start fund ms)))) (tested_kept X td th (fund_start fund ms) nf nr (record { transform = limits; f_long = lf; r_long = lr; start_fits = start_fits }))
          ∙ ap (stopped 0) same_cells
          ∙ stopped_is)
