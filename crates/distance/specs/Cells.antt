-- The distance of every cell, for lives that pass refusals 6 to 8: f(x) is within R(x) of the recursion without roundings, which
-- is within 2 E of the exact distribution, all places up to X added (rounded, cut). So f(x) and 10^12 times the exact value differ
-- by at most R(x) + 2 E (cell-close), and these distances up to x add to at most R(0) + .. + R(x) + 2 E (cells-close).
use Rattle.std.specs.Prelude.{◌≡◌, List, ℕ, suc, ◌≤◌ as ◌≤ⁿ◌, ◌+◌ as ◌+ⁿ◌, ◌*◌ as ◌*ⁿ◌, ◌-◌ as ◌∸◌}
use Rattle.std.proofs.Common.{sym, ◌∙◌, ap, ap₂, arith}
use Rattle.std.proofs.Math.Path.{subst}
use Rattle.algebra.specs.Solver.{ring3, ring4, ◌⊕◌, ◌⊗◌, ◌⊝◌, ◌:=◌}
use Rattle.algebra.specs.Q.{ℚ_ring, zero_q, ◌+ℚ◌, ◌-ℚ◌, ◌*ℚ◌, ◌≤ℚ◌, abs, ≤_refl, ≤_trans, ≤_of_eq, ≤_add, ≤_mul_left, mul_nn, abs_nn, abs_add, abs_scale}
use Rattle.algebra.specs.Embedding.{ofℤ, nat, nat_add, nat_mul, nat_nn, nat_le}
use Rattle.algebra.specs.Quotient.{over, over_ok, cancel}
use Rattle.algebra.specs.RationalSum.{sum, sum_n, sum_add, sum_mul, sum_mono, sum_grow, sum_term, nat_sum}
use Rattle.algebra.specs.PowerSeries.{Ser, θ_zero}
use Rattle.expansion.specs.Member.{logs, transform}
use Rattle.expansion.specs.Solution.{solution, solution_zero, solution_step}
use Rattle.expansion.specs.Total.{exact_series, total_63}
use Rattle.fund.specs.declared.Frequencies.{Frequencies}
use Rattle.fund.specs.declared.Life.{Life}
use Rattle.fund.specs.Limits.{most_truncation}
use Rattle.fund.specs.Transform.{unit, terms, D, H, lambda, truncation}
use Rattle.fund.specs.Recursion.{Cell, start, start_bound, entries}
use Rattle.laws.specs.Accepted.{all_map}
use Rattle.laws.specs.Cells.{term_cell, term_cell_f, term_cell_R, cell_at_zero}
use Rattle.distance.specs.Errors.{U, unit_pos}
use Rattle.distance.specs.Recursion.{Steps, recursion_close}
use Rattle.distance.specs.Start.{start_close}
use Rattle.distance.specs.Lives.{members, W, rate}
use Rattle.distance.specs.Transform.{limited_fair, transform_close}
use Rattle.distance.specs.Members.{Priceable, members_good, members_share, errors_are, group, start_is}

seven : (E : ℕ) → E ≤ⁿ most_truncation → 7 *ⁿ E ≤ⁿ unit *ⁿ 3
unfolding unit
seven E h = omega arith

module _ (X r : ℕ) (a : Frequencies) (ms : List Life) (small : r ≤ⁿ 12) (p : Priceable r a ms) where
  abbrev first : Cell
  first = record { f = start (lambda a ms) ms; R = start_bound (lambda a ms) ms }

  -- the method's cells
  abbrev pub cell : ℕ → Cell
  cell = term_cell (terms X r a ms) X first

  -- the exact distribution, and the recursion with the transform cut at order r, without roundings
  abbrev pub P : Ser
  P = exact_series 63 (rate a ms) (W a ms) (members r ms)

  abbrev T : Ser
  T = transform r (members r ms) (W a ms)

  unfoldable pub F : Ser
  F = solution T (P 0)

  T_zero : T 0 ≡ zero_q
  T_zero = ap₂ ◌+ℚ◌ (θ_zero (logs r (members r ms))) (θ_zero (W a ms)) ∙ ℚ_ring.add-zero zero_q

  steps : Steps X (D (terms X r a ms)) (H (terms X r a ms)) (λ x. (cell x).f) (λ x. (cell x).R)
  steps = record { f_step = term_cell_f (terms X r a ms) X first; R_step = term_cell_R (terms X r a ms) X first }

  F_start : F 0 ≡ P 0
  unfolding F
  F_start = solution_zero T (P 0)

  F_step : (x : ℕ) → x ≤ⁿ X → nat x *ℚ F x ≡ sum x (λ k. T (suc k) *ℚ F (x ∸ suc k))
  unfolding F
  F_step x l = solution_step T (P 0) T_zero x

  -- ---- the roundings
  at_start : abs (ofℤ (cell 0).f -ℚ U *ℚ F 0) ≤ℚ nat (cell 0).R
  unfolding rate
  at_start =
      subst (λ (y : Cell). abs (ofℤ y.f -ℚ U *ℚ F 0) ≤ℚ nat y.R) (sym (cell_at_zero (entries (terms X r a ms) X) first))
      (subst (λ y. abs (ofℤ (start (lambda a ms) ms) -ℚ U *ℚ y) ≤ℚ nat (start_bound (lambda a ms) ms)) (sym (F_start ∙ start_is r a ms p.limited p.folded))
      (start_close (lambda a ms) ms))

  pub rounded : (x : ℕ) → x ≤ⁿ X → abs (ofℤ (cell x).f -ℚ U *ℚ F x) ≤ℚ nat (cell x).R
  rounded = recursion_close X (D (terms X r a ms)) (H (terms X r a ms)) (λ x. (cell x).f) (λ x. (cell x).R) steps T F
      (transform_close X r a ms small (all_map limited_fair ms p.limited)) at_start F_step

  -- ---- the cut
  abbrev E : ℕ
  E = truncation r ms

  -- the distances of F from P, in units, add to at most 2 E
  pub cut : sum (suc X) (λ x. U *ℚ abs (F x -ℚ P x)) ≤ℚ nat (2 *ⁿ E)
  cut =
      ≤_trans (≤_of_eq (sum_mul (suc X) U (λ x. abs (F x -ℚ P x)))) (≤_trans (≤_mul_left U (nat_nn unit) whole) (≤_of_eq
      (ring3 ℚ_ring (λ u t e. u ⊗ (t ⊗ e) := t ⊗ (u ⊗ e)) tt U (nat 2) (over (nat E) unit) ∙ ap (λ y. nat 2 *ℚ y) (over_ok (nat E) unit unit_pos) ∙ sym (nat_mul 2 E))))
    where
      tiny : nat 7 *ℚ over (nat E) unit ≤ℚ nat 3
      tiny = cancel unit unit_pos (≤_trans (≤_of_eq
          (ring3 ℚ_ring (λ u s e. u ⊗ (s ⊗ e) := s ⊗ (u ⊗ e)) tt U (nat 7) (over (nat E) unit) ∙ ap (λ y. nat 7 *ℚ y) (over_ok (nat E) unit unit_pos) ∙ sym (nat_mul 7 E)))
          (≤_trans (nat_le (seven E p.truncation_within)) (≤_of_eq (nat_mul unit 3))))

      whole : sum (suc X) (λ x. abs (F x -ℚ P x)) ≤ℚ nat 2 *ℚ over (nat E) unit
      whole = total_63 (members r ms) (members_share r ms p.limited p.folded) (W a ms) (rate a ms) (group r a ms p) X r (members_good r ms p.limited p.folded) F
          (record { start = F_start; step = F_step }) (over (nat E) unit) (≤_of_eq (errors_are r ms)) tiny

  -- ---- together
  pub apart : (x : ℕ) → x ≤ⁿ X → abs (ofℤ (cell x).f -ℚ U *ℚ P x) ≤ℚ nat (cell x).R +ℚ U *ℚ abs (F x -ℚ P x)
  apart x l =
      ≤_trans (≤_of_eq (ap abs (ring4 ℚ_ring (λ f u s t. f ⊝ u ⊗ t := (f ⊝ u ⊗ s) ⊕ u ⊗ (s ⊝ t)) tt (ofℤ (cell x).f) U (F x) (P x))))
      (≤_trans (abs_add (ofℤ (cell x).f -ℚ U *ℚ F x) (U *ℚ (F x -ℚ P x))) (≤_add (rounded x l) (≤_of_eq (abs_scale U (F x -ℚ P x) (nat_nn unit)))))

  pub gap_nn : (x : ℕ) → zero_q ≤ℚ U *ℚ abs (F x -ℚ P x)
  gap_nn x = mul_nn (nat_nn unit) (abs_nn (F x -ℚ P x))

  pub cell_near : (x : ℕ) → x ≤ⁿ X → abs (ofℤ (cell x).f -ℚ U *ℚ P x) ≤ℚ nat ((cell x).R +ⁿ 2 *ⁿ E)
  cell_near x l =
      ≤_trans (apart x l) (≤_trans (≤_add (≤_refl (nat (cell x).R)) (≤_trans (sum_term (suc X) x (λ y. U *ℚ abs (F y -ℚ P y)) gap_nn (omega arith)) cut)) (≤_of_eq (sym (nat_add (cell x).R (2 *ⁿ E)))))

  pub cells_near : (x : ℕ) → x ≤ⁿ X → sum (suc x) (λ y. abs (ofℤ (cell y).f -ℚ U *ℚ P y)) ≤ℚ nat (sum_n (suc x) (λ y. (cell y).R) +ⁿ 2 *ⁿ E)
  cells_near x l =
      ≤_trans (sum_mono (suc x) (λ y. abs (ofℤ (cell y).f -ℚ U *ℚ P y)) (λ y. nat (cell y).R +ℚ U *ℚ abs (F y -ℚ P y)) (λ y k. apart y (omega arith)))
      (≤_trans (≤_of_eq (sum_add (suc x) (λ y. nat (cell y).R) (λ y. U *ℚ abs (F y -ℚ P y)) ∙ ap (λ z. z +ℚ sum (suc x) (λ y. U *ℚ abs (F y -ℚ P y))) (sym (nat_sum (suc x) (λ y. (cell y).R)))))
      (≤_trans (≤_add (≤_refl (nat (sum_n (suc x) (λ y. (cell y).R)))) (≤_trans (sum_grow (suc x) (suc X) (λ y. U *ℚ abs (F y -ℚ P y)) gap_nn (omega arith)) cut))
      (≤_of_eq (sym (nat_add (sum_n (suc x) (λ y. (cell y).R)) (2 *ⁿ E))))))
