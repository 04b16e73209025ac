-- The distances in whole numbers over METHOD 10's denominator: of a cell (cell_distance_lem), of all cells up to x together
-- (cells_distance), and of the premium (premium_distance).
use Rattle.std.specs.Prelude.{◌≡◌, List, nat_abs, ◌*ℤ◌, ◌-ℤ◌}
use Rattle.std.proofs.Math.Path.{sym, ap, ap₂}
use Rattle.std.proofs.Common.{◌∙◌, mul_assoc, mul_left_comm, arith}
use Prim.Native.Nat.{ℕ, suc, ◌<◌, ◌≤◌ as ◌≤ⁿ◌, ◌+◌ as ◌+ⁿ◌, ◌*◌ as ◌*ⁿ◌, ◌-◌ as ◌∸◌, ◌^◌}
use Rattle.std.proofs.Math.IntN.{ℤ, pos}
use Rattle.algebra.specs.Solver.{ring3, ring4, ◌⊕◌, ◌⊗◌, ◌⊝◌, ◌:=◌}
use Rattle.algebra.specs.Q.{ℚ, ℚ_ring, ◌+ℚ◌, ◌-ℚ◌, ◌*ℚ◌, ◌≤ℚ◌, abs, ≤_refl, ≤_trans, ≤_of_eq, ≤_add, ≤_mul_left, ≤_mul_right, abs_scale}
use Rattle.algebra.specs.Embedding.{ofℤ, nat, ofℤ_add, ofℤ_mul, ofℤ_sub, nat_add, nat_mul, nat_nn, nat_le, nat_reflect, abs_ofℤ}
use Rattle.algebra.specs.RationalSum.{sum, sum_n, sum_ext, sum_add, sum_mul, sum_mono, sum_grow, sum_abs, nat_sum, ofℤ_sum}
use Rattle.fund.specs.declared.Frequencies.{Frequencies}
use Rattle.fund.specs.declared.Life.{Life}
use Rattle.fund.specs.Base.{table, sumℤ}
use Rattle.fund.specs.Transform.{unit, truncation}
use Rattle.fund.specs.Recursion.{Cell}
use Rattle.fund.specs.Premium.{sum_below, bound_below, premium, within}
use Rattle.fund.specs.Exact.{denominator, exact, exact_premium}
use Rattle.laws.specs.Cells.{sumℤ_is, sum_below_is, bound_below_is}
use Rattle.distance.specs.Errors.{U, nat_units}
use Rattle.distance.specs.Exact.{exact_is}
use Rattle.distance.specs.Members.{Priceable}
use Rattle.distance.specs.Cells.{cell, P, F, apart, gap_nn, cut, cell_near, cells_near}

module _ (X r : ℕ) (a : Frequencies) (ms : List Life) (small : r ≤ⁿ 12) (p : Priceable r a ms) where
  abbrev y : ℕ → Cell
  y = cell X r a ms small p

  abbrev Δ : ℕ
  Δ = denominator X ms

  abbrev E : ℕ
  E = truncation r ms

  -- the distance of a cell, in whole numbers over the denominator
  abbrev pub gap : ℕ → ℤ
  gap x = pos Δ *ℤ (y x).f -ℤ pos unit *ℤ exact X a ms x

  -- f(x) - 10^12 P(x)
  abbrev off : ℕ → ℚ
  off x = ofℤ (y x).f -ℚ U *ℚ P X r a ms small p x

  gap_is : (x : ℕ) → x ≤ⁿ X → ofℤ (gap x) ≡ nat Δ *ℚ off x
  gap_is x l =
      ofℤ_sub (pos Δ *ℤ (y x).f) (pos unit *ℤ exact X a ms x)
      ∙ ap₂ ◌-ℚ◌ (ofℤ_mul (pos Δ) (y x).f) (ofℤ_mul (pos unit) (exact X a ms x) ∙ ap (λ z. U *ℚ z) (exact_is X r a ms p.limited p.folded x l))
      ∙ ring4 ℚ_ring (λ d f u q. d ⊗ f ⊝ u ⊗ (d ⊗ q) := d ⊗ (f ⊝ u ⊗ q)) tt (nat Δ) (ofℤ (y x).f) U (P X r a ms small p x)

  gap_abs : (x : ℕ) → x ≤ⁿ X → nat (nat_abs (gap x)) ≡ nat Δ *ℚ abs (off x)
  gap_abs x l = sym (abs_ofℤ (gap x)) ∙ ap abs (gap_is x l) ∙ abs_scale (nat Δ) (off x) (nat_nn Δ)

  pub cell_distance_lem : (x : ℕ) → x ≤ⁿ X → nat_abs (gap x) ≤ⁿ Δ *ⁿ ((y x).R +ⁿ 2 *ⁿ E)
  cell_distance_lem x l = nat_reflect (nat_abs (gap x)) (Δ *ⁿ ((y x).R +ⁿ 2 *ⁿ E))
      (≤_trans (≤_of_eq (gap_abs x l)) (≤_trans (≤_mul_left (nat Δ) (nat_nn Δ) (cell_near X r a ms small p x l)) (≤_of_eq (sym (nat_mul Δ ((y x).R +ⁿ 2 *ⁿ E))))))

  pub cells_distance : (x : ℕ) → x ≤ⁿ X → sum_n (suc x) (λ k. nat_abs (gap k)) ≤ⁿ Δ *ⁿ (sum_n (suc x) (λ k. (y k).R) +ⁿ 2 *ⁿ E)
  cells_distance x l = nat_reflect (sum_n (suc x) (λ k. nat_abs (gap k))) (Δ *ⁿ (sum_n (suc x) (λ k. (y k).R) +ⁿ 2 *ⁿ E))
      (≤_trans (≤_of_eq (nat_sum (suc x) (λ k. nat_abs (gap k)) ∙ sum_ext (suc x) (λ k. nat (nat_abs (gap k))) (λ k. nat Δ *ℚ abs (off k)) (λ k h. gap_abs k (omega arith)) ∙ sum_mul (suc x) (nat Δ) (λ k. abs (off k))))
      (≤_trans (≤_mul_left (nat Δ) (nat_nn Δ) (cells_near X r a ms small p x l)) (≤_of_eq (sym (nat_mul Δ (sum_n (suc x) (λ k. (y k).R) +ⁿ 2 *ⁿ E))))))

  -- ---- the premium
  module _ (M mean : ℕ) (below : M ≤ⁿ suc X) where
    abbrev pub ys : List Cell
    ys = table (suc X) y

    abbrev weighted : ℚ
    weighted = sum M (λ x. nat (M ∸ x) *ℚ off x)

    premium_is : ofℤ (premium M mean ys) ≡ nat mean -ℚ nat M *ℚ U +ℚ sum M (λ x. nat (M ∸ x) *ℚ ofℤ (y x).f)
    unfolding premium
    premium_is =
        ofℤ_add (pos mean -ℤ pos (M *ⁿ unit)) (sum_below M ys)
        ∙ ap₂ ◌+ℚ◌ (ofℤ_sub (pos mean) (pos (M *ⁿ unit)) ∙ ap (λ z. nat mean -ℚ z) (nat_mul M unit))
        (ap ofℤ (sum_below_is M (suc X) y below) ∙ ofℤ_sum M (λ x. pos (M ∸ x) *ℤ (y x).f)
        ∙ sum_ext M (λ x. ofℤ (pos (M ∸ x) *ℤ (y x).f)) (λ x. nat (M ∸ x) *ℚ ofℤ (y x).f) (λ x l. ofℤ_mul (pos (M ∸ x)) (y x).f))

    pub exact_premium_is : ofℤ (exact_premium X M mean a ms) ≡ nat Δ *ℚ (nat mean -ℚ nat M *ℚ U +ℚ sum M (λ x. nat (M ∸ x) *ℚ (U *ℚ P X r a ms small p x)))
    unfolding exact_premium
    exact_premium_is =
        ofℤ_add ((pos mean -ℤ pos (M *ⁿ 10 ^ 12)) *ℤ pos Δ) (sumℤ M g)
        ∙ ap₂ ◌+ℚ◌ (ofℤ_mul (pos mean -ℤ pos (M *ⁿ 10 ^ 12)) (pos Δ) ∙ ap (λ z. z *ℚ nat Δ) (ofℤ_sub (pos mean) (pos (M *ⁿ 10 ^ 12)) ∙ ap (λ z. nat mean -ℚ z) (nat_units M)))
        (ap ofℤ (sumℤ_is M g) ∙ ofℤ_sum M g
        ∙ sum_ext M (λ x. ofℤ (g x)) (λ x. nat Δ *ℚ (nat (M ∸ x) *ℚ (U *ℚ P X r a ms small p x)))
        (λ x l. ofℤ_mul (pos ((M ∸ x) *ⁿ 10 ^ 12)) (exact X a ms x) ∙ ap₂ ◌*ℚ◌ (nat_units (M ∸ x)) (exact_is X r a ms p.limited p.folded x (omega arith))
        ∙ ring4 ℚ_ring (λ m u d q. m ⊗ u ⊗ (d ⊗ q) := d ⊗ (m ⊗ (u ⊗ q))) tt (nat (M ∸ x)) U (nat Δ) (P X r a ms small p x))
        ∙ sum_mul M (nat Δ) (λ x. nat (M ∸ x) *ℚ (U *ℚ P X r a ms small p x)))
        ∙ ring3 ℚ_ring (λ c d s. c ⊗ d ⊕ d ⊗ s := d ⊗ (c ⊕ s)) tt (nat mean -ℚ nat M *ℚ U) (nat Δ) (sum M (λ x. nat (M ∸ x) *ℚ (U *ℚ P X r a ms small p x)))
      where
        g : ℕ → ℤ
        g x = pos ((M ∸ x) *ⁿ 10 ^ 12) *ℤ exact X a ms x

    -- the premium's distance, times the denominator
    apart_is : ofℤ (pos Δ *ℤ premium M mean ys -ℤ exact_premium X M mean a ms) ≡ nat Δ *ℚ weighted
    apart_is =
        ofℤ_sub (pos Δ *ℤ premium M mean ys) (exact_premium X M mean a ms)
        ∙ ap₂ ◌-ℚ◌ (ofℤ_mul (pos Δ) (premium M mean ys) ∙ ap (λ z. nat Δ *ℚ z) premium_is) exact_premium_is
        ∙ ap (λ z. nat Δ *ℚ (c +ℚ z) -ℚ nat Δ *ℚ (c +ℚ exact_sum)) split
        ∙ ring4 ℚ_ring (λ d c w e. d ⊗ (c ⊕ (w ⊕ e)) ⊝ d ⊗ (c ⊕ e) := d ⊗ w) tt (nat Δ) c weighted exact_sum
      where
        c : ℚ
        c = nat mean -ℚ nat M *ℚ U

        exact_sum : ℚ
        exact_sum = sum M (λ x. nat (M ∸ x) *ℚ (U *ℚ P X r a ms small p x))

        split : sum M (λ x. nat (M ∸ x) *ℚ ofℤ (y x).f) ≡ weighted +ℚ exact_sum
        split =
            sum_ext M (λ x. nat (M ∸ x) *ℚ ofℤ (y x).f) (λ x. nat (M ∸ x) *ℚ off x +ℚ nat (M ∸ x) *ℚ (U *ℚ P X r a ms small p x))
            (λ x l. ring3 ℚ_ring (λ m f q. m ⊗ f := m ⊗ (f ⊝ q) ⊕ m ⊗ q) tt (nat (M ∸ x)) (ofℤ (y x).f) (U *ℚ P X r a ms small p x))
            ∙ sum_add M (λ x. nat (M ∸ x) *ℚ off x) (λ x. nat (M ∸ x) *ℚ (U *ℚ P X r a ms small p x))

    -- what the cut takes away counts M times at most
    weighted_near : abs weighted ≤ℚ nat (within M E ys)
    unfolding within
    weighted_near =
        ≤_trans (sum_abs M (λ x. nat (M ∸ x) *ℚ off x))
        (≤_trans (sum_mono M (λ x. abs (nat (M ∸ x) *ℚ off x)) (λ x. nat ((M ∸ x) *ⁿ (y x).R) +ℚ nat M *ℚ d x) each)
        (≤_trans (≤_of_eq (sum_add M (λ x. nat ((M ∸ x) *ⁿ (y x).R)) (λ x. nat M *ℚ d x) ∙ ap₂ ◌+ℚ◌ (sym (nat_sum M (λ x. (M ∸ x) *ⁿ (y x).R)) ∙ ap nat (sym (bound_below_is M (suc X) y below))) (sum_mul M (nat M) d)))
        (≤_trans (≤_add (≤_refl (nat (bound_below M ys))) (≤_mul_left (nat M) (nat_nn M) (≤_trans (sum_grow M (suc X) d (gap_nn X r a ms small p) below) (cut X r a ms small p))))
        (≤_of_eq (ap (λ z. nat (bound_below M ys) +ℚ z) (sym (nat_mul M (2 *ⁿ E)) ∙ ap nat (mul_left_comm M 2 E ∙ sym (mul_assoc 2 M E))) ∙ sym (nat_add (bound_below M ys) (2 *ⁿ M *ⁿ E)))))))
      where
        d : ℕ → ℚ
        d x = U *ℚ abs (F X r a ms small p x -ℚ P X r a ms small p x)

        each : (x : ℕ) → x < M → abs (nat (M ∸ x) *ℚ off x) ≤ℚ nat ((M ∸ x) *ⁿ (y x).R) +ℚ nat M *ℚ d x
        each x l =
            ≤_trans (≤_of_eq (abs_scale (nat (M ∸ x)) (off x) (nat_nn (M ∸ x))))
            (≤_trans (≤_mul_left (nat (M ∸ x)) (nat_nn (M ∸ x)) (apart X r a ms small p x (omega arith)))
            (≤_trans (≤_of_eq (ℚ_ring.distrib (nat (M ∸ x)) (nat (y x).R) (d x) ∙ ap (λ z. z +ℚ nat (M ∸ x) *ℚ d x) (sym (nat_mul (M ∸ x) (y x).R))))
            (≤_add (≤_refl (nat ((M ∸ x) *ⁿ (y x).R))) (≤_mul_right (d x) (gap_nn X r a ms small p x) (nat_le (let h : M ∸ x ≤ⁿ M = omega arith in h))))))

    pub premium_distance : nat_abs (pos Δ *ℤ premium M mean ys -ℤ exact_premium X M mean a ms) ≤ⁿ Δ *ⁿ within M E ys
    premium_distance = nat_reflect (nat_abs (pos Δ *ℤ premium M mean ys -ℤ exact_premium X M mean a ms)) (Δ *ⁿ within M E ys)
        (≤_trans (≤_of_eq (sym (abs_ofℤ (pos Δ *ℤ premium M mean ys -ℤ exact_premium X M mean a ms)) ∙ ap abs apart_is ∙ abs_scale (nat Δ) weighted (nat_nn Δ)))
        (≤_trans (≤_mul_left (nat Δ) (nat_nn Δ) weighted_near) (≤_of_eq (sym (nat_mul Δ (within M E ys))))))
