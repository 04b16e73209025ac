-- Why nothing wraps: for lives that pass refusals 6 to 8, the sum of |f| up to x is at most 1.145×10^12 while no cell is wide
-- (f_sum_small), and so is each |f(x)| (f_small). Both from the mass of the exact distribution, at most 8/7,
-- and the cells' distances from it.
use Rattle.std.specs.Prelude.{◌≡◌, List, ℕ, suc, ◌<◌, ◌≤◌ as ◌≤ⁿ◌, ◌+◌ as ◌+ⁿ◌, ◌*◌ as ◌*ⁿ◌, nat_abs}
use Rattle.std.proofs.Common.{sym, ◌∙◌, ap, ap₂, arith}
use Rattle.algebra.specs.Solver.{ring2, ring4, ◌⊕◌, ◌⊗◌, ◌⊝◌, ◌:=◌}
use Rattle.algebra.specs.Q.{ℚ, ℚ_ring, ◌+ℚ◌, ◌-ℚ◌, ◌*ℚ◌, ◌≤ℚ◌, abs, ≤_refl, ≤_trans, ≤_of_eq, ≤_add, ≤_mul_left, abs_add, abs_scale}
use Rattle.algebra.specs.Embedding.{ofℤ, nat, nat_add, nat_mul, nat_nn, nat_reflect, abs_ofℤ}
use Rattle.algebra.specs.Quotient.{over, over_ok}
use Rattle.algebra.specs.NatSum.{sum_n, sum_n_bound, sum_n_term}
use Rattle.algebra.specs.RationalSum.{sum, sum_add, sum_mul, sum_mono, nat_sum}
use Rattle.expansion.specs.Total.{mass_63}
use Rattle.fund.specs.declared.Frequencies.{Frequencies}
use Rattle.fund.specs.declared.Life.{Life}
use Rattle.fund.specs.Limits.{most_truncation, most_bound, most_horizon}
use Rattle.fund.specs.Transform.{unit, truncation}
use Rattle.fund.specs.Recursion.{Cell}
use Rattle.distance.specs.Errors.{U}
use Rattle.distance.specs.Lives.{members, W, rate}
use Rattle.distance.specs.Members.{Priceable, members_share, group}
use Rattle.distance.specs.Cells.{cell, P, cells_near}

-- a bound of the sum of |f|
abbrev pub most_sum : ℕ
most_sum = 1145000000000

-- 7 s ≤ 8×10^12 + 7 (b + 2 E), for the sum b of the bounds of 4,096 cells
small_enough : (s b E : ℕ) → 7 *ⁿ s ≤ⁿ 8 *ⁿ unit +ⁿ 7 *ⁿ (b +ⁿ 2 *ⁿ E) → b ≤ⁿ suc most_horizon *ⁿ most_bound → E ≤ⁿ most_truncation → s ≤ⁿ most_sum
unfolding unit
small_enough s b E h k l = omega arith

module _ (X r : ℕ) (a : Frequencies) (ms : List Life) (small : r ≤ⁿ 12) (p : Priceable r a ms) where
  abbrev y : ℕ → Cell
  y = cell X r a ms small p

  abbrev E : ℕ
  E = truncation r ms

  -- the sum of |f| up to x
  pub f_sum : (x : ℕ) → x ≤ⁿ X → 7 *ⁿ sum_n (suc x) (λ k. nat_abs (y k).f) ≤ⁿ 8 *ⁿ unit +ⁿ 7 *ⁿ (sum_n (suc x) (λ k. (y k).R) +ⁿ 2 *ⁿ E)
  f_sum x l = nat_reflect (7 *ⁿ S) (8 *ⁿ unit +ⁿ 7 *ⁿ B) (≤_trans (≤_of_eq (nat_mul 7 S)) (≤_trans (≤_mul_left (nat 7) (nat_nn 7) sums) (≤_of_eq total)))
    where
      S : ℕ
      S = sum_n (suc x) (λ k. nat_abs (y k).f)

      B : ℕ
      B = sum_n (suc x) (λ k. (y k).R) +ⁿ 2 *ⁿ E

      Q : ℕ → ℚ
      Q = P X r a ms small p

      off : ℕ → ℚ
      off k = ofℤ (y k).f -ℚ U *ℚ Q k

      -- the mass, in units
      mass : sum (suc x) (λ k. U *ℚ abs (Q k)) ≤ℚ U *ℚ over (nat 8) 7
      mass = ≤_trans (≤_of_eq (sum_mul (suc x) U (λ k. abs (Q k))))
          (≤_mul_left U (nat_nn unit) (mass_63 (members r ms) (members_share r ms p.limited p.folded) (W a ms) (rate a ms) (group r a ms p) x))

      one : (k : ℕ) → k < suc x → nat (nat_abs (y k).f) ≤ℚ abs (off k) +ℚ U *ℚ abs (Q k)
      one k h = ≤_trans (≤_of_eq (sym (abs_ofℤ (y k).f) ∙ ap abs (ring2 ℚ_ring (λ f q. f := (f ⊝ q) ⊕ q) tt (ofℤ (y k).f) (U *ℚ Q k))))
          (≤_trans (abs_add (off k) (U *ℚ Q k)) (≤_add (≤_refl (abs (off k))) (≤_of_eq (abs_scale U (Q k) (nat_nn unit)))))

      sums : nat S ≤ℚ nat B +ℚ U *ℚ over (nat 8) 7
      sums = ≤_trans (≤_of_eq (nat_sum (suc x) (λ k. nat_abs (y k).f)))
          (≤_trans (sum_mono (suc x) (λ k. nat (nat_abs (y k).f)) (λ k. abs (off k) +ℚ U *ℚ abs (Q k)) one)
          (≤_trans (≤_of_eq (sum_add (suc x) (λ k. abs (off k)) (λ k. U *ℚ abs (Q k)))) (≤_add (cells_near X r a ms small p x l) mass)))

      total : nat 7 *ℚ (nat B +ℚ U *ℚ over (nat 8) 7) ≡ nat (8 *ⁿ unit +ⁿ 7 *ⁿ B)
      total =
          ring4 ℚ_ring (λ s b u o. s ⊗ (b ⊕ u ⊗ o) := (s ⊗ o) ⊗ u ⊕ s ⊗ b) tt (nat 7) (nat B) U (over (nat 8) 7)
          ∙ ap₂ ◌+ℚ◌ (ap (λ z. z *ℚ U) (over_ok (nat 8) 7 (omega arith)) ∙ sym (nat_mul 8 unit)) (sym (nat_mul 7 B))
          ∙ sym (nat_add (8 *ⁿ unit) (7 *ⁿ B))

  module _ (few : X ≤ⁿ most_horizon) where
    pub f_sum_small : (x : ℕ) → x ≤ⁿ X → ((k : ℕ) → k ≤ⁿ x → (y k).R ≤ⁿ most_bound) → sum_n (suc x) (λ k. nat_abs (y k).f) ≤ⁿ most_sum
    f_sum_small x l narrow = small_enough _ (sum_n (suc x) (λ k. (y k).R)) E (f_sum x l) (let h = sum_n_bound (suc x) most_bound (λ k. (y k).R) (λ k h. narrow k (omega arith)) in omega arith) p.truncation_within

    pub f_small : (x : ℕ) → x ≤ⁿ X → ((k : ℕ) → k ≤ⁿ x → (y k).R ≤ⁿ most_bound) → nat_abs (y x).f ≤ⁿ most_sum
    f_small x l narrow = let h = f_sum_small x l narrow in let k = sum_n_term (suc x) x (λ k. nat_abs (y k).f) (omega arith) in omega arith
