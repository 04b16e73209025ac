-- A gross premium is at most its excess above the exact premium's loaded worth (gross_near): it is the premium with its bound, loaded and taken up, and the premium is at
-- most its bound above the exact one.
use mathlib.Core.Path.{◌≡◌, refl, sym, ◌∙◌, ap, ap₂}
use Prim.Native.Nat.{ℕ, suc, ◌+◌, ◌*◌, ◌^◌, ◌≤◌, ◌<◌}
use native.Mathlib.Nat as N
use native.Mathlib.Omega.{arith}
use lib.IntN.{ℤ, pos, negsuc, nat_abs, ◌+ℤ◌, ◌-ℤ◌, ◌*ℤ◌}
use lib.Signed.{◌≤ℤ◌}
use Rattle.algebra.specs.Integer.{ℤ_ring}
use Rattle.algebra.specs.IntegerOrder.{ℤ_ord, ◌≤Z◌}
use Rattle.algebra.specs.Order as O
use Rattle.algebra.specs.Solver.{ring4, ◌⊕◌, ◌⊗◌, ◌⊝◌, ◌:=◌}
use Rattle.algebra.specs.Linear.{lin4, lin6, ◌≼◌, ◌⋅◌, rest, ◌∣◌, ◌⊢◌}
use Rattle.rounding.specs.Rounding.{up}
use Rattle.rounding.proofs.Laws.{up_low, up_high}
use Rattle.fund.specs.declared.Fund.{Fund}
use Rattle.fund.specs.Tariff.{loading, not_negative, with_bound, gross}
use Rattle.moves.specs.Move.{excess}
use Rattle.comparison.proofs.Near.{pos_≤, abs_high, scale}

not_negative_is : (z : ℤ) → pos 0 ≤ℤ z → pos (not_negative z) ≡ z
not_negative_is (pos n) h = refl
not_negative_is (negsuc n) h = absurd h.le

module _ (D : ℕ) (fund : Fund) (within : ℕ) (premium exact : ℤ) (near : nat_abs (pos D *ℤ premium -ℤ exact) ≤ D * within) (nn : pos 0 ≤ℤ (premium +ℤ pos within)) where
  abbrev c : ℕ
  c = with_bound premium within

  abbrev L : ℕ
  L = fund.worth * loading fund.deductible

  sum_is : pos c ≡ premium +ℤ pos within
  unfolding with_bound
  sum_is = not_negative_is (premium +ℤ pos within) nn

  -- D times premium and bound is at most the exact premium and the bound twice
  covered : pos (D * c) ≤Z (exact +ℤ pos (D * (2 * within)))
  covered =
      O.≤_trans ℤ_ring ℤ_ord (O.≤_of_eq ℤ_ring ℤ_ord (ap (λ z. pos D *ℤ z) sum_is))
      (O.≤_trans ℤ_ring ℤ_ord
      (lin4 ℤ_ring ℤ_ord (λ d p e w. 1 ⋅ (d ⊗ p ⊝ e) ≼ d ⊗ w ∣ rest 0 ⊢ (d ⊗ (p ⊕ w)) ≼ (e ⊕ (d ⊗ w ⊕ d ⊗ w))) tt (pos D) premium exact (pos within) (abs_high (pos D *ℤ premium -ℤ exact) (D * within) near, tt))
      (O.≤_of_eq ℤ_ring ℤ_ord (ap (λ n. exact +ℤ pos n) twice)))
    where
      twice : D * within + D * within ≡ D * (2 * within)
      twice = let e : 2 * within ≡ within + within = omega arith in rw (e, N.mul-add) refl

  -- a sum, loaded, and one centime, times D
  loaded_sum : (a : ℕ) → (a * fund.worth * loading fund.deductible + 10 ^ 15) * D ≡ L * (D * a) + D * 10 ^ 15
  loaded_sum a =
      N.add-mul (a * fund.worth * loading fund.deductible) (10 ^ 15) D
      ∙ ap₂ ◌+◌ (ap (λ x. x * D) (N.mul_assoc a fund.worth (loading fund.deductible)) ∙ N.mul_comm (a * L) D ∙ sym (N.mul_assoc D a L) ∙ N.mul_comm (D * a) L) (N.mul_comm (10 ^ 15) D)

  -- the gross premium, and the excess, by what they are taken up from
  gross_most : gross fund.deductible fund.worth premium within * 10 ^ 15 * D ≤ L * (D * c) + D * 10 ^ 15
  unfolding gross
  gross_most = go (up (c * fund.worth * loading fund.deductible) (10 ^ 15)) (up_high (c * fund.worth * loading fund.deductible) (10 ^ 15) (omega arith))
    where
      go : (g : ℕ) → 10 ^ 15 * g < c * fund.worth * loading fund.deductible + 10 ^ 15 → g * 10 ^ 15 * D ≤ L * (D * c) + D * 10 ^ 15
      go g h =
          let k : g * 10 ^ 15 ≤ c * fund.worth * loading fund.deductible + 10 ^ 15 = omega arith in
          N.le_trans (N.mul-le-mul_right D k) (N.le_of_eq (loaded_sum c))

  excess_least : L * (D * (2 * within)) + D * 10 ^ 15 ≤ excess fund within * 10 ^ 15 * D
  unfolding excess
  excess_least = go (up (2 * within * fund.worth * loading fund.deductible) (10 ^ 15)) (up_low (2 * within * fund.worth * loading fund.deductible) (10 ^ 15) (omega arith))
    where
      go : (u : ℕ) → 2 * within * fund.worth * loading fund.deductible ≤ 10 ^ 15 * u → L * (D * (2 * within)) + D * 10 ^ 15 ≤ suc u * 10 ^ 15 * D
      go u h =
          let k : 2 * within * fund.worth * loading fund.deductible + 10 ^ 15 ≤ suc u * 10 ^ 15 = omega arith in
          N.le_trans (N.le_of_eq (sym (loaded_sum (2 * within)))) (N.mul-le-mul_right D k)

  pub gross_near : pos (gross fund.deductible fund.worth premium within * 10 ^ 15 * D) ≤Z (exact *ℤ pos L +ℤ pos (excess fund within * 10 ^ 15 * D))
  gross_near =
      lin6 ℤ_ring ℤ_ord (λ g k t e s x. 1 ⋅ g ≼ k ⊕ t ∣ 1 ⋅ k ≼ e ⊕ s ∣ 1 ⋅ s ⊕ t ≼ x ∣ rest 0 ⊢ g ≼ (e ⊕ x)) tt
      (pos (gross fund.deductible fund.worth premium within * 10 ^ 15 * D)) (pos (L * (D * c))) (pos (D * 10 ^ 15)) (exact *ℤ pos L) (pos (L * (D * (2 * within)))) (pos (excess fund within * 10 ^ 15 * D))
      (pos_≤ gross_most, (loaded, (pos_≤ excess_least, tt)))
    where
      loaded : pos (L * (D * c)) ≤Z (exact *ℤ pos L +ℤ pos (L * (D * (2 * within))))
      loaded = O.≤_trans ℤ_ring ℤ_ord (scale L covered) (O.≤_of_eq ℤ_ring ℤ_ord (ring4 ℤ_ring (λ l e d w. l ⊗ (e ⊕ w) := e ⊗ l ⊕ l ⊗ w) tt (pos L) exact (pos D) (pos (D * (2 * within)))))
