-- The exact move of two funds that are accepted lies where the move of their figures says (exact_move_lem): each premium is within its bound of the exact one, and each gross premium
-- at most its excess above the exact loaded worth; all scaled by the other fund's denominator.
use mathlib.Core.Path.{◌≡◌, sym, ap}
use Prim.Native.Nat.{ℕ, ◌*◌, ◌^◌, ◌≤◌}
use native.Mathlib.Nat as N
use lib.IntN.{ℤ, pos, nat_abs, ◌+ℤ◌, ◌-ℤ◌, ◌*ℤ◌}
use lib.Signed.{◌≤ℤ◌}
use Rattle.algebra.specs.Integer.{ℤ_ring}
use Rattle.algebra.specs.IntegerOrder.{ℤ_ord, ◌≤Z◌}
use Rattle.algebra.specs.Order as O
use Rattle.algebra.specs.Solver.{ring3, ring6, ◌⊕◌, ◌⊗◌, ◌⊝◌, ◌:=◌}
use Rattle.fund.specs.Reading.{FundFile}
use Rattle.fund.specs.Tariff.{gross}
use Rattle.fund.specs.Answer.{Answer}
use Rattle.fund.specs.Distance.{file_denominator, exact_premium_of, WithinBounds, exact_loaded_worth, NeverBelow}
use Rattle.moves.specs.declared.Move.{Move}
use Rattle.moves.specs.Move.{excess, move_of}
use Rattle.comparison.specs.Exact.{both_denominators, exact_move, exact_worth_move, ExactMove}
use Rattle.comparison.proofs.Near.{to_≤ℤ, of_≤ℤ, moved_near, low_end, high_end, interval_low, interval_high, scale, scale_above, scaled, above_low, above_high}
use Rattle.comparison.proofs.GrossNear.{gross_near}

-- What is known of a fund that is accepted.
pub record Known (fund : FundFile) (a : Answer) : Type 0 where
  pub near : WithinBounds fund a
  pub below : NeverBelow fund a
  pub not_negative_lem : pos 0 ≤ℤ (a.figures.premium +ℤ pos a.figures.within)
  pub gross_is : a.figures.gross ≡ gross fund.header.deductible fund.header.worth a.figures.premium a.figures.within

-- A gross premium and its excess, as the statement has them.
abbrev pub gross_over : FundFile → Answer → ℤ
gross_over fund a = pos (a.figures.gross * 10 ^ 15 * file_denominator fund)

abbrev pub excess_over : FundFile → Answer → ℤ
excess_over fund a = pos (excess fund.header a.figures.within * 10 ^ 15 * file_denominator fund)

module _ (fund : FundFile) (a : Answer) (k : Known fund a) where
  pub gross_low : exact_loaded_worth fund ≤Z gross_over fund a
  gross_low = of_≤ℤ k.below.gross

  pub gross_high : gross_over fund a ≤Z (exact_loaded_worth fund +ℤ excess_over fund a)
  unfolding exact_loaded_worth
  gross_high =
      rw k.gross_is
      (gross_near (file_denominator fund) fund.header a.figures.within a.figures.premium (exact_premium_of fund) k.near.premium k.not_negative_lem)

module _ (old : FundFile) (a : Answer) (new : FundFile) (b : Answer) (k : Known old a) (l : Known new b) where
  abbrev D : ℕ
  D = file_denominator old

  abbrev E : ℕ
  E = file_denominator new

  abbrev m : Move
  m = move_of old.header a.figures new.header b.figures

  abbrev P : ℤ
  P = a.figures.premium

  abbrev Q : ℤ
  Q = b.figures.premium

  -- each premium, over both denominators
  old_near : nat_abs (pos (D * E) *ℤ P -ℤ pos E *ℤ exact_premium_of old) ≤ D * E * a.figures.within
  old_near = rw (N.mul_comm D E) (scaled E D a.figures.within P (exact_premium_of old) k.near.premium)

  new_near : nat_abs (pos (D * E) *ℤ Q -ℤ pos D *ℤ exact_premium_of new) ≤ D * E * b.figures.within
  new_near = scaled D E b.figures.within Q (exact_premium_of new) l.near.premium

  premium_near : nat_abs (pos (both_denominators old new) *ℤ m.premium -ℤ exact_move old new) ≤ both_denominators old new * m.arithmetic
  unfolding both_denominators exact_move move_of
  premium_near =
      N.le_trans (N.le_of_eq (ap (λ z. nat_abs (z -ℤ exact_move old new)) (ring3 ℤ_ring (λ n q p. n ⊗ (q ⊝ p) := n ⊗ q ⊝ n ⊗ p) tt (pos (D * E)) Q P)))
      (N.le_trans (moved_near (pos (D * E) *ℤ P) (pos (D * E) *ℤ Q) (pos E *ℤ exact_premium_of old) (pos D *ℤ exact_premium_of new) (D * E * a.figures.within) (D * E * b.figures.within) old_near new_near)
      (N.le_of_eq (sym (N.mul-add (D * E) a.figures.within b.figures.within))))

  least_end : (pos (both_denominators old new) *ℤ m.least) ≤ℤ exact_move old new
  unfolding move_of
  least_end = to_≤ℤ (O.≤_trans ℤ_ring ℤ_ord (O.≤_of_eq ℤ_ring ℤ_ord (low_end (both_denominators old new) m.premium m.arithmetic))
      (interval_low (pos (both_denominators old new) *ℤ m.premium) (exact_move old new) (both_denominators old new * m.arithmetic) premium_near))

  most_end : exact_move old new ≤ℤ (pos (both_denominators old new) *ℤ m.most)
  unfolding move_of
  most_end = to_≤ℤ (O.≤_trans ℤ_ring ℤ_ord
      (interval_high (pos (both_denominators old new) *ℤ m.premium) (exact_move old new) (both_denominators old new * m.arithmetic) premium_near)
      (O.≤_of_eq ℤ_ring ℤ_ord (sym (high_end (both_denominators old new) m.premium m.arithmetic))))

  -- ---- the gross premium
  abbrev G : ℕ
  G = a.figures.gross

  abbrev H : ℕ
  H = b.figures.gross

  gross_least_end : (pos (both_denominators old new * 10 ^ 15) *ℤ m.gross_least) ≤ℤ exact_worth_move old new
  unfolding both_denominators exact_worth_move move_of
  gross_least_end = to_≤ℤ (O.≤_trans ℤ_ring ℤ_ord
      (O.≤_of_eq ℤ_ring ℤ_ord (ring6 ℤ_ring (λ d e t h g x. d ⊗ e ⊗ t ⊗ (h ⊝ g ⊝ x) := (d ⊗ (h ⊗ t ⊗ e) ⊝ e ⊗ (g ⊗ t ⊗ d)) ⊝ d ⊗ (x ⊗ t ⊗ e)) tt (pos D) (pos E) (pos (10 ^ 15)) (pos H) (pos G) (pos (excess new.header b.figures.within))))
      (above_low (pos E *ℤ exact_loaded_worth old) (pos E *ℤ gross_over old a) (pos D *ℤ exact_loaded_worth new) (pos D *ℤ gross_over new b) (pos D *ℤ excess_over new b)
      (scale E (gross_low old a k))
      (scale_above D (gross_over new b) (exact_loaded_worth new) (excess_over new b) (gross_high new b l))))

  gross_most_end : exact_worth_move old new ≤ℤ (pos (both_denominators old new * 10 ^ 15) *ℤ m.gross_most)
  unfolding both_denominators exact_worth_move move_of
  gross_most_end = to_≤ℤ (O.≤_trans ℤ_ring ℤ_ord
      (above_high (pos E *ℤ exact_loaded_worth old) (pos E *ℤ gross_over old a) (pos D *ℤ exact_loaded_worth new) (pos D *ℤ gross_over new b) (pos E *ℤ excess_over old a)
      (scale_above E (gross_over old a) (exact_loaded_worth old) (excess_over old a) (gross_high old a k))
      (scale D (gross_low new b l)))
      (O.≤_of_eq ℤ_ring ℤ_ord (sym (ring6 ℤ_ring (λ d e t h g x. d ⊗ e ⊗ t ⊗ (h ⊝ g ⊕ x) := (d ⊗ (h ⊗ t ⊗ e) ⊝ e ⊗ (g ⊗ t ⊗ d)) ⊕ e ⊗ (x ⊗ t ⊗ d)) tt (pos D) (pos E) (pos (10 ^ 15)) (pos H) (pos G) (pos (excess old.header a.figures.within))))))

  pub exact_move_lem : ExactMove old new m
  exact_move_lem = record { premium = premium_near; least = least_end; most = most_end; gross_least = gross_least_end; gross_most = gross_most_end }
