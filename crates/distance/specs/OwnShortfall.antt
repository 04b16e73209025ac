-- Group 1's distribution falls short of each k by at least k less its mean, on average (own_shortfall): the outcomes' excess over k is not
-- negative.
use Rattle.std.specs.Prelude.{◌≡◌, List, ℕ, ◌*◌ as ◌*ⁿ◌, ◌-◌ as ◌∸◌, ◌^◌}
use Rattle.std.proofs.Common.{sym, ◌∙◌, ap, ap₂, arith}
use Rattle.std.proofs.Math.Nat.{one-le-pow}
use Rattle.algebra.specs.Solver.{ring3, 𝟎, ◌⊕◌, ◌⊗◌, ◌⊝◌, ◌:=◌}
use Rattle.algebra.specs.Linear.{lin5, ◌≼◌, ◌⋅◌, rest, ◌∣◌, ◌⊢◌}
use Rattle.algebra.specs.Q.{ℚ, ℚ_ring, ℚ_ord, ◌+ℚ◌, ◌-ℚ◌, ◌*ℚ◌, ◌≤ℚ◌, ≤_of_eq}
use Rattle.algebra.specs.Embedding.{nat, nat_add, nat_mul, nat_nn}
use Rattle.algebra.specs.Quotient.{over, over_ok, cancel, cancel_eq}
use Rattle.algebra.specs.RationalSum.{sum_ext, sum_mul, nat_sum}
use Rattle.algebra.specs.Power.{nat_pow}
use Rattle.algebra.specs.PowerSeries.{Ser}
use Rattle.expansion.specs.Member.{own_product}
use Rattle.expansion.specs.Shortfall.{shortfall, shortfall_sum}
use Rattle.fund.specs.declared.Life.{Life}
use Rattle.fund.specs.Exact.{singles, single_part, outcomes, excess}
use Rattle.laws.specs.Accepted.{All, Limited}
use Rattle.distance.specs.Lives.{members, FoldedLife}
use Rattle.distance.specs.Exact.{single_is}
use Rattle.distance.specs.Outcomes.{expect, below, claims, claims_are, excess_whole}

-- group 1's mean
abbrev pub own_mean : List Life → ℚ
own_mean ms = over (nat (claims ms)) 1000000

module _ (r : ℕ) (ms : List Life) (limited : All Limited ms) (folded : All FoldedLife ms) where
  abbrev own : Ser
  own = own_product (members r ms)

  abbrev G : ℕ
  G = 10 ^ (6 *ⁿ singles ms)

  abbrev C : ℕ
  C = expect (λ c. c) (outcomes ms)

  claimed : nat C ≡ nat G *ℚ own_mean ms
  claimed = cancel_eq 1000000 (omega arith) (sym (nat_mul 1000000 C) ∙ ap nat (claims_are ms limited) ∙ nat_mul (claims ms) G
      ∙ ap (λ y. y *ℚ nat G) (sym (over_ok (nat (claims ms)) 1000000 (omega arith)))
      ∙ ring3 ℚ_ring (λ m u g. m ⊗ u ⊗ g := m ⊗ (g ⊗ u)) tt (nat 1000000) (own_mean ms) (nat G))

  short : (k : ℕ) → nat (below (single_part ms) k) ≡ nat G *ℚ shortfall own k
  short k =
      nat_sum k (λ x. (k ∸ x) *ⁿ single_part ms x)
      ∙ sum_ext k (λ x. nat ((k ∸ x) *ⁿ single_part ms x)) (λ x. nat G *ℚ (nat (k ∸ x) *ℚ own x))
      (λ x l. nat_mul (k ∸ x) (single_part ms x) ∙ ap (λ y. nat (k ∸ x) *ℚ y) (single_is r ms limited folded x ∙ ap (λ y. y *ℚ own x) (sym (nat_pow 10 (6 *ⁿ singles ms))))
      ∙ ring3 ℚ_ring (λ k g o. k ⊗ (g ⊗ o) := g ⊗ (k ⊗ o)) tt (nat (k ∸ x)) (nat G) (own x))
      ∙ sum_mul k (nat G) (λ x. nat (k ∸ x) *ℚ own x)
      ∙ ap (λ y. nat G *ℚ y) (sym (shortfall_sum own k))

  pub own_shortfall : (k : ℕ) → nat k -ℚ own_mean ms ≤ℚ shortfall own k
  own_shortfall k = cancel G (one-le-pow (6 *ⁿ singles ms) 10 (omega arith))
      (lin5 ℚ_ring ℚ_ord (λ e k g u s. 1 ⋅ e ⊕ k ⊗ g ≼ g ⊗ u ⊕ g ⊗ s ∣ 1 ⋅ 𝟎 ≼ e ∣ rest 0 ⊢ g ⊗ (k ⊝ u) ≼ g ⊗ s) tt
      (nat E) (nat k) (nat G) (own_mean ms) (shortfall own k) (≤_of_eq whole, (nat_nn E, tt)))
    where
      E : ℕ
      E = excess k (outcomes ms)

      whole : nat E +ℚ nat k *ℚ nat G ≡ nat G *ℚ own_mean ms +ℚ nat G *ℚ shortfall own k
      whole = ap (λ y. nat E +ℚ y) (sym (nat_mul k G)) ∙ sym (nat_add E (k *ⁿ G))
          ∙ ap nat (excess_whole k ms limited) ∙ nat_add C (below (single_part ms) k) ∙ ap₂ ◌+ℚ◌ claimed (short k)
