-- A member given by whole numbers: rates q at place d and i at place e, and p for neither, of M. With folded rates below one half
-- (Folded) it is a Share (member_share), and Good where its e is big enough (member_good); its own distribution maps g x to
-- (p g(x) + q g(x - d) + i g(x - e)) / M (own_step).
use Rattle.std.specs.Prelude.{◌≡◌, ℕ, suc, ◌<◌, ◌≤◌ as ◌≤ⁿ◌, ◌+◌ as ◌+ⁿ◌}
use Rattle.std.proofs.Common.{sym, ◌∙◌, ap, ap₂, arith}
use Rattle.algebra.specs.Series as S
use Rattle.algebra.specs.SeriesRing as SR
use Rattle.algebra.specs.Solver.{ring2, ring6, 𝟏, ◌⊕◌, ◌⊗◌, ◌:=◌}
use Rattle.algebra.specs.Q.{ℚ, ℚ_ring, zero_q, one_q, ◌+ℚ◌, ◌-ℚ◌, ◌*ℚ◌, ◌≤ℚ◌, ≤_trans, ≤_of_eq, ≤_add, ≤_mul_left, add_nn}
use Rattle.algebra.specs.Embedding.{nat, nat_zero, nat_add, nat_nn, nat_reflect}
use Rattle.algebra.specs.Quotient.{over, over_ok, over_nn, over_zero, over_add, cancel_eq}
use Rattle.algebra.specs.RationalSum.{sum, sum_add}
use Rattle.algebra.specs.Power.{pow_q}
use Rattle.algebra.specs.PowerSeries.{Ser, ◌⋆◌, ◌⊞◌, const, one_s, const_product}
use Rattle.algebra.specs.SeriesOrder.{NonNeg}
use Rattle.expansion.specs.Member.{Member, own}
use Rattle.expansion.specs.Remainder.{Good}
use Rattle.expansion.specs.Mass.{Share}
use Rattle.expansion.specs.Place.{place, shift, place_product, place_nn, place_sum, place_zero}
use Rattle.expansion.specs.RowPower.{odds}

-- a rate at place 0 counts as 0
pub record Folded (q i p M d e : ℕ) : Type 0 where
  pub half : q +ⁿ i < p
  pub total : p +ⁿ (q +ⁿ i) ≡ M
  pub q_folded : d ≡ 0 → q ≡ 0
  pub i_folded : e ≡ 0 → i ≡ 0

abbrev pub odds_sum : ℕ → ℕ → ℕ → ℚ
odds_sum q i p = over (nat (q +ⁿ i)) p

abbrev pub member : ℕ → ℕ → ℕ → ℕ → ℕ → ℕ → ℚ → Member
member q i p M d e err = record { z = odds q i p d e; c = over (nat p) M; ρ = odds_sum q i p; e = err }

over_none : (q p : ℕ) → q ≡ 0 → over (nat q) p ≡ zero_q
over_none q p h = ap (λ x. over x p) (ap nat h ∙ nat_zero) ∙ over_zero p

module _ (q i p M d e : ℕ) (folded : Folded q i p M d e) where
  abbrev z : Ser
  z = odds q i p d e

  abbrev ρ : ℚ
  ρ = odds_sum q i p

  p_pos : 0 < p
  p_pos = let h : q +ⁿ i < p = folded.half in omega arith

  M_pos : 0 < M
  M_pos = let h : p +ⁿ (q +ⁿ i) ≡ M = folded.total in let k : 0 < p = p_pos in omega arith

  q_nn : zero_q ≤ℚ over (nat q) p
  q_nn = over_nn (nat q) p (nat_nn q)

  i_nn : zero_q ≤ℚ over (nat i) p
  i_nn = over_nn (nat i) p (nat_nn i)

  odds_zero : z 0 ≡ zero_q
  odds_zero = ap₂ ◌+ℚ◌ (place_zero d (over (nat q) p) (λ h. over_none q p (folded.q_folded h)))
      (place_zero e (over (nat i) p) (λ h. over_none i p (folded.i_folded h))) ∙ ℚ_ring.add-zero zero_q

  odds_nn : NonNeg z
  odds_nn x = add_nn (place_nn d (over (nat q) p) q_nn x) (place_nn e (over (nat i) p) i_nn x)

  odds_sum_lem : (n : ℕ) → sum n z ≤ℚ ρ
  odds_sum_lem n = ≤_trans (≤_of_eq (sum_add n (place d (over (nat q) p)) (place e (over (nat i) p))))
      (≤_trans (≤_add (place_sum d (over (nat q) p) q_nn n) (place_sum e (over (nat i) p) i_nn n))
      (≤_of_eq (sym (over_add (nat q) (nat i) p) ∙ ap (λ x. over x p) (sym (nat_add q i)))))

  -- p / M · (1 + ρ) = 1
  own_mass : over (nat p) M *ℚ (one_q +ℚ ρ) ≡ one_q
  own_mass = cancel_eq M M_pos
      (sym (ℚ_ring.mul_assoc (nat M) (over (nat p) M) (one_q +ℚ ρ))
      ∙ ap (λ x. x *ℚ (one_q +ℚ ρ)) (over_ok (nat p) M M_pos)
      ∙ ring2 ℚ_ring (λ p r. p ⊗ (𝟏 ⊕ r) := p ⊕ p ⊗ r) tt (nat p) ρ
      ∙ ap (λ x. nat p +ℚ x) (over_ok (nat (q +ⁿ i)) p p_pos)
      ∙ sym (nat_add p (q +ⁿ i)) ∙ ap nat folded.total ∙ sym (ℚ_ring.mul-one (nat M)))

  odds_below : ¬ (one_q ≤ℚ ρ)
  odds_below h = contradiction folded.half (nat_reflect p (q +ⁿ i) (≤_trans (≤_of_eq (sym (ℚ_ring.mul-one (nat p))))
      (≤_trans (≤_mul_left (nat p) (nat_nn p) h) (≤_of_eq (over_ok (nat (q +ⁿ i)) p p_pos)))))
    where
      contradiction : q +ⁿ i < p → p ≤ⁿ (q +ⁿ i) → ⊥
      contradiction h l = omega arith

  pub member_share : (err : ℚ) → Share (member q i p M d e err)
  member_share err = record { z_nn = odds_nn; z_sum = odds_sum_lem; c_nn = over_nn (nat p) M (nat_nn p); c_le = ≤_of_eq own_mass }

  pub member_good : (err : ℚ) (r : ℕ) → pow_q ρ (suc r) ≤ℚ err *ℚ (nat (suc r) *ℚ (one_q -ℚ ρ)) → Good r (member q i p M d e err)
  member_good err r h = record { z_zero = odds_zero; z_nn = odds_nn; z_sum = odds_sum_lem; ρ_below = odds_below; e_big = h }

  -- one more member: g x becomes (p g(x) + q g(x - d) + i g(x - e)) / M
  pub own_step : (err : ℚ) (g : Ser) (x : ℕ) →
      (own (member q i p M d e err) ⋆ g) x ≡ over (nat p *ℚ g x +ℚ nat q *ℚ shift d g x +ℚ nat i *ℚ shift e g x) M
  own_step err g x = cancel_eq M M_pos
      (ap (λ y. nat M *ℚ y) (S.product_assoc ℚ_ring x (const c) (one_s ⊞ z) g ∙ const_product c ((one_s ⊞ z) ⋆ g) x)
      ∙ sym (ℚ_ring.mul_assoc (nat M) c (((one_s ⊞ z) ⋆ g) x))
      ∙ ap₂ ◌*ℚ◌ (over_ok (nat p) M M_pos) parts
      ∙ ring6 ℚ_ring (λ p g a s b t. p ⊗ (g ⊕ (a ⊗ s ⊕ b ⊗ t)) := p ⊗ g ⊕ p ⊗ a ⊗ s ⊕ p ⊗ b ⊗ t)
      tt (nat p) (g x) (over (nat q) p) (shift d g x) (over (nat i) p) (shift e g x)
      ∙ ap₂ (λ a b. nat p *ℚ g x +ℚ a *ℚ shift d g x +ℚ b *ℚ shift e g x) (over_ok (nat q) p p_pos) (over_ok (nat i) p p_pos)
      ∙ sym (over_ok (nat p *ℚ g x +ℚ nat q *ℚ shift d g x +ℚ nat i *ℚ shift e g x) M M_pos))
    where
      c : ℚ
      c = over (nat p) M

      parts : ((one_s ⊞ z) ⋆ g) x ≡ g x +ℚ (over (nat q) p *ℚ shift d g x +ℚ over (nat i) p *ℚ shift e g x)
      parts = S.product_add ℚ_ring x one_s z g ∙ ap₂ ◌+ℚ◌ (SR.one_product ℚ_ring x g)
          (S.product_add ℚ_ring x (place d (over (nat q) p)) (place e (over (nat i) p)) g
          ∙ ap₂ ◌+ℚ◌ (place_product d (over (nat q) p) g x) (place_product e (over (nat i) p) g x))
