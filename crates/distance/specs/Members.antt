-- The lives of a fund that passes refusals 6 to 8 meet what the expansion asks: each group 1 life is a member whose share of the
-- truncation figure is big enough (members_good, members_share), the shares add to the figure (errors_are), group 2's weights
-- add to lambda, at most 8 (group), and the exact distribution starts where the method's start points (start_is).
use Rattle.std.specs.Prelude.{◌≡◌, refl, Bool, true, false, List, [], ◌∷◌, ℕ, zero, suc, ◌<◌, ◌≤◌ as ◌≤ⁿ◌, ◌+◌ as ◌+ⁿ◌, ◌*◌ as ◌*ⁿ◌, ◌-◌ as ◌∸◌, eqb, if◌then◌else◌}
use Rattle.std.proofs.Common.{sym, ◌∙◌, ap, ap₂, mul_comm, arith}
use Rattle.std.proofs.Math.Dec.{eqb-suc-zero, eqb-zero-suc, eqb-suc-suc}
use Rattle.algebra.specs.Laws as L
use Rattle.algebra.specs.Solver.{ring1, 𝟎, 𝟏, ◌⊕◌, ◌⊗◌, ◌:=◌}
use Rattle.algebra.specs.Q.{ℚ_ring, neg_q, one_q, ◌+ℚ◌, ◌*ℚ◌, ≤_trans, ≤_of_eq}
use Rattle.algebra.specs.Embedding.{nat, nat_zero, nat_add, nat_mul, nat_nn, nat_le}
use Rattle.algebra.specs.Quotient.{over, over_ok, over_nn, over_zero, over_add, cancel}
use Rattle.algebra.specs.NatSum.{sum_n, sum_n_ext, sum_n_first, sum_n_zero, sum_n_add_le}
use Rattle.algebra.specs.RationalSum.{sum, sum_ext, sum_mul, nat_sum}
use Rattle.expansion.specs.Member as M
use Rattle.expansion.specs.Member.{own_product}
use Rattle.expansion.specs.Remainder.{Good, errors}
use Rattle.expansion.specs.Mass.{Share}
use Rattle.expansion.specs.FoldedMember.{member_share}
use Rattle.expansion.specs.Figure.{figure_good}
use Rattle.expansion.specs.Exponential.{exp_sum}
use Rattle.expansion.specs.Total.{Group, exact_series}
use Rattle.rounding.proofs.Laws.{up_low}
use Rattle.fund.specs.declared.Frequencies.{Frequencies}
use Rattle.fund.specs.declared.Life.{Life}
use Rattle.fund.specs.Base.{total}
use Rattle.fund.specs.Folding.{claim, stay, single}
use Rattle.fund.specs.Limits.{most_load, most_truncation}
use Rattle.fund.specs.Transform.{unit, death_weight, disability_weight, lambda, load, w, truncation}
use Rattle.fund.specs.Exact.{weight_at}
use Rattle.laws.specs.Accepted.{All, Limited}
use Rattle.laws.specs.Weights.{death_at, disability_at}
use Rattle.distance.specs.Errors.{U, unit_pos}
use Rattle.distance.specs.Start.{stays}
use Rattle.distance.specs.Lives.{share_of, member_of, members, W, rate, FoldedLife, limited_folded}
use Rattle.distance.specs.Exact.{W_zero}

-- what refusals 6 to 8 leave
pub record Priceable (r : ℕ) (a : Frequencies) (ms : List Life) : Type 0 where
  pub limited : All Limited ms
  pub folded : All FoldedLife ms
  pub load_within : load a ms ≤ⁿ most_load
  pub truncation_within : truncation r ms ≤ⁿ most_truncation

-- ---- group 1
life_good : (r : ℕ) (m : Life) → Limited m → FoldedLife m → single m ≡ true → Good r (member_of r m)
unfolding w
life_good r m c f s =
    let h = c s in
    figure_good unit m.q m.i (stay m) 1000000 m.d m.e unit_pos (limited_folded m c f s) (w m) refl
    (λ n. up_low (w m n *ⁿ claim m) (stay m) (omega arith))
    r (share_of r m) (stay m ∸ claim m) (omega arith)
    (omega (arith, up_low (w m (suc r) *ⁿ stay m) H (positive (stay m ∸ claim m) (omega arith)), mul_comm H (share_of r m)))
  where
    positive : (h : ℕ) → 0 < h → 0 < h *ⁿ suc r
    positive (suc h) l = omega arith
    positive zero l = absurd (omega arith)

    H : ℕ
    H = (stay m ∸ claim m) *ⁿ suc r

pub members_good : (r : ℕ) (ms : List Life) → All Limited ms → All FoldedLife ms → M.All (Good r) (members r ms)
unfolding members
members_good r [] c f = tt
members_good r (m ∷ ms) c f = go (single m) refl (members_good r ms c.1 f.1)
  where
    go : (b : Bool) → single m ≡ b → M.All (Good r) (members r ms) → M.All (Good r) (if b then member_of r m ∷ members r ms else members r ms)
    go true s h = (life_good r m c.0 f.0 s, h)
    go false s h = h

pub members_share : (r : ℕ) (ms : List Life) → All Limited ms → All FoldedLife ms → M.All Share (members r ms)
unfolding members
members_share r [] c f = tt
members_share r (m ∷ ms) c f = go (single m) refl (members_share r ms c.1 f.1)
  where
    go : (b : Bool) → single m ≡ b → M.All Share (members r ms) → M.All Share (if b then member_of r m ∷ members r ms else members r ms)
    go true s h = (member_share m.q m.i (stay m) 1000000 m.d m.e (limited_folded m c.0 f.0 s) (member_of r m).e, h)
    go false s h = h

pub errors_are : (r : ℕ) (ms : List Life) → errors (members r ms) ≡ over (nat (truncation r ms)) unit
unfolding members truncation total
errors_are r [] = sym (ap (λ x. over x unit) nat_zero ∙ over_zero unit)
errors_are r (m ∷ ms) = go (single m) (errors_are r ms)
  where
    T : ℕ
    T = truncation r ms

    go : (b : Bool) → errors (members r ms) ≡ over (nat T) unit → errors (if b then member_of r m ∷ members r ms else members r ms) ≡ over (nat ((if b then share_of r m else 0) +ⁿ T)) unit
    go true h = ap (λ x. over (nat (share_of r m)) unit +ℚ x) h ∙ sym (over_add (nat (share_of r m)) (nat T) unit) ∙ ap (λ x. over x unit) (sym (nat_add (share_of r m) T))
    go false h = h ∙ ap (λ x. over (nat x) unit) (let e : T ≡ 0 +ⁿ T = omega arith in e)

-- ---- group 2
-- a weight stands at one place at most
pub at_most_once : (d c n : ℕ) → sum_n n (λ k. if eqb d k then c else 0) ≤ⁿ c
at_most_once d c zero = omega arith
at_most_once zero c (suc n) = omega (arith, sum_n_first n (λ k. if eqb 0 k then c else 0), sum_n_ext n (λ k. if eqb 0 (suc k) then c else 0) (λ k. 0) (λ k l. ap (λ b. if b then c else 0) (eqb-zero-suc k)), sum_n_zero n)
at_most_once (suc d) c (suc n) =
    omega (
      arith,
      sum_n_first n (λ k. if eqb (suc d) k then c else 0),
      ap (λ b. if b then c else 0) (eqb-suc-zero d),
      sum_n_ext n (λ k. if eqb (suc d) (suc k) then c else 0) (λ k. if eqb d k then c else 0) (λ k l. ap (λ b. if b then c else 0) (eqb-suc-suc d k)),
      at_most_once d c n,
    )

pub weights_within : (a : Frequencies) (ms : List Life) (n : ℕ) → sum_n n (weight_at a ms) ≤ⁿ lambda a ms
unfolding lambda total weight_at
weights_within a [] n = go n
  where
    go : (n : ℕ) → sum_n n (weight_at a []) ≤ⁿ 0
    go zero = omega arith
    go (suc zero) = omega arith
    go (suc (suc n)) = let h = go (suc n) in omega arith
weights_within a (m ∷ ms) n = go (single m) refl (weights_within a ms n)
  where
    -- what this life adds at k
    step : (b : Bool) → single m ≡ b → (k : ℕ) → weight_at a (m ∷ ms) k ≤ⁿ (if b then 0 else death_at a m k +ⁿ disability_at a m k) +ⁿ weight_at a ms k
    step b s zero = omega arith
    step b s (suc k) = omega (arith, ap (λ c. (if c then 0 else death_at a m (suc k) +ⁿ disability_at a m (suc k)) +ⁿ weight_at a ms (suc k)) s)

    go : (b : Bool) → single m ≡ b → sum_n n (weight_at a ms) ≤ⁿ lambda a ms → sum_n n (weight_at a (m ∷ ms)) ≤ⁿ (if b then 0 else death_weight a m +ⁿ disability_weight a m) +ⁿ lambda a ms
    go true s h = omega (arith, sum_n_add_le n (weight_at a (m ∷ ms)) (λ k. 0) (weight_at a ms) (step true s), sum_n_zero n)
    go false s h =
        omega (
          arith,
          sum_n_add_le n (weight_at a (m ∷ ms)) (λ k. death_at a m k +ⁿ disability_at a m k) (weight_at a ms) (step false s),
          sum_n_add_le n (λ k. death_at a m k +ⁿ disability_at a m k) (death_at a m) (disability_at a m) (λ k. omega arith),
          at_most_once m.d (death_weight a m) n,
          at_most_once m.e (disability_weight a m) n,
        )

pub lambda_within : (r : ℕ) (a : Frequencies) (ms : List Life) → Priceable r a ms → lambda a ms ≤ⁿ 8 *ⁿ unit
unfolding load unit
lambda_within r a ms p = let h = p.load_within in omega arith

pub weights_units : (a : Frequencies) (ms : List Life) (n : ℕ) → U *ℚ sum n (W a ms) ≡ nat (sum_n n (weight_at a ms))
unfolding W
weights_units a ms n =
    sym (sum_mul n U (W a ms))
    ∙ sum_ext n (λ k. U *ℚ over (nat (weight_at a ms k)) unit) (λ k. nat (weight_at a ms k)) (λ k l. over_ok (nat (weight_at a ms k)) unit unit_pos)
    ∙ sym (nat_sum n (weight_at a ms))

pub group : (r : ℕ) (a : Frequencies) (ms : List Life) → Priceable r a ms → Group (W a ms) (rate a ms)
unfolding W rate
group r a ms p =
    record {
      W_zero = W_zero a ms;
      W_nn = λ x. over_nn (nat (weight_at a ms x)) unit (nat_nn (weight_at a ms x));
      W_sum = λ n. cancel unit unit_pos (≤_trans (≤_of_eq (weights_units a ms n)) (≤_trans (nat_le (weights_within a ms n)) (≤_of_eq (sym (over_ok (nat (lambda a ms)) unit unit_pos)))));
      ƛ_le = cancel unit unit_pos (≤_trans (≤_of_eq (over_ok (nat (lambda a ms)) unit unit_pos)) (≤_trans (nat_le (lambda_within r a ms p)) (≤_of_eq (nat_mul 8 unit ∙ ℚ_ring.mul_comm (nat 8) U))));
    }

-- ---- the exact start
own_start : (r : ℕ) (ms : List Life) → All Limited ms → All FoldedLife ms → own_product (members r ms) 0 ≡ stays ms
unfolding members stays
own_start r [] c f = refl
own_start r (m ∷ ms) c f = go (single m) refl (own_start r ms c.1 f.1)
  where
    go : (b : Bool) → single m ≡ b → own_product (members r ms) 0 ≡ stays ms →
        own_product (if b then member_of r m ∷ members r ms else members r ms) 0 ≡ (if b then over (nat (stay m)) 1000000 *ℚ stays ms else stays ms)
    go true s h = ap₂ ◌*ℚ◌ (ap (λ z. over (nat (stay m)) 1000000 *ℚ (one_q +ℚ z)) (life_good r m c.0 f.0 s).z_zero ∙ ring1 ℚ_ring (λ p. p ⊗ (𝟏 ⊕ 𝟎) := p) tt (over (nat (stay m)) 1000000)) h
    go false s h = h

pub start_is : (r : ℕ) (a : Frequencies) (ms : List Life) → All Limited ms → All FoldedLife ms → exact_series 63 (rate a ms) (W a ms) (members r ms) 0 ≡ exp_sum 63 (neg_q (rate a ms)) *ℚ stays ms
start_is r a ms c f = ap (λ x. exp_sum 63 (neg_q (rate a ms)) *ℚ x) (ap₂ ◌*ℚ◌ (ring1 ℚ_ring (λ x. 𝟎 ⊕ 𝟏 ⊗ x := x) tt one_q) (own_start r ms c f) ∙ L.one-mul ℚ_ring (stays ms))
