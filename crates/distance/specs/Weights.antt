-- Group 2's weights: their first moment is at most group 2's part of the mean (moment_within), and with amounts below B they add to
-- lambda below B (weights_reach); in ℚ: moment, reach. The amounts of a fund that is read are below 65536 (amounts_below). The mean is group
-- 1's claims and group 2's part (mean_parts).
use Rattle.std.specs.Prelude.{◌≡◌, Bool, List, [], ◌∷◌, eqb, if◌then◌else◌, None, Option, Some}
use Rattle.std.proofs.Math.Path.{refl, ap}
use Rattle.std.proofs.Common.{sym, ◌∙◌, mul_comm, mul-add, mul-zero, zero-add, arith, eqb-true, eq-eqb}
use Rattle.std.proofs.Math.Bool.{true, false}
use Prim.Native.Nat.{ℕ, zero, suc, ◌<◌, ◌≤◌ as ◌≤ⁿ◌, ◌+◌ as ◌+ⁿ◌, ◌*◌ as ◌*ⁿ◌, ◌^◌}
use Rattle.algebra.specs.Solver.{ring3, ◌⊗◌, ◌:=◌}
use Rattle.algebra.specs.Q.{ℚ_ring, ◌*ℚ◌, ◌≤ℚ◌, ≤_trans, ≤_of_eq}
use Rattle.algebra.specs.Embedding.{nat, nat_mul, nat_le}
use Rattle.algebra.specs.Quotient.{over, over_ok, cancel}
use Rattle.algebra.specs.PowerSeries.{θ}
use Rattle.algebra.specs.RationalSum.{sum, sum_ext, sum_mul, nat_sum}
use Rattle.algebra.specs.NatSum.{sum_n, sum_n_ext, sum_n_zero, sum_n_add_le, sum_n_add_ge, sum_n_term}
use Rattle.fund.specs.declared.Rate.{Rate}
use Rattle.fund.specs.declared.Member.{Member as MemberRow}
use Rattle.fund.specs.declared.Frequencies.{Frequencies}
use Rattle.fund.specs.declared.Life.{Life}
use Rattle.fund.specs.Base.{total}
use Rattle.fund.specs.Limits.{most_amount}
use Rattle.fund.specs.Reading.{FundFile}
use Rattle.fund.specs.Folding.{rate_in_force, folded, life, lives, single}
use Rattle.fund.specs.Transform.{unit, death_weight, disability_weight, lambda, mean}
use Rattle.fund.specs.Exact.{weight_at}
use Rattle.laws.specs.Accepted.{All}
use Rattle.laws.specs.Copies.{all_lives}
use Rattle.laws.specs.Ranges.{MemberOk}
use Rattle.laws.specs.Weights.{death_at, disability_at, death_none, disability_none}
use Rattle.distance.specs.Errors.{U, unit_pos}
use Rattle.distance.specs.Lives.{W, rate, FoldedLife}
use Rattle.distance.specs.Members.{at_most_once, weights_units}
use Rattle.distance.specs.Outcomes.{claims}

-- group 2's part of the mean
unfoldable pub replaced_mean : Frequencies → List Life → ℕ
replaced_mean a ms = total (λ m. if single m then 0 else death_weight a m *ⁿ m.d +ⁿ disability_weight a m *ⁿ m.e) ms

pub mean_parts : (a : Frequencies) (ms : List Life) → mean a ms ≡ 1000000 *ⁿ claims ms +ⁿ replaced_mean a ms
unfolding mean claims replaced_mean total
mean_parts a [] = refl
mean_parts a (m ∷ ms) = go (single m) (mean_parts a ms)
  where
    A : ℕ
    A = m.q *ⁿ m.d +ⁿ m.i *ⁿ m.e

    B : ℕ
    B = death_weight a m *ⁿ m.d +ⁿ disability_weight a m *ⁿ m.e

    go : (b : Bool) → mean a ms ≡ 1000000 *ⁿ claims ms +ⁿ replaced_mean a ms →
        (if b then A *ⁿ 10 ^ 6 else B) +ⁿ mean a ms ≡ 1000000 *ⁿ ((if b then A else 0) +ⁿ claims ms) +ⁿ ((if b then 0 else B) +ⁿ replaced_mean a ms)
    go true h = omega arith
    go false h = omega arith

-- ---- one amount
-- a weight at one place counts there at most
moment_once : (d c n : ℕ) → sum_n n (λ k. k *ⁿ (if eqb d k then c else 0)) ≤ⁿ d *ⁿ c
moment_once d c n = omega (arith, sum_n_ext n (λ k. k *ⁿ (if eqb d k then c else 0)) (λ k. if eqb d k then d *ⁿ c else 0) (λ k l. place k (eqb d k) refl), at_most_once d (d *ⁿ c) n)
  where
    place : (k : ℕ) (b : Bool) → eqb d k ≡ b → k *ⁿ (if b then c else 0) ≡ (if b then d *ⁿ c else 0)
    place k true e = ap (λ y. y *ⁿ c) (sym (eqb-true d k e))
    place k false e = mul-zero k

at_least_once : (d c n : ℕ) → d < n → c ≤ⁿ sum_n n (λ k. if eqb d k then c else 0)
at_least_once d c n l = omega (arith, sum_n_term n d (λ k. if eqb d k then c else 0) l, ap (λ b. if b then c else 0) (eq-eqb d d refl))

-- ---- one life
none_at_zero : (d w : ℕ) → (d ≡ 0 → w ≡ 0) → (if eqb d 0 then w else 0) ≡ 0
none_at_zero d w h = go (eqb d 0) refl
  where
    go : (b : Bool) → eqb d 0 ≡ b → (if b then w else 0) ≡ 0
    go true e = h (eqb-true d 0 e)
    go false e = refl

module _ (a : Frequencies) (m : Life) (ms : List Life) (f : FoldedLife m) where
  -- what this life adds at k
  added : (b : Bool) → single m ≡ b → (k : ℕ) → weight_at a (m ∷ ms) k ≡ (if b then 0 else death_at a m k +ⁿ disability_at a m k) +ⁿ weight_at a ms k
  unfolding weight_at total
  added true s zero = refl
  added false s zero = omega (arith, none_at_zero m.d (death_weight a m) (λ z. death_none a m (f.q_folded z)), none_at_zero m.e (disability_weight a m) (λ z. disability_none a m (f.i_folded z)))
  added b s (suc k) = ap (λ c. (if c then 0 else death_at a m (suc k) +ⁿ disability_at a m (suc k)) +ⁿ weight_at a ms (suc k)) s

-- ---- all lives
pub moment_within : (a : Frequencies) (ms : List Life) (n : ℕ) → All FoldedLife ms → sum_n n (λ k. k *ⁿ weight_at a ms k) ≤ⁿ replaced_mean a ms
unfolding replaced_mean total weight_at
moment_within a [] n f = omega (arith, sum_n_ext n (λ k. k *ⁿ weight_at a [] k) (λ k. 0) (λ k l. ap (λ y. k *ⁿ y) (zeros k) ∙ mul-zero k), sum_n_zero n)
  where
    zeros : (k : ℕ) → weight_at a [] k ≡ 0
    zeros zero = refl
    zeros (suc k) = refl
moment_within a (m ∷ ms) n f = go (single m) refl (moment_within a ms n f.1)
  where
    D : ℕ → ℕ
    D k = k *ⁿ death_at a m k

    E : ℕ → ℕ
    E k = k *ⁿ disability_at a m k

    w : ℕ → ℕ
    w k = k *ⁿ weight_at a ms k

    go : (b : Bool) → single m ≡ b → sum_n n w ≤ⁿ replaced_mean a ms →
        sum_n n (λ k. k *ⁿ weight_at a (m ∷ ms) k) ≤ⁿ (if b then 0 else death_weight a m *ⁿ m.d +ⁿ disability_weight a m *ⁿ m.e) +ⁿ replaced_mean a ms
    go true s h = omega (arith, sum_n_ext n (λ k. k *ⁿ weight_at a (m ∷ ms) k) w (λ k l. ap (λ y. k *ⁿ y) (added a m ms f.0 true s k ∙ zero-add (weight_at a ms k))))
    go false s h =
        omega (
          arith,
          sum_n_add_le n (λ k. k *ⁿ weight_at a (m ∷ ms) k) (λ k. D k +ⁿ E k) w
              (λ k. omega (
                arith,
                ap (λ y. k *ⁿ y) (added a m ms f.0 false s k),
                mul-add k (death_at a m k +ⁿ disability_at a m k) (weight_at a ms k),
                mul-add k (death_at a m k) (disability_at a m k),
              )),
          sum_n_add_le n (λ k. D k +ⁿ E k) D E (λ k. omega arith),
          moment_once m.d (death_weight a m) n,
          moment_once m.e (disability_weight a m) n,
          mul_comm m.d (death_weight a m),
          mul_comm m.e (disability_weight a m),
        )

-- amounts below B
abbrev pub Below : ℕ → Life → Type 0
Below B m = (m.d < B) × (m.e < B)

pub amounts_below : (file : FundFile) → All MemberOk file.members → All (Below (suc most_amount)) (lives file)
unfolding life folded
amounts_below file h = all_lives (Below (suc most_amount)) file (go file.members h)
  where
    one : (o : Option Rate) (m : MemberRow) → MemberOk m → Below (suc most_amount) (folded o m)
    one None m k = (omega (arith, k.d), omega (arith, k.e))
    one (Some r) m k = (omega (arith, k.d), omega (arith, k.e))

    go : (l : List MemberRow) → All MemberOk l → All (λ m. Below (suc most_amount) (life file.rates m)) l
    go [] h = tt
    go (m ∷ rest) h = (one (rate_in_force file.rates m.age) m h.0, go rest h.1)

pub weights_reach : (a : Frequencies) (ms : List Life) (B : ℕ) → All FoldedLife ms → All (Below B) ms → lambda a ms ≤ⁿ sum_n B (weight_at a ms)
unfolding lambda total
weights_reach a [] B f c = omega arith
weights_reach a (m ∷ ms) B f c = go (single m) refl (weights_reach a ms B f.1 c.1)
  where
    go : (b : Bool) → single m ≡ b → lambda a ms ≤ⁿ sum_n B (weight_at a ms) → (if b then 0 else death_weight a m +ⁿ disability_weight a m) +ⁿ lambda a ms ≤ⁿ sum_n B (weight_at a (m ∷ ms))
    go true s h = omega (arith, sum_n_ext B (weight_at a (m ∷ ms)) (weight_at a ms) (λ k l. added a m ms f.0 true s k ∙ zero-add (weight_at a ms k)))
    go false s h =
        omega (
          arith,
          sum_n_add_ge B (λ k. death_at a m k +ⁿ disability_at a m k) (weight_at a ms) (weight_at a (m ∷ ms)) (λ k. omega (arith, added a m ms f.0 false s k)),
          sum_n_add_ge B (death_at a m) (disability_at a m) (λ k. death_at a m k +ⁿ disability_at a m k) (λ k. omega arith),
          at_least_once m.d (death_weight a m) B c.0.0,
          at_least_once m.e (disability_weight a m) B c.0.1,
        )

-- ---- in ℚ
pub moment : (a : Frequencies) (ms : List Life) → All FoldedLife ms → (n : ℕ) → sum n (θ (W a ms)) ≤ℚ over (nat (replaced_mean a ms)) unit
unfolding W
moment a ms f n = cancel unit unit_pos (≤_trans (≤_of_eq units) (≤_trans (nat_le (moment_within a ms n f)) (≤_of_eq (sym (over_ok (nat (replaced_mean a ms)) unit unit_pos)))))
  where
    units : U *ℚ sum n (λ k. nat k *ℚ over (nat (weight_at a ms k)) unit) ≡ nat (sum_n n (λ k. k *ⁿ weight_at a ms k))
    units =
        sym (sum_mul n U (λ k. nat k *ℚ over (nat (weight_at a ms k)) unit))
        ∙ sum_ext n (λ k. U *ℚ (nat k *ℚ over (nat (weight_at a ms k)) unit)) (λ k. nat (k *ⁿ weight_at a ms k))
        (λ k l. ring3 ℚ_ring (λ u k w. u ⊗ (k ⊗ w) := k ⊗ (u ⊗ w)) tt U (nat k) (over (nat (weight_at a ms k)) unit)
        ∙ ap (λ y. nat k *ℚ y) (over_ok (nat (weight_at a ms k)) unit unit_pos) ∙ sym (nat_mul k (weight_at a ms k)))
        ∙ sym (nat_sum n (λ k. k *ⁿ weight_at a ms k))

pub reach : (a : Frequencies) (ms : List Life) (B : ℕ) → All FoldedLife ms → All (Below B) ms → rate a ms ≤ℚ sum B (W a ms)
unfolding rate
reach a ms B f c = cancel unit unit_pos (≤_trans (≤_of_eq (over_ok (nat (lambda a ms)) unit unit_pos))
    (≤_trans (nat_le (weights_reach a ms B f c)) (≤_of_eq (sym (weights_units a ms B)))))
