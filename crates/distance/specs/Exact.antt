-- The exact values are METHOD 10's whole numbers over its denominator: exact X a ms x is the denominator times the expansion's
-- distribution at x, for each x up to X (exact_is). The three parts have 10^(6g), 10^(12X)×X! and 10^756×63! under them.
use Rattle.std.specs.Prelude.{◌≡◌, refl, Bool, true, false, List, [], ◌∷◌, ℤ, neg_ℤ, ◌*ℤ◌, if◌then◌else◌}
use Rattle.std.proofs.Math.Path.{sym, ap, ap₂}
use Rattle.std.proofs.Common.{◌∙◌, mul_comm, arith}
use Prim.Native.Nat.{ℕ, zero, suc, ◌≤◌ as ◌≤ⁿ◌, ◌+◌ as ◌+ⁿ◌, ◌*◌ as ◌*ⁿ◌, ◌-◌ as ◌∸◌, ◌^◌}
use Rattle.std.proofs.Math.Dec.{leb-zero, leb-suc-zero, leb-suc-suc}
use Rattle.std.proofs.Math.IntN.{pos}
use Rattle.algebra.specs.Laws as L
use Rattle.algebra.specs.Series as S
use Rattle.algebra.specs.Solver.{ring1, ring3, ring4, ring5, ring7, ring8, 𝟎, 𝟏, ⊖◌, ◌⊕◌, ◌⊗◌, ◌:=◌}
use Rattle.algebra.specs.Q.{ℚ, ℚ_ring, neg_q, zero_q, one_q, ◌+ℚ◌, ◌*ℚ◌}
use Rattle.algebra.specs.Embedding.{ofℤ, ofℤ_one, ofℤ_add, ofℤ_mul, ofℤ_neg, nat, nat_zero, nat_add, nat_mul}
use Rattle.algebra.specs.Quotient.{inv, inv_ok, over, over_ok, over_zero}
use Rattle.algebra.specs.RationalSum.{sum, sum_ext, sum_mul, nat_sum, ofℤ_sum}
use Rattle.algebra.specs.Power.{pow_q, pow_q_add, pow_q_mul, nat_pow, ifact}
use Rattle.algebra.specs.PowerSeries.{Ser, ◌⋆◌, pow, product_sum, const_product}
use Rattle.expansion.specs.Place.{shift}
use Rattle.expansion.specs.Member.{own_product, distribution}
use Rattle.expansion.specs.FoldedMember.{own_step}
use Rattle.expansion.specs.Poisson.{poisson, exp_poisson}
use Rattle.expansion.specs.Exponential.{exp_sum}
use Rattle.fund.specs.declared.Frequencies.{Frequencies}
use Rattle.fund.specs.declared.Life.{Life}
use Rattle.fund.specs.Base.{total, sumℤ}
use Rattle.fund.specs.Folding.{stay, single}
use Rattle.fund.specs.Transform.{unit, lambda}
use Rattle.fund.specs.Exact.{factorial, singles, denominator, shifted, one, single_part, weight_at, convolved, fold, series, replaced_part, power, exponential, exact}
use Rattle.laws.specs.Accepted.{All, Limited}
use Rattle.laws.specs.Cells.{sumℤ_is, sum_is}
use Rattle.distance.specs.Errors.{U, unit_pos, nat_units}
use Rattle.distance.specs.Lives.{member_of, members, W, rate, FoldedLife, limited_folded}

-- 10^n in ℚ
abbrev pub ten : ℚ
ten = nat 10

unit_ten : U ≡ pow_q ten 12
unfolding unit
unit_ten = nat_pow 10 12

-- ---- group 1
shifted_is : (c : ℚ) (P : Ser) (g : ℕ → ℕ) → ((x : ℕ) → nat (g x) ≡ c *ℚ P x) → (d x : ℕ) → nat (shifted d g x) ≡ c *ℚ shift d P x
unfolding shifted
shifted_is c P g h zero x = ap (λ b. nat (if b then g (x ∸ 0) else 0)) (leb-zero x) ∙ ap (λ y. nat (g y)) e ∙ h x
  where
    e : x ∸ 0 ≡ x
    e = omega arith
shifted_is c P g h (suc d) zero = ap (λ b. nat (if b then g (0 ∸ suc d) else 0)) (leb-suc-zero d) ∙ nat_zero ∙ sym (L.mul-zero ℚ_ring c)
shifted_is c P g h (suc d) (suc x) = ap₂ (λ b y. nat (if b then g y else 0)) (leb-suc-suc d x) e ∙ shifted_is c P g h d x
  where
    e : suc x ∸ suc d ≡ x ∸ d
    e = omega arith

-- numerators over 10^(6g)
abbrev pub sixes : List Life → ℚ
sixes ms = pow_q ten (6 *ⁿ singles ms)

-- 10^6 for one more member
six_more : (g : ℕ) → pow_q ten (6 *ⁿ (1 +ⁿ g)) ≡ nat 1000000 *ℚ pow_q ten (6 *ⁿ g)
six_more g = ap (pow_q ten) e ∙ pow_q_add ten 6 (6 *ⁿ g) ∙ ap (λ x. x *ℚ pow_q ten (6 *ⁿ g)) (sym (nat_pow 10 6))
  where
    e : 6 *ⁿ (1 +ⁿ g) ≡ 6 +ⁿ 6 *ⁿ g
    e = omega arith

pub single_is : (r : ℕ) (ms : List Life) → All Limited ms → All FoldedLife ms → (x : ℕ) → nat (single_part ms x) ≡ sixes ms *ℚ own_product (members r ms) x
unfolding single_part singles total members one
single_is r [] c f zero = ofℤ_one ∙ sym (ℚ_ring.mul-one one_q)
single_is r [] c f (suc x) = nat_zero ∙ sym (L.mul-zero ℚ_ring one_q)
single_is r (m ∷ ms) c f x = go (single m) refl (single_is r ms c.1 f.1)
  where
    g : ℕ → ℕ
    g = single_part ms

    P : Ser
    P = own_product (members r ms)

    G : ℚ
    G = sixes ms

    S : ℚ
    S = nat (stay m) *ℚ P x +ℚ nat m.q *ℚ shift m.d P x +ℚ nat m.i *ℚ shift m.e P x

    go : (b : Bool) → single m ≡ b → ((y : ℕ) → nat (g y) ≡ G *ℚ P y) →
        nat (if b then stay m *ⁿ g x +ⁿ m.q *ⁿ shifted m.d g x +ⁿ m.i *ⁿ shifted m.e g x else g x)
        ≡ pow_q ten (6 *ⁿ ((if b then 1 else 0) +ⁿ singles ms)) *ℚ own_product (if b then member_of r m ∷ members r ms else members r ms) x
    go true e ih =
        nat_add (stay m *ⁿ g x +ⁿ m.q *ⁿ shifted m.d g x) (m.i *ⁿ shifted m.e g x)
        ∙ ap₂ ◌+ℚ◌ (nat_add (stay m *ⁿ g x) (m.q *ⁿ shifted m.d g x)
        ∙ ap₂ ◌+ℚ◌ (nat_mul (stay m) (g x) ∙ ap (λ y. nat (stay m) *ℚ y) (ih x)) (nat_mul m.q (shifted m.d g x) ∙ ap (λ y. nat m.q *ℚ y) (shifted_is G P g ih m.d x)))
        (nat_mul m.i (shifted m.e g x) ∙ ap (λ y. nat m.i *ℚ y) (shifted_is G P g ih m.e x))
        ∙ ring7 ℚ_ring (λ p q i n a b c. p ⊗ (n ⊗ a) ⊕ q ⊗ (n ⊗ b) ⊕ i ⊗ (n ⊗ c) := n ⊗ (p ⊗ a ⊕ q ⊗ b ⊕ i ⊗ c)) tt (nat (stay m)) (nat m.q) (nat m.i) G (P x) (shift m.d P x) (shift m.e P x)
        ∙ ap (λ y. G *ℚ y) (sym (over_ok S 1000000 (omega arith)))
        ∙ ring3 ℚ_ring (λ n a b. n ⊗ (a ⊗ b) := (a ⊗ n) ⊗ b) tt G (nat 1000000) (over S 1000000)
        ∙ ap₂ ◌*ℚ◌ (sym (six_more (singles ms))) (sym (own_step m.q m.i (stay m) 1000000 m.d m.e (limited_folded m c.0 f.0 e) (member_of r m).e P x))
    go false e ih = ih x ∙ ap (λ y. pow_q ten (6 *ⁿ y) *ℚ P x) z
      where
        z : singles ms ≡ 0 +ⁿ singles ms
        z = omega arith

-- ---- group 2
nat_one : nat 1 ≡ one_q
nat_one = ofℤ_one

fact_ifact : (n : ℕ) → nat (factorial n) *ℚ ifact n ≡ one_q
unfolding factorial
fact_ifact zero = ap (λ x. x *ℚ one_q) nat_one ∙ ℚ_ring.mul-one one_q
fact_ifact (suc n) =
    ap (λ x. x *ℚ (inv n *ℚ ifact n)) (nat_mul (suc n) (factorial n))
    ∙ ring4 ℚ_ring (λ s f i j. s ⊗ f ⊗ (i ⊗ j) := (s ⊗ i) ⊗ (f ⊗ j)) tt (nat (suc n)) (nat (factorial n)) (inv n) (ifact n)
    ∙ ap₂ ◌*ℚ◌ (inv_ok n) (fact_ifact n)
    ∙ ℚ_ring.mul-one one_q

-- the denominator of a series cut at N: 10^(12N)×N!
abbrev pub under : ℕ → ℚ
under N = pow_q U N *ℚ nat (factorial N)

twelve : (n : ℕ) → nat (10 ^ 12 *ⁿ suc n) ≡ U *ℚ nat (suc n)
twelve n = ap nat (mul_comm (10 ^ 12) (suc n)) ∙ nat_units (suc n) ∙ ℚ_ring.mul_comm (nat (suc n)) U

pub series_is : (u : ℕ → ℤ) (v : ℕ → ℚ) → ((n : ℕ) → ofℤ (u n) ≡ pow_q U n *ℚ v n) → (N : ℕ) → ofℤ (series u N) ≡ under N *ℚ sum (suc N) (λ n. ifact n *ℚ v n)
unfolding series factorial
series_is u v h zero =
    h 0
    ∙ ring1 ℚ_ring (λ v. 𝟏 ⊗ v := 𝟏 ⊗ 𝟏 ⊗ (𝟎 ⊕ 𝟏 ⊗ v)) tt (v 0)
    ∙ ap (λ x. one_q *ℚ x *ℚ (zero_q +ℚ one_q *ℚ v 0)) (sym nat_one)
series_is u v h (suc n) =
    ofℤ_add (series u n *ℤ pos (10 ^ 12 *ⁿ suc n)) (u (suc n))
    ∙ ap₂ ◌+ℚ◌ (ofℤ_mul (series u n) (pos (10 ^ 12 *ⁿ suc n)) ∙ ap₂ ◌*ℚ◌ (series_is u v h n) (twelve n)) (h (suc n) ∙ ring1 ℚ_ring (λ x. x := 𝟏 ⊗ 𝟏 ⊗ x) tt (pow_q U (suc n) *ℚ v (suc n)))
    ∙ ap₂ (λ x y. under n *ℚ S *ℚ (U *ℚ nat (suc n)) +ℚ x *ℚ y *ℚ (pow_q U (suc n) *ℚ v (suc n))) (sym (inv_ok n)) (sym (fact_ifact n))
    ∙ ring8 ℚ_ring (λ u p f s t i j v. p ⊗ f ⊗ t ⊗ (u ⊗ s) ⊕ (s ⊗ i) ⊗ (f ⊗ j) ⊗ (u ⊗ p ⊗ v) := u ⊗ p ⊗ (s ⊗ f) ⊗ (t ⊕ i ⊗ j ⊗ v)) tt U (pow_q U n) (nat (factorial n)) (nat (suc n)) S (inv n) (ifact n) (v (suc n))
    ∙ ap (λ x. U *ℚ pow_q U n *ℚ x *ℚ (S +ℚ inv n *ℚ ifact n *ℚ v (suc n))) (sym (nat_mul (suc n) (factorial n)))
  where
    S : ℚ
    S = sum (suc n) (λ k. ifact k *ℚ v k)

-- the n-fold convolution of weights over 10^12
module _ (a : Frequencies) (ms : List Life) where
  weight_is : (k : ℕ) → nat (weight_at a ms k) ≡ U *ℚ W a ms k
  unfolding W
  weight_is k = sym (over_ok (nat (weight_at a ms k)) unit unit_pos)

  pub W_zero : W a ms 0 ≡ zero_q
  unfolding W weight_at
  W_zero = ap (λ x. over x unit) nat_zero ∙ over_zero unit

  fold_is : (n x : ℕ) → nat (fold n (weight_at a ms) x) ≡ pow_q U n *ℚ pow (W a ms) n x
  unfolding fold one convolved
  fold_is zero zero = nat_one ∙ sym (ℚ_ring.mul-one one_q)
  fold_is zero (suc x) = nat_zero ∙ sym (L.mul-zero ℚ_ring one_q)
  fold_is (suc n) x =
      ap nat (sum_is (suc x) (λ k. weight_at a ms k *ⁿ fold n (weight_at a ms) (x ∸ k)))
      ∙ nat_sum (suc x) (λ k. weight_at a ms k *ⁿ fold n (weight_at a ms) (x ∸ k))
      ∙ sum_ext (suc x) (λ k. nat (weight_at a ms k *ⁿ fold n (weight_at a ms) (x ∸ k))) (λ k. U *ℚ pow_q U n *ℚ (W a ms k *ℚ pow (W a ms) n (x ∸ k)))
      (λ k l. nat_mul (weight_at a ms k) (fold n (weight_at a ms) (x ∸ k)) ∙ ap₂ ◌*ℚ◌ (weight_is k) (fold_is n (x ∸ k))
      ∙ ring4 ℚ_ring (λ u w p y. u ⊗ w ⊗ (p ⊗ y) := u ⊗ p ⊗ (w ⊗ y)) tt U (W a ms k) (pow_q U n) (pow (W a ms) n (x ∸ k)))
      ∙ sum_mul (suc x) (U *ℚ pow_q U n) (λ k. W a ms k *ℚ pow (W a ms) n (x ∸ k))
      ∙ ap (λ y. U *ℚ pow_q U n *ℚ y) (sym (product_sum x (W a ms) (pow (W a ms) n)))

  pub replaced_is : (X x : ℕ) → x ≤ⁿ X → ofℤ (replaced_part X a ms x) ≡ under X *ℚ poisson (W a ms) x
  unfolding replaced_part
  replaced_is X x l =
      series_is (λ n. pos (fold n (weight_at a ms) x)) (λ n. pow (W a ms) n x) (λ n. fold_is n x) X
      ∙ ap (λ y. under X *ℚ y) (exp_poisson (W a ms) W_zero (suc X) x (omega arith))

  power_is : (j : ℕ) → ofℤ (power (neg_ℤ (pos (lambda a ms))) j) ≡ pow_q U j *ℚ pow_q (neg_q (rate a ms)) j
  unfolding power rate
  power_is zero = ofℤ_one ∙ sym (ℚ_ring.mul-one one_q)
  power_is (suc j) =
      ofℤ_mul (neg_ℤ (pos (lambda a ms))) (power (neg_ℤ (pos (lambda a ms))) j)
      ∙ ap₂ ◌*ℚ◌ (ofℤ_neg (pos (lambda a ms)) ∙ ap neg_q (sym (over_ok (nat (lambda a ms)) unit unit_pos))) (power_is j)
      ∙ ring4 ℚ_ring (λ u l p q. ⊖ (u ⊗ l) ⊗ (p ⊗ q) := u ⊗ p ⊗ (⊖ l ⊗ q)) tt U (over (nat (lambda a ms)) unit) (pow_q U j) (pow_q (neg_q (over (nat (lambda a ms)) unit)) j)

  pub exponential_is : ofℤ (exponential a ms) ≡ under 63 *ℚ exp_sum 63 (neg_q (rate a ms))
  unfolding exponential
  exponential_is = series_is (power (neg_ℤ (pos (lambda a ms)))) (pow_q (neg_q (rate a ms))) power_is 63

-- ---- the denominator
pub denominator_is : (X : ℕ) (ms : List Life) → nat (denominator X ms) ≡ sixes ms *ℚ under X *ℚ under 63
unfolding denominator
denominator_is X ms =
    nat_mul (10 ^ (6 *ⁿ singles ms +ⁿ 12 *ⁿ X +ⁿ 756) *ⁿ factorial X) (factorial 63)
    ∙ ap (λ y. y *ℚ nat (factorial 63)) (nat_mul (10 ^ (6 *ⁿ singles ms +ⁿ 12 *ⁿ X +ⁿ 756)) (factorial X)
    ∙ ap (λ y. y *ℚ nat (factorial X)) (nat_pow 10 (6 *ⁿ singles ms +ⁿ 12 *ⁿ X +ⁿ 756) ∙ pow_q_add ten (6 *ⁿ singles ms +ⁿ 12 *ⁿ X) 756
    ∙ ap₂ ◌*ℚ◌ (pow_q_add ten (6 *ⁿ singles ms) (12 *ⁿ X) ∙ ap (λ y. sixes ms *ℚ y) (units X)) (units 63)))
    ∙ ring5 ℚ_ring (λ s x f k h. s ⊗ x ⊗ k ⊗ f ⊗ h := s ⊗ (x ⊗ f) ⊗ (k ⊗ h)) tt (sixes ms) (pow_q U X) (nat (factorial X)) (pow_q U 63) (nat (factorial 63))
  where
    units : (N : ℕ) → pow_q ten (12 *ⁿ N) ≡ pow_q U N
    units N = sym (pow_q_mul ten 12 N) ∙ ap (λ y. pow_q y N) (sym unit_ten)

-- ---- the exact values
-- the exact distribution of the expansion
abbrev pub P : ℕ → Frequencies → List Life → Ser
P r a ms = distribution (exp_sum 63 (neg_q (rate a ms))) (poisson (W a ms)) (members r ms)

pub exact_is : (X r : ℕ) (a : Frequencies) (ms : List Life) → All Limited ms → All FoldedLife ms → (x : ℕ) → x ≤ⁿ X → ofℤ (exact X a ms x) ≡ nat (denominator X ms) *ℚ P r a ms x
unfolding exact
exact_is X r a ms c f x l =
    ofℤ_mul (exponential a ms) (sumℤ (suc x) g)
    ∙ ap₂ ◌*ℚ◌ (exponential_is a ms) (ap ofℤ (sumℤ_is (suc x) g) ∙ ofℤ_sum (suc x) g
    ∙ sum_ext (suc x) (λ k. ofℤ (g k)) (λ k. sixes ms *ℚ under X *ℚ (own k *ℚ Q (x ∸ k)))
    (λ k h. ofℤ_mul (pos (single_part ms k)) (replaced_part X a ms (x ∸ k)) ∙ ap₂ ◌*ℚ◌ (single_is r ms c f k) (replaced_is a ms X (x ∸ k) (omega arith))
    ∙ ring4 ℚ_ring (λ s o u q. s ⊗ o ⊗ (u ⊗ q) := s ⊗ u ⊗ (o ⊗ q)) tt (sixes ms) (own k) (under X) (Q (x ∸ k)))
    ∙ sum_mul (suc x) (sixes ms *ℚ under X) (λ k. own k *ℚ Q (x ∸ k))
    ∙ ap (λ y. sixes ms *ℚ under X *ℚ y) (sym (product_sum x own Q) ∙ S.product_comm ℚ_ring x own Q))
    ∙ ring5 ℚ_ring (λ k s g u y. k ⊗ s ⊗ (g ⊗ u ⊗ y) := g ⊗ u ⊗ k ⊗ (s ⊗ y)) tt (under 63) (exp_sum 63 (neg_q (rate a ms))) (sixes ms) (under X) ((Q ⋆ own) x)
    ∙ ap₂ ◌*ℚ◌ (sym (denominator_is X ms)) (sym (const_product (exp_sum 63 (neg_q (rate a ms))) (Q ⋆ own) x))
  where
    own : Ser
    own = own_product (members r ms)

    Q : Ser
    Q = poisson (W a ms)

    g : ℕ → ℤ
    g k = pos (single_part ms k) *ℤ replaced_part X a ms (x ∸ k)
