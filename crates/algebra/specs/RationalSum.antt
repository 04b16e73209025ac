-- Finite sums of rational numbers: Sum's laws at ℚ, and with the order: monotone, growing, the absolute value of a sum, two
-- sums that are close term by term (sum_close), and sums of whole numbers (nat_sum, ofℤ_sum, whole_sum_close).
use Rattle.std.specs.Prelude.{◌≡◌, ℕ, zero, suc, ◌<◌, ◌+◌ as ◌+ⁿ◌, ◌-◌ as ◌∸◌, ◌≤◌ as ◌≤ⁿ◌, ℤ}
use Rattle.std.proofs.Common.{sym, ◌∙◌, ap, ap₂, arith}
use Rattle.algebra.specs.Integer.{ℤ_ring}
use Rattle.algebra.specs.Sum as S
use Rattle.algebra.specs.Solver.{𝟎, 𝟏, ◌⊕◌, ◌⊗◌, ◌⊝◌, ◌:=◌, ring1, ring2, ring4}
pub use Rattle.algebra.specs.NatSum.{sum_n, sum_n_ext}
use Rattle.algebra.specs.Q.{ℚ, ℚ_ring, zero_q, one_q, ◌+ℚ◌, ◌-ℚ◌, ◌*ℚ◌, ◌≤ℚ◌, abs, ≤_refl, ≤_trans, ≤_of_eq, ≤_add, ≤_add_nn, ≤_nn_add}
use Rattle.algebra.specs.Q.{add_nn, abs_add, abs_subst, abs_zero_le, abs_add_le}
use Rattle.algebra.specs.Embedding.{nat, ofℤ, ofℤ_add, nat_zero, nat_add, nat_suc, nat_nn}

-- f 0 + .. + f (n - 1), in ℚ, in ℕ and in ℤ
abbrev pub sum : ℕ → (ℕ → ℚ) → ℚ
sum n f = S.sum ℚ_ring n f

abbrev pub sum_z : ℕ → (ℕ → ℤ) → ℤ
sum_z n f = S.sum ℤ_ring n f

-- ---- equations
pub sum_ext : (n : ℕ) (f g : ℕ → ℚ) → ((k : ℕ) → k < n → f k ≡ g k) → sum n f ≡ sum n g
sum_ext n f g h = S.sum_ext ℚ_ring n f g h

pub sum_zero : (n : ℕ) → sum n (λ k. zero_q) ≡ zero_q
sum_zero n = S.sum_zero ℚ_ring n

pub sum_const : (n : ℕ) (b : ℚ) → sum n (λ k. b) ≡ nat n *ℚ b
sum_const zero b = ring1 ℚ_ring (λ b. 𝟎 := 𝟎 ⊗ b) tt b ∙ ap (λ x. x *ℚ b) (sym nat_zero)
sum_const (suc n) b = ap (λ x. x +ℚ b) (sum_const n b) ∙ ring2 ℚ_ring (λ n b. n ⊗ b ⊕ b := (n ⊕ 𝟏) ⊗ b) tt (nat n) b
    ∙ ap (λ x. x *ℚ b) (sym (nat_suc n))

pub sum_add : (n : ℕ) (f g : ℕ → ℚ) → sum n (λ k. f k +ℚ g k) ≡ sum n f +ℚ sum n g
sum_add n f g = S.sum_add ℚ_ring n f g

pub sum_mul : (n : ℕ) (c : ℚ) (f : ℕ → ℚ) → sum n (λ k. c *ℚ f k) ≡ c *ℚ sum n f
sum_mul n c f = S.sum_mul ℚ_ring n c f

pub sum_first : (n : ℕ) (f : ℕ → ℚ) → sum (suc n) f ≡ f 0 +ℚ sum n (λ k. f (suc k))
sum_first n f = S.sum_first ℚ_ring n f

pub sum_swap : (n m : ℕ) (f : ℕ → ℕ → ℚ) → sum n (λ i. sum m (λ j. f i j)) ≡ sum m (λ j. sum n (λ i. f i j))
sum_swap n m f = S.sum_swap ℚ_ring n m f

pub sum_split : (n m : ℕ) (f : ℕ → ℚ) → sum (n +ⁿ m) f ≡ sum n f +ℚ sum m (λ k. f (n +ⁿ k))
sum_split n m f = S.sum_split ℚ_ring n m f

-- ---- order
pub sum_mono : (n : ℕ) (f g : ℕ → ℚ) → ((k : ℕ) → k < n → f k ≤ℚ g k) → sum n f ≤ℚ sum n g
sum_mono zero f g h = ≤_refl zero_q
sum_mono (suc n) f g h = ≤_add (sum_mono n f g (λ k l. h k (omega arith))) (h n (omega arith))

pub sum_nn : (n : ℕ) (f : ℕ → ℚ) → ((k : ℕ) → zero_q ≤ℚ f k) → zero_q ≤ℚ sum n f
sum_nn zero f h = ≤_refl zero_q
sum_nn (suc n) f h = add_nn (sum_nn n f h) (h n)

pub sum_grow : (n m : ℕ) (f : ℕ → ℚ) → ((k : ℕ) → zero_q ≤ℚ f k) → n ≤ⁿ m → sum n f ≤ℚ sum m f
sum_grow n m f h l = ≤_trans (≤_add_nn (sum_nn (m ∸ n) (λ k. f (n +ⁿ k)) (λ k. h (n +ⁿ k))))
    (≤_of_eq (sym (sum_split n (m ∸ n) f) ∙ ap (λ x. sum x f) e))
  where
    e : n +ⁿ (m ∸ n) ≡ m
    e = omega arith

-- one term of a sum
pub sum_term : (n k : ℕ) (f : ℕ → ℚ) → ((k : ℕ) → zero_q ≤ℚ f k) → k < n → f k ≤ℚ sum n f
sum_term n k f h l = ≤_trans (≤_nn_add (sum_nn k f h)) (sum_grow (suc k) n f h (omega arith))

pub sum_abs : (n : ℕ) (f : ℕ → ℚ) → abs (sum n f) ≤ℚ sum n (λ k. abs (f k))
sum_abs zero f = abs_zero_le (≤_refl zero_q)
sum_abs (suc n) f = ≤_trans (abs_add (sum n f) (f n)) (≤_add (sum_abs n f) (≤_refl (abs (f n))))

-- two sums, term by term
pub sum_close : (n : ℕ) (a b e : ℕ → ℚ) → ((k : ℕ) → k < n → abs (a k -ℚ b k) ≤ℚ e k) → abs (sum n a -ℚ sum n b) ≤ℚ sum n e
sum_close zero a b e h = abs_subst (ring1 ℚ_ring (λ x. 𝟎 := 𝟎 ⊝ 𝟎) tt one_q) (abs_zero_le (≤_refl zero_q))
sum_close (suc n) a b e h = abs_subst (ring4 ℚ_ring (λ s t x y. (s ⊝ t) ⊕ (x ⊝ y) := (s ⊕ x) ⊝ (t ⊕ y)) tt (sum n a) (sum n b) (a n) (b n))
    (abs_add_le (sum n a -ℚ sum n b) (a n -ℚ b n) (sum n e) (e n) (sum_close n a b e (λ k l. h k (omega arith))) (h n (omega arith)))

-- ---- whole numbers
pub nat_sum : (n : ℕ) (f : ℕ → ℕ) → nat (sum_n n f) ≡ sum n (λ k. nat (f k))
nat_sum zero f = nat_zero
nat_sum (suc n) f = nat_add (sum_n n f) (f n) ∙ ap (λ x. x +ℚ nat (f n)) (nat_sum n f)

pub ofℤ_sum : (n : ℕ) (f : ℕ → ℤ) → ofℤ (sum_z n f) ≡ sum n (λ k. ofℤ (f k))
ofℤ_sum zero f = nat_zero
ofℤ_sum (suc n) f = ofℤ_add (sum_z n f) (f n) ∙ ap (λ x. x +ℚ ofℤ (f n)) (ofℤ_sum n f)

-- whole numbers against u times rational ones
pub whole_sum_close : (u : ℚ) (n : ℕ) (a : ℕ → ℤ) (b : ℕ → ℚ) (e : ℕ → ℕ) →
    ((k : ℕ) → k < n → abs (ofℤ (a k) -ℚ u *ℚ b k) ≤ℚ nat (e k)) → abs (ofℤ (sum_z n a) -ℚ u *ℚ sum n b) ≤ℚ nat (sum_n n e)
whole_sum_close u n a b e h = ≤_trans (abs_subst (ap₂ ◌-ℚ◌ (sym (ofℤ_sum n a)) (sum_mul n u b))
    (sum_close n (λ k. ofℤ (a k)) (λ k. u *ℚ b k) (λ k. nat (e k)) h))
    (≤_of_eq (sym (nat_sum n e)))

pub whole_same_close : (u : ℚ) (a : ℤ) (b : ℚ) (e : ℕ) → ofℤ a ≡ u *ℚ b → abs (ofℤ a -ℚ u *ℚ b) ≤ℚ nat e
whole_same_close u a b e h = abs_subst (sym (ℚ_ring.add_neg (u *ℚ b)) ∙ ap (λ x. x -ℚ u *ℚ b) (sym h)) (abs_zero_le (nat_nn e))
