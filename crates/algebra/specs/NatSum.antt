-- Finite sums of natural numbers: sum_n n f = f 0 + .. + f (n - 1), with the laws that ask no ring.
use Rattle.std.specs.Prelude.{◌≡◌, refl, ℕ, zero, suc, ◌+◌, ◌*◌, ◌<◌, ◌≤◌}
use Rattle.std.proofs.Common.{ap, ap₂, ⊎_elim, eq-or-lt_of_le, le_of_suc-le-suc, arith}

abbrev pub sum_n : ℕ → (ℕ → ℕ) → ℕ
sum_n zero f = 0
sum_n (suc n) f = sum_n n f + f n

pub sum_n_ext : (n : ℕ) (f g : ℕ → ℕ) → ((k : ℕ) → k < n → f k ≡ g k) → sum_n n f ≡ sum_n n g
sum_n_ext zero f g h = refl
sum_n_ext (suc n) f g h = ap₂ ◌+◌ (sum_n_ext n f g (λ k l. h k (omega arith))) (h n (omega arith))

pub sum_n_first : (n : ℕ) (f : ℕ → ℕ) → sum_n (suc n) f ≡ f 0 + sum_n n (λ k. f (suc k))
sum_n_first zero f = omega arith
sum_n_first (suc n) f = let h = sum_n_first n f in omega arith

pub sum_n_zero : (n : ℕ) → sum_n n (λ k. 0) ≡ 0
sum_n_zero zero = refl
sum_n_zero (suc n) = let h = sum_n_zero n in omega arith

-- term by term
pub sum_n_add_le : (n : ℕ) (f g h : ℕ → ℕ) → ((k : ℕ) → f k ≤ g k + h k) → sum_n n f ≤ sum_n n g + sum_n n h
sum_n_add_le zero f g h l = omega arith
sum_n_add_le (suc n) f g h l = let e = sum_n_add_le n f g h l in let k = l n in omega arith

pub sum_n_add_ge : (n : ℕ) (f g h : ℕ → ℕ) → ((k : ℕ) → f k + g k ≤ h k) → sum_n n f + sum_n n g ≤ sum_n n h
sum_n_add_ge zero f g h l = omega arith
sum_n_add_ge (suc n) f g h l = let e = sum_n_add_ge n f g h l in let k = l n in omega arith

pub sum_n_bound : (n b : ℕ) (f : ℕ → ℕ) → ((x : ℕ) → x < n → f x ≤ b) → sum_n n f ≤ n * b
sum_n_bound zero b f h = omega arith
sum_n_bound (suc n) b f h = let k = sum_n_bound n b f (λ x l. h x (omega arith)) in let l = h n (omega arith) in omega arith

pub sum_n_term : (n x : ℕ) (f : ℕ → ℕ) → x < n → f x ≤ sum_n n f
sum_n_term zero x f h = absurd (omega arith)
sum_n_term (suc n) x f h = ⊎_elim (λ e. omega (arith, ap f e)) (λ l. let k = sum_n_term n x f l in omega arith) (eq-or-lt_of_le (le_of_suc-le-suc h))
