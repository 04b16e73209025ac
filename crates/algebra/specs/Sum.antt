-- Finite sums in a commutative ring: sum n f = f 0 + .. + f (n - 1). Sums add, take out factors, split and exchange.
use Rattle.std.specs.Prelude.{◌≡◌, refl, ℕ, zero, suc, ◌<◌, ◌+◌ as ◌+ⁿ◌}
use Rattle.std.proofs.Common.{sym, ◌∙◌, ap, ap₂, arith}
use Rattle.std.proofs.Math.Nat as NL
use Rattle.algebra.specs.Ring.{CRing}
use Rattle.algebra.specs.Laws as L

module _ (R : CRing) where
  infixl 6 ◌+◌
  infixl 7 ◌*◌
  open R use {Carrier, add as ◌+◌, mul as ◌*◌, zero#, add_assoc, add_comm, add-zero, distrib}

  -- f 0 + .. + f (n - 1)
  abbrev pub sum : ℕ → (ℕ → Carrier) → Carrier
  sum zero f = zero#
  sum (suc n) f = sum n f + f n

  pub sum_ext : (n : ℕ) (f g : ℕ → Carrier) → ((k : ℕ) → k < n → f k ≡ g k) → sum n f ≡ sum n g
  sum_ext zero f g h = refl
  sum_ext (suc n) f g h = ap₂ ◌+◌ (sum_ext n f g (λ k l. h k (omega arith))) (h n (omega arith))

  pub sum_add : (n : ℕ) (f g : ℕ → Carrier) → sum n (λ k. f k + g k) ≡ sum n f + sum n g
  sum_add zero f g = sym (add-zero zero#)
  sum_add (suc n) f g = ap (λ x. x + (f n + g n)) (sum_add n f g) ∙ L.add_inter R (sum n f) (sum n g) (f n) (g n)

  pub sum_zero : (n : ℕ) → sum n (λ k. zero#) ≡ zero#
  sum_zero zero = refl
  sum_zero (suc n) = add-zero (sum n (λ k. zero#)) ∙ sum_zero n

  pub sum_mul : (n : ℕ) (c : Carrier) (f : ℕ → Carrier) → sum n (λ k. c * f k) ≡ c * sum n f
  sum_mul zero c f = sym (L.mul-zero R c)
  sum_mul (suc n) c f = ap (λ x. x + c * f n) (sum_mul n c f) ∙ sym (distrib c (sum n f) (f n))

  -- the first summand split off
  pub sum_first : (n : ℕ) (f : ℕ → Carrier) → sum (suc n) f ≡ f 0 + sum n (λ k. f (suc k))
  sum_first zero f = add_comm zero# (f 0)
  sum_first (suc n) f = ap (λ x. x + f (suc n)) (sum_first n f) ∙ add_assoc (f 0) (sum n (λ k. f (suc k))) (f (suc n))

  -- two sums exchanged
  pub sum_swap : (n m : ℕ) (f : ℕ → ℕ → Carrier) → sum n (λ i. sum m (λ j. f i j)) ≡ sum m (λ j. sum n (λ i. f i j))
  sum_swap zero m f = sym (sum_zero m)
  sum_swap (suc n) m f = ap (λ x. x + sum m (λ j. f n j)) (sum_swap n m f) ∙ sym (sum_add m (λ j. sum n (λ i. f i j)) (λ j. f n j))

  -- a sum in two parts
  pub sum_split : (n m : ℕ) (f : ℕ → Carrier) → sum (n +ⁿ m) f ≡ sum n f + sum m (λ k. f (n +ⁿ k))
  sum_split n zero f = ap (λ x. sum x f) (NL.add-zero n) ∙ sym (add-zero (sum n f))
  sum_split n (suc m) f = ap (λ x. sum x f) (NL.add-suc n m) ∙ ap (λ x. x + f (n +ⁿ m)) (sum_split n m f)
      ∙ add_assoc (sum n f) (sum m (λ k. f (n +ⁿ k))) (f (n +ⁿ m))
