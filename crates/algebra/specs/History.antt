-- A sequence whose each element is computed from all before it: seq d step, with seq n = step n seq (seq_step) where a step looks only
-- at earlier elements.
use Rattle.std.specs.Prelude.{◌≡◌, Bool, true, false, not, cond, T, ltb}
use Rattle.std.proofs.Common.{ap, ltb→lt, nltb→le}
use Prim.Native.Nat.{ℕ, zero, suc, ◌<◌, ◌≤◌}
use native.Mathlib.Omega.{arith}

module _ {A : Type 0} (d : A) (step : (n : ℕ) → (ℕ → A) → A) where
  -- right below n
  upto : ℕ → ℕ → A
  upto zero k = d
  upto (suc n) k = cond (ltb k n) (upto n k) (step n (upto n))

  pub seq : ℕ → A
  seq n = step n (upto n)

  upto_is : (n k : ℕ) → k < n → upto n k ≡ seq k
  unfolding upto seq
  upto_is zero k h = absurd (go h)
    where
      go : k < zero → ⊥
      go h = omega arith
  upto_is (suc n) k h = go (ltb k n) (ltb→lt k n) (nltb→le k n) (upto_is n k)
    where
      same : n ≤ k → n ≡ k
      same g = omega arith

      go : (b : Bool) → (T b → k < n) → (T (not b) → n ≤ k) → (k < n → upto n k ≡ step k (upto k)) →
          cond b (upto n k) (step n (upto n)) ≡ step k (upto k)
      go true f g ih = ih (f tt)
      go false f g ih = ap (λ m. step m (upto m)) (same (g tt))

  module _ (local : (n : ℕ) (f g : ℕ → A) → ((k : ℕ) → k < n → f k ≡ g k) → step n f ≡ step n g) where
    pub seq_step : (n : ℕ) → seq n ≡ step n seq
    unfolding seq
    seq_step n = local n (upto n) seq (λ k h. upto_is n k h)
