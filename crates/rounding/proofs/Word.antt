-- The laws of `word` and `scaled`, for any rounding: where the functions answer the rounded quotient itself, and where the largest word.
-- All that is used of a rounding is that it does not pass a whole number that the quotient does not pass.
use mathlib.Core.Path.{◌≡◌, sym, ◌∙◌, ap}
use mathlib.Core.Bool.{or-true}
use Prim.Native.Nat.{ℕ, zero, suc, ◌*◌, ◌^◌, ◌<◌, ◌≤◌}
use native.Mathlib.Nat as N
use native.Mathlib.Omega.{arith}
use borrow.Author.Tests.{lt-ltb, le-ltb, ne_eqb}
use Rattle.rounding.specs.Rounding.{near, up}
use Rattle.rounding.specs.Word.{largest, word, scaled}
use Rattle.rounding.proofs.Laws.{near_above, near_below, near_by_zero, up_above, up_least, up_by_zero}

pub record Rounds (round : ℕ → ℕ → ℕ) : Type 0 where
  pub above : (a b k : ℕ) → 0 < b → b * k ≤ a → k ≤ round a b
  pub below : (a b k : ℕ) → 0 < b → a ≤ b * k → round a b ≤ k
  pub none : (a : ℕ) → round a 0 ≡ 0

pub near_rounds : Rounds near
near_rounds = record { above = near_above; below = near_below; none = near_by_zero }

pub up_rounds : Rounds up
up_rounds = record { above = up_above; below = up_least; none = up_by_zero }

-- ---- a number as a word

pub word_is : (x : ℕ) → x ≤ largest → word x ≡ x
unfolding word
word_is x h = omega arith

pub word_many : (x : ℕ) → largest ≤ x → word x ≡ largest
unfolding word
word_many x h = omega arith

-- ---- a rounded quotient as a word

module _ {round : ℕ → ℕ → ℕ} (r : Rounds round) (p unit : ℕ) (h : 0 < unit) where
  pub round_is : p ≤ largest * unit → word (round p unit) ≡ round p unit
  round_is g = word_is (round p unit) (r.below p unit largest h (omega arith))

  pub round_many : 2 ^ 64 * unit ≤ p → word (round p unit) ≡ largest
  round_many g = word_many (round p unit) (r.above p unit largest h (omega arith))

  pub scaled_zero : scaled round p 0 unit ≡ 0
  unfolding scaled
  scaled_zero = ap (λ x. word (round p x)) (N.zero-mul unit) ∙ ap word (r.none p) ∙ word_is 0 (omega arith)

  pub scaled_few : (n : ℕ) → p < 2 ^ 64 * unit → scaled round p n unit ≡ word (round p (n * unit))
  unfolding scaled
  scaled_few n g = rw (lt-ltb p (2 ^ 64 * unit) g, or-true)

  pub scaled_many : (n : ℕ) → 0 < n → 2 ^ 64 * unit ≤ p → scaled round p n unit ≡ largest
  unfolding scaled
  scaled_many n k g = rw (ne_eqb n 0 (omega arith), le-ltb p (2 ^ 64 * unit) g)

  pub scaled_is : (n : ℕ) → p ≤ largest * unit → scaled round p n unit ≡ round p (n * unit)
  scaled_is zero g = scaled_zero ∙ sym (ap (round p) (N.zero-mul unit) ∙ r.none p)
  scaled_is (suc n) g =
      scaled_few (suc n) (omega arith)
      ∙ word_is (round p (suc n * unit)) (r.below p (suc n * unit) largest (omega arith) (omega arith))

-- ---- what the public functions answer, for factors in these bounds

module _ {round : ℕ → ℕ → ℕ} (r : Rounds round) (a b : ℕ) (h : a ≤ 10 ^ 18) where
  pub per_unit_is : b ≤ 10 ^ 13 → word (round (a * b) (10 ^ 12)) ≡ round (a * b) (10 ^ 12)
  per_unit_is g = round_is r (a * b) (10 ^ 12) (omega arith) (omega (arith, N.mul-le-mul h g))

  pub per_units_is : (n : ℕ) → b ≤ 10 ^ 13 → scaled round (a * b) n (10 ^ 12) ≡ round (a * b) (n * 10 ^ 12)
  per_units_is n g = scaled_is r (a * b) (10 ^ 12) (omega arith) n (omega (arith, N.mul-le-mul h g))

  pub per_million_is : b ≤ 10 ^ 7 → word (round (a * b) (10 ^ 6)) ≡ round (a * b) (10 ^ 6)
  per_million_is g = round_is r (a * b) (10 ^ 6) (omega arith) (omega (arith, N.mul-le-mul h g))
