-- A product of q units and l, over n units, is q / n or one more, by what `Rest` says of its rest.
-- The quotient q fits a word, so the product is below 2^64 units.
use mathlib.Core.Path.{◌≡◌, ◌∙◌, ap}
use Prim.Native.Nat.{ℕ, ◌+◌, ◌*◌, ◌/◌, ◌%◌, ◌^◌, ◌<◌, ◌≤◌, zero-le}
use native.Mathlib.Nat as N
use native.Mathlib.Omega.{arith}
use Rattle.rounding.specs.Rounding.{near}
use Rattle.rounding.specs.Word.{largest, word, scaled}
use Rattle.rounding.proofs.Rest.{near_rest_low, near_rest_high, by_units, rest_below, half_low, half_high}
use Rattle.rounding.proofs.Word.{near_rounds, scaled_few, word_is}

module _ {p unit q l : ℕ} (d : (p ≡ q * unit + l) × (l < unit)) (n : ℕ) (k : 0 < n) (g : q ≤ largest) where
  positive : 0 < unit
  positive = N.lt_of_le_of_lt zero-le d.1

  few : p < 2 ^ 64 * unit
  few = omega (arith, N.mul-le-mul_right unit g, d.0, d.1)

  split : p ≡ q / n * (n * unit) + (q % n * unit + l)
  split = by_units p q l n unit (d.0)

  below : q % n * unit + l < n * unit
  below = rest_below (q % n) l n unit (N.mod-lt q k) d.1

  quotient_is : word (q / n) ≡ q / n
  quotient_is = word_is (q / n) (N.le_trans (N.div-le_self q n) g)

  near_few : scaled near p n unit ≡ word (near p (n * unit))
  near_few = scaled_few near_rounds p unit positive n few

  pub near_units_low : (c : ℕ) → 2 * l < (c + 1) * unit → 2 * (q % n) + c < n → scaled near p n unit ≡ q / n
  near_units_low c s r =
      near_few
      ∙ ap word (near_rest_low p (n * unit) (q / n) (q % n * unit + l) split (half_low (q % n) l n unit c s r))
      ∙ quotient_is

  pub near_units_high : (c : ℕ) → c * unit ≤ 2 * l → n ≤ 2 * (q % n) + c → scaled near p n unit ≡ word (q / n + 1)
  near_units_high c s r =
      near_few
      ∙ ap word (near_rest_high p (n * unit) (q / n) (q % n * unit + l) split (half_high (q % n) l n unit c s r) below)
