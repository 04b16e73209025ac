-- A word in decimal is what std prints of it (decimal_is), so it has no more digits than its limit (decimal_length).
use mathlib.Core.Path.{◌≡◌, refl, sym, ap, ◌∙◌}
use mathlib.Core.Bool.{Bool, true, false}
use mathlib.Core.List.{[], ◌∷◌, append-nil}
use Prim.Native.Nat.{ℕ, zero, suc, ◌^◌, ◌≤◌, ◌<◌}
use native.Mathlib.Omega.{arith}
use borrow.Author.Tests.{lt-ltb, le-ltb, ltb-true, ltb-false}
use lib.Dec.{ltb}
use lib.IntN.{ℤ, pos, negsuc}
use lib.ListN.{length}
use mir.Syntax.{w64}
use mir.Val.{SFits}
use Rattle.std.specs.Fmt.{decimal as std_decimal, signed_decimal as std_signed}
use Rattle.std.proofs.lemmas.Fmt.{PrependsLastDigit, decimal_from_prepends, decimal_digit, length-decimal-le}
use Rattle.fund.specs.Listing.{digits_within, decimal, signed_decimal}

prepends : PrependsLastDigit digits_within
unfolding digits_within
prepends =
    record {
      one = λ most n after h. rw (lt-ltb n 10 h, digits_within);
      more = λ most n after h. rw (le-ltb n 10 h, digits_within);
    }

-- A number above 0 has no more digits than the number itself.
few_digits : (n : ℕ) → 0 < n → n < 2 ^ 64 → length (std_decimal n) ≤ n
few_digits n p h = go (ltb n 10) (ltb n 100) refl refl
  where
    go : (one two : Bool) → ltb n 10 ≡ one → ltb n 100 ≡ two → length (std_decimal n) ≤ n
    go true two e f = rw (decimal_digit n (ltb-true n 10 e)) (omega arith)
    go false true e f = omega (arith, ltb-false n 10 e, length-decimal-le 2 n (omega arith) (ltb-true n 100 f) h)
    go false false e f = omega (arith, ltb-false n 100 f, length-decimal-le 20 n (omega arith) (omega arith) h)

pub decimal_is : (n : ℕ) → n < 2 ^ 64 → decimal n ≡ std_decimal n
unfolding decimal digits_within
decimal_is zero h = sym (decimal_digit 0 (omega arith))
decimal_is (suc k) h = decimal_from_prepends digits_within prepends (suc k) (suc k) [] h (few_digits (suc k) (omega arith) h) ∙ append-nil _

pub signed_is : (z : ℤ) → SFits w64 z → signed_decimal z ≡ std_signed z
unfolding signed_decimal
signed_is (pos n) f = decimal_is n (omega (arith, f.sfits))
signed_is (negsuc n) f = ap (λ l. 45 ∷ l) (decimal_is (suc n) (omega (arith, f.sfits)))

pub decimal_length : (k n : ℕ) → n < 10 ^ suc k → n < 2 ^ 64 → length (decimal n) ≤ suc k
decimal_length k n h g = rw (decimal_is n g) (length-decimal-le (suc k) n (omega arith) h g)
