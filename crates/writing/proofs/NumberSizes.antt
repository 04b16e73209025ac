-- How long a piece can be: a word has at most 20 digits, a signed one at most 19 and its sign, and a point takes one byte more. The line of a refusal has
-- two numbers.
use Prim.Native.Nat.{ℕ, suc, ◌+◌, ◌/◌, ◌^◌, ◌≤◌, ◌<◌}
use native.Mathlib.Omega.{arith}
use lib.IntN.{ℤ, pos, negsuc}
use lib.ListN.{length, length-append}
use mir.Syntax.{w64}
use mir.Val.{SFits}
use Rattle.fund.specs.declared.Refusal.{Refusal}
use Rattle.fund.specs.Base.{bytes}
use Rattle.fund.specs.Refusals.{number_of}
use Rattle.fund.specs.Listing.{decimal, signed_decimal, joined, refused_line}
use Rattle.writing.specs.Pointed.{pointed, signed_pointed}
use Rattle.writing.proofs.Decimal.{decimal_length}
use Rattle.writing.proofs.PointedDigits.{padded_length}

pub decimal_word : (n : ℕ) → n < 2 ^ 64 → length (decimal n) ≤ 20
decimal_word n h = decimal_length 19 n (omega arith) h

pub signed_word : (z : ℤ) → SFits w64 z → length (signed_decimal z) ≤ 20
unfolding signed_decimal
signed_word (pos n) f = omega (arith, decimal_length 18 n (omega (arith, f.sfits)) (omega (arith, f.sfits)))
signed_word (negsuc n) f = omega (arith, decimal_length 18 (suc n) (omega (arith, f.sfits)) (omega (arith, f.sfits)))

-- With at most `suc j` digits before the point.
pub pointed_length : (k j n : ℕ) → n / 10 ^ k < 10 ^ suc j → n / 10 ^ k < 2 ^ 64 → length (pointed k n) ≤ suc j + suc k
unfolding pointed
pointed_length k j n h w = rw length-append (omega (arith, decimal_length j (n / 10 ^ k) h w, padded_length k n))

pub pointed_word_2 : (n : ℕ) → n < 2 ^ 64 → length (pointed 2 n) ≤ 21
pointed_word_2 n h = pointed_length 2 17 n (omega arith) (omega arith)

pub pointed_word_12 : (n : ℕ) → n < 2 ^ 64 → length (pointed 12 n) ≤ 21
pointed_word_12 n h = pointed_length 12 7 n (omega arith) (omega arith)

pub signed_pointed_word_2 : (z : ℤ) → SFits w64 z → length (signed_pointed 2 z) ≤ 21
unfolding signed_pointed
signed_pointed_word_2 (pos n) f = omega (arith, pointed_length 2 16 n (omega (arith, f.sfits)) (omega (arith, f.sfits)))
signed_pointed_word_2 (negsuc n) f = omega (arith, pointed_length 2 16 (suc n) (omega (arith, f.sfits)) (omega (arith, f.sfits)))

pub signed_pointed_word_12 : (z : ℤ) → SFits w64 z → length (signed_pointed 12 z) ≤ 21
unfolding signed_pointed
signed_pointed_word_12 (pos n) f = omega (arith, pointed_length 12 6 n (omega (arith, f.sfits)) (omega (arith, f.sfits)))
signed_pointed_word_12 (negsuc n) f = omega (arith, pointed_length 12 6 (suc n) (omega (arith, f.sfits)) (omega (arith, f.sfits)))

number_word : (why : Refusal) → number_of why < 2 ^ 64
number_word why = grind arith

pub refusal_length : (why : Refusal) (place : ℕ) → place < 2 ^ 64 → length (refused_line why place) ≤ 50
unfolding refused_line joined bytes
refusal_length why place h = simp length-append (omega (arith, decimal_word (number_of why) (number_word why), decimal_word place h))
