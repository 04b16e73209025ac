-- A product is taken apart at one of its factors. The parts of a product with a factor below the unit fit a word each,
-- and a product with whole units is added to such a part.
use mathlib.Core.Path.{◌≡◌, sym, ◌∙◌, ap}
use Prim.Native.Nat.{ℕ, ◌+◌, ◌*◌, ◌/◌, ◌%◌, ◌^◌, ◌<◌, ◌≤◌}
use native.Mathlib.Nat as N
use native.Mathlib.Omega.{arith}

pub split_left : (a b m : ℕ) → a * b ≡ a / m * b * m + a % m * b
split_left a b m =
    ap (λ x. x * b) (sym (N.div-add-mod' a m))
    ∙ N.add-mul (a / m * m) (a % m) b ∙ ap (λ x. x + a % m * b) (N.mul_right_comm (a / m) m b)

pub split_right : (a b m : ℕ) → a * b ≡ a * (b / m) * m + a * (b % m)
split_right a b m =
    ap (λ x. a * x) (sym (N.div-add-mod' b m))
    ∙ N.mul-add a (b / m * m) (b % m) ∙ ap (λ x. x + a * (b % m)) (sym (N.mul_assoc a (b / m) m))

-- The parts for b below 10^12, and for b below 10^6.
pub record UnitParts (a b : ℕ) : Type 0 where
  pub high : a / 1000000000000 * b ≤ 18446744 * 999999999999
  pub middle : a % 1000000000000 / 1000000 * b ≤ 999999 * 999999999999
  pub low : a % 1000000000000 % 1000000 * b ≤ 999999 * 999999999999
  pub at_most : a * b ≤ a * 1000000000000
  pub sum : a * b ≡ a / 1000000000000 * b * 1000000000000 + (a % 1000000000000 / 1000000 * b * 1000000 + a % 1000000000000 % 1000000 * b)

pub unit_parts : (a b : ℕ) → a < 2 ^ 64 → b < 10 ^ 12 → UnitParts a b
unit_parts a b h g =
    let b' : b ≤ 999999999999 = omega arith in
    let x : a / 1000000000000 ≤ 18446744 = omega arith in
    let y : a % 1000000000000 / 1000000 ≤ 999999 = omega arith in
    let z : a % 1000000000000 % 1000000 ≤ 999999 = omega arith in
    record {
      high = N.mul-le-mul x b';
      middle = N.mul-le-mul y b';
      low = N.mul-le-mul z b';
      at_most = N.mul-le-mul_left a (omega arith);
      sum = split_left a b 1000000000000 ∙ ap (λ x. a / 1000000000000 * b * 1000000000000 + x) (split_left (a % 1000000000000) b 1000000);
    }

-- The parts for a up to 10^18 and b up to 10^13.
pub record SmallParts (a b : ℕ) : Type 0 where
  pub high : a / 1000000000000 * b ≤ 1000000 * 10000000000000
  pub middle : a % 1000000000000 / 1000000 * b ≤ 999999 * 10000000000000
  pub low : a % 1000000000000 % 1000000 * b ≤ 999999 * 10000000000000
  pub sum : a * b ≡ a / 1000000000000 * b * 1000000000000 + (a % 1000000000000 / 1000000 * b * 1000000 + a % 1000000000000 % 1000000 * b)

pub small_parts : (a b : ℕ) → a ≤ 10 ^ 18 → b ≤ 10 ^ 13 → SmallParts a b
small_parts a b h g =
    let x : a / 1000000000000 ≤ 1000000 = omega arith in
    let y : a % 1000000000000 / 1000000 ≤ 999999 = omega arith in
    let z : a % 1000000000000 % 1000000 ≤ 999999 = omega arith in
    record {
      high = N.mul-le-mul x g;
      middle = N.mul-le-mul y g;
      low = N.mul-le-mul z g;
      sum = split_left a b 1000000000000 ∙ ap (λ x. a / 1000000000000 * b * 1000000000000 + x) (split_left (a % 1000000000000) b 1000000);
    }

pub record MillionParts (a b : ℕ) : Type 0 where
  pub high : a / 1000000 * b ≤ 18446744073709 * 999999
  pub low : a % 1000000 * b ≤ 999999 * 999999
  pub at_most : a * b ≤ a * 1000000
  pub sum : a * b ≡ a / 1000000 * b * 1000000 + a % 1000000 * b

pub million_parts : (a b : ℕ) → a < 2 ^ 64 → b < 10 ^ 6 → MillionParts a b
million_parts a b h g =
    let b' : b ≤ 999999 = omega arith in
    let x : a / 1000000 ≤ 18446744073709 = omega arith in
    let y : a % 1000000 ≤ 999999 = omega arith in
    record { high = N.mul-le-mul x b'; low = N.mul-le-mul y b'; at_most = N.mul-le-mul_left a (omega arith); sum = split_left a b 1000000 }

-- A part of p, with a times w whole units added to it.
module _ (a w unit p q l : ℕ) (e : p ≡ q * unit + l) where
  pub whole_fits : a * w * unit + p ≡ (a * w + q) * unit + l
  whole_fits = omega (arith, N.add-mul (a * w) q unit)

  pub whole_many : 2 ^ 64 ≤ a * w + q → 2 ^ 64 * unit ≤ a * w * unit + p
  whole_many h = omega (arith, N.mul-le-mul_right unit h, N.add-mul (a * w) q unit)

pub whole_none : (a w unit p : ℕ) → w ≡ 0 → a * w * unit + p ≡ p
whole_none a w unit p h = rw (h, N.mul-zero, N.zero-mul, N.zero-add)
