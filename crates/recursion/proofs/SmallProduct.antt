-- The products of a small |D(k)| with a cell's |f| in base 8×10^6: the parts fit a word each, and rounded they are the product to the nearest.
use mathlib.Core.Path.{◌≡◌, sym, ◌∙◌, ap}
use Prim.Native.Nat.{ℕ, ◌+◌, ◌*◌, ◌/◌, ◌%◌, ◌^◌, ◌≤◌}
use native.Mathlib.Nat as N
use native.Mathlib.Omega.{arith}
use Rattle.rounding.specs.Rounding.{near}
use Rattle.rounding.proofs.Rest.{near_raised}
use Rattle.recursion_limits.specs.Limits.{most_cell}
use Rattle.recursion.specs.Places.{most_small_size}

pub record Parts (a b : ℕ) : Type 0 where
  pub high : a / 8000000 * b ≤ 4375000 * most_cell
  pub low : a % 8000000 * b ≤ 7999999 * most_cell
  pub sum : a * b ≡ a / 8000000 * b * 8000000 + a % 8000000 * b

pub parts : (a b : ℕ) → a ≤ most_small_size → b ≤ most_cell → Parts a b
parts a b h g =
    let x : a / 8000000 ≤ 4375000 = omega arith in
    let y : a % 8000000 ≤ 7999999 = omega arith in
    record { high = N.mul-le-mul x g; low = N.mul-le-mul y g; sum = split }
  where
    split : a * b ≡ a / 8000000 * b * 8000000 + a % 8000000 * b
    split =
        ap (λ x. x * b) (sym (N.div-add-mod' a 8000000))
        ∙ N.add-mul (a / 8000000 * 8000000) (a % 8000000) b ∙ ap (λ x. x + a % 8000000 * b) (N.mul_right_comm (a / 8000000) 8000000 b)

pub nearest_is : (a b : ℕ) → Parts a b → (a / 8000000 * b + (a % 8000000 * b + 500000000000) / 8000000) / 125000 ≡ near (a * b) (10 ^ 12)
nearest_is a b p = let s = p.sum in omega arith ∙ sym (near_raised (a * b))
