-- A premium with its bound is taken apart at 10^15, and its part below at 10^8, so that each product with the loaded worth fits a word.
use mathlib.Core.Path.{◌≡◌, ◌∙◌, ap}
use Prim.Native.Nat.{ℕ, ◌+◌, ◌*◌, ◌/◌, ◌%◌, ◌^◌, ◌<◌, ◌≤◌}
use native.Mathlib.Nat as N
use native.Mathlib.Omega.{arith}
use Rattle.rounding.proofs.Product.{split_left}

pub record LoadedParts (high low loaded : ℕ) : Type 0 where
  pub high_le : high * loaded ≤ 27669 * 21000000000
  pub middle_le : low / 100000000 * loaded ≤ 19999999 * 21000000000
  pub low_le : low % 100000000 * loaded ≤ 99999999 * 21000000000
  pub sum : (high * 10 ^ 15 + low) * loaded ≡ high * loaded * 1000000000000000 + (low / 100000000 * loaded * 100000000 + low % 100000000 * loaded)

pub loaded_parts : (high low loaded : ℕ) → high ≤ 27669 → low < 2 * 10 ^ 15 → loaded ≤ 21000000000 → LoadedParts high low loaded
loaded_parts high low loaded h l p =
    let m : low / 100000000 ≤ 19999999 = omega arith in
    let r : low % 100000000 ≤ 99999999 = omega arith in
    record {
      high_le = N.mul-le-mul h p;
      middle_le = N.mul-le-mul m p;
      low_le = N.mul-le-mul r p;
      sum =
          N.add-mul (high * 10 ^ 15) low loaded
          ∙ ap (λ x. x + low * loaded) (N.mul_right_comm high (10 ^ 15) loaded)
          ∙ ap (λ x. high * loaded * 1000000000000000 + x) (split_left low loaded 100000000);
    }
