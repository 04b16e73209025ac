-- A quotient and its rest: the number is so many divisors and the rest (parts), and one more than the quotient is at most the
-- number where the rest is not 0 (next_within). A quotient rounded up by its rest is the definition's (up_is).
use Rattle.std.proofs.Common.{◌≡◌, ℕ, ◌+◌, ◌*◌, ◌/◌, ◌%◌, ◌<◌, ◌≤◌, min, zero, suc, refl, sym, arith}
use native.Mathlib.Nat as N
use Rattle.std.specs.Int.{div_ceil}
use Rattle.rounding.specs.Rounding.{up}
use Rattle.rounding.proofs.Rest.{up_rest_zero, up_rest}

pub parts : (a b : ℕ) → a ≡ a / b * b + a % b
parts a b = sym (N.div-add-mod' a b)

pub next_within : (a b : ℕ) → 0 < b → 0 < a % b → a / b + 1 ≤ a
next_within a b h g =
    let m : a / b * 1 ≤ a / b * b = N.mul-le-mul_left (a / b) h in
    omega (arith, parts a b)

up_at : (a b r : ℕ) → a ≡ a / b * b + r → r < b → a / b + min 1 r ≡ up a b
up_at a b zero e h = omega (arith, up_rest_zero a b (a / b) 0 e refl h)
up_at a b (suc r) e h = omega (arith, up_rest a b (a / b) (suc r) e (omega arith) (omega arith))

pub up_is : (a b : ℕ) → 0 < b → div_ceil a b ≡ up a b
up_is a b h = up_at a b (a % b) (parts a b) (N.mod-lt a h)
