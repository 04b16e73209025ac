-- The roundings of a number that is k divisors and a rest: the rest alone decides whether one is added to k.
-- Then the rest of a number in units that is divided by n units.
use mathlib.Core.Path.{◌≡◌, sym, ◌∙◌, ap}
use Prim.Native.Nat.{ℕ, ◌+◌, ◌*◌, ◌/◌, ◌%◌, ◌^◌, ◌<◌, ◌≤◌}
use native.Mathlib.Nat as N
use native.Mathlib.Omega.{arith}
use Rattle.rounding.specs.Rounding.{near, up}
use Rattle.rounding.proofs.Laws.{near_unique, up_unique}

pub near_rest_low : (a b k l : ℕ) → a ≡ k * b + l → 2 * l < b → near a b ≡ k
near_rest_low a b k l e h = near_unique a b k (omega arith) (omega arith)

pub near_rest_high : (a b k l : ℕ) → a ≡ k * b + l → b ≤ 2 * l → l < b → near a b ≡ k + 1
near_rest_high a b k l e h g = near_unique a b (k + 1) (omega arith) (omega arith)

pub up_rest_zero : (a b k l : ℕ) → a ≡ k * b + l → l ≡ 0 → 0 < b → up a b ≡ k
up_rest_zero a b k l e z h = up_unique a b k (omega arith) (omega arith)

pub up_rest : (a b k l : ℕ) → a ≡ k * b + l → 0 < l → l ≤ b → up a b ≡ k + 1
up_rest a b k l e h g = up_unique a b (k + 1) (omega arith) (omega arith)

pub by_units : (a q l n unit : ℕ) → a ≡ q * unit + l → a ≡ q / n * (n * unit) + (q % n * unit + l)
by_units a q l n unit e =
    e
    ∙ ap (λ x. x * unit + l) (sym (N.div-add-mod' q n))
    ∙ ap (λ x. x + l) (N.add-mul (q / n * n) (q % n) unit ∙ ap (λ x. x + q % n * unit) (N.mul_assoc (q / n) n unit))
    ∙ N.add_assoc (q / n * (n * unit)) (q % n * unit) l

pub rest_below : (k l n unit : ℕ) → k < n → l < unit → k * unit + l < n * unit
rest_below k l n unit h g = omega (arith, N.mul-le-mul_right unit h)

-- The rest is k units and l. It is half of n units or more where 2 * k is n or more, with c for the whole units of 2 * l.
pub half_low : (k l n unit c : ℕ) → 2 * l < (c + 1) * unit → 2 * k + c < n → 2 * (k * unit + l) < n * unit
half_low k l n unit c h g = omega (arith, N.mul-le-mul_right unit g)

pub half_high : (k l n unit c : ℕ) → c * unit ≤ 2 * l → n ≤ 2 * k + c → n * unit ≤ 2 * (k * unit + l)
half_high k l n unit c h g = omega (arith, N.mul-le-mul_right unit g)

-- ---- a quotient by the unit, rounded by what is added before the division
pub near_raised : (p : ℕ) → near p (10 ^ 12) ≡ (p + 500000000000) / 10 ^ 12
unfolding near
near_raised p = omega arith

pub up_raised : (p : ℕ) → up p (10 ^ 12) ≡ (p + 999999999999) / 10 ^ 12
unfolding up
up_raised p = omega arith
