-- What the private functions say of a product and its division by a unit.
use Rattle.std.specs.Prelude.{◌≡◌, Option, Some, None, ℕ, ◌+◌, ◌*◌, ◌^◌, ◌<◌, ◌≤◌}
use Rattle.rounding.specs.declared.Division.{Division}

-- Quotient and remainder, or that the quotient does not fit a word.
abbrev pub Divided : ℕ → ℕ → Option Division → Type 0
Divided product unit (Some d) = (product ≡ d.quotient * unit + d.remainder) × (d.remainder < unit)
Divided product unit None = 2 ^ 64 * unit ≤ product
