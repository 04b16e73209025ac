-- A sum by what is added and what is subtracted, with the sum of the bounds, and one part more of it.
use Rattle.std.specs.Prelude.{◌≡◌, ℕ, ◌+◌, ◌%◌, ◌^◌, ◌<◌, ◌≤◌, Bool, true, false, ℤ, pos, ◌+ℤ◌, ◌-ℤ◌}
use Rattle.whole.specs.declared.Sums.{Sums}
use Rattle.whole.specs.Sign.{signed}

abbrev pub sum_of : Sums → ℤ
sum_of s = pos s.plus -ℤ pos s.minus

-- One part more, on the side of its sign, and its bound. A sum that does not fit a word wraps.
abbrev pub with_part : Sums → Bool → ℕ → ℕ → Sums
with_part s true part bound = record { plus = s.plus; minus = (s.minus + part) % 2 ^ 64; bound = (s.bound + bound) % 2 ^ 64 }
with_part s false part bound = record { plus = (s.plus + part) % 2 ^ 64; minus = s.minus; bound = (s.bound + bound) % 2 ^ 64 }

-- All three sums fit a word.
pub record PartFits (s : Sums) (part bound : ℕ) : Type 0 where
  pub plus_fits : s.plus + part < 2 ^ 64
  pub minus_fits : s.minus + part < 2 ^ 64
  pub bound_fits : s.bound + bound < 2 ^ 64

-- What one part more says of the sum, where it fits.
pub record WithPart (s : Sums) (negative : Bool) (part bound : ℕ) (t : Sums) : Type 0 where
  pub sum_is : sum_of t ≡ sum_of s +ℤ signed negative part
  pub bound_is : t.bound ≡ s.bound + bound
  pub plus_within : t.plus ≤ s.plus + part
  pub minus_within : t.minus ≤ s.minus + part
