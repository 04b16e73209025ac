-- A whole number by its sign and its size.
use Rattle.std.specs.Prelude.{ℕ, suc, Bool, true, false, ℤ, pos, negsuc, neg_ℤ}
use Rattle.whole.specs.declared.Signed.{Signed}

abbrev pub signed : Bool → ℕ → ℤ
signed true size = neg_ℤ (pos size)
signed false size = pos size

abbrev pub signed_of : ℤ → Signed
signed_of (pos n) = record { negative = false; size = n }
signed_of (negsuc n) = record { negative = true; size = suc n }

-- The largest number that an i64 holds, 2^63 - 1.
abbrev pub most_value : ℕ
most_value = 9223372036854775807
