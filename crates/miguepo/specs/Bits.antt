-- The bits of a signed word.
use Rattle.std.specs.Prelude.{ℕ, ◌-◌, ◌^◌, ltb, ℤ, pos, negsuc, if◌then◌else◌}

-- Two's complement.
unfoldable pub bits_of : ℤ → ℕ
bits_of (pos n) = n
bits_of (negsuc n) = 0xffff_ffff_ffff_ffff - n

-- What C reads from the bits of an int64_t.
unfoldable pub read_signed : ℕ → ℤ
read_signed n = if ltb n (2 ^ 63) then pos n else negsuc (0xffff_ffff_ffff_ffff - n)
