-- How a file in memory is read: by reads that give pieces of it, until the buffer is full, the file ends or a read fails.
use Rattle.std.specs.Prelude.{◌≡◌, Bool, true, false, List, ℕ, ◌+◌, ◌-◌, ◌≤◌, ◌<◌, min, length, get_or}

-- The most bytes that a read at a place of the file gives: 0 where it fails; behind the last piece, one.
abbrev pub piece_at : List ℕ → ℕ → ℕ
piece_at pieces at = get_or pieces at 1

-- How many bytes a read gives behind the first `size`, to a buffer of `room` bytes.
abbrev pub given_at : List ℕ → List ℕ → ℕ → ℕ → ℕ
given_at file pieces room size = min (piece_at pieces size) (min (room - size) (length file - size))

-- Read on from `size`, so many bytes are read in all, and the next read has failed or not.
pub data Reads (file pieces : List ℕ) (room : ℕ) : ℕ → ℕ → Bool → Type 0 where
  full : {size : ℕ} → room ≤ size → Reads file pieces room size size false
  fails : {size : ℕ} → size < room → piece_at pieces size ≡ 0 → Reads file pieces room size size true
  ends : {size : ℕ} → size < room → 0 < piece_at pieces size → length file ≤ size → Reads file pieces room size size false
  more : {size all : ℕ} {failed : Bool} → size < room → 0 < piece_at pieces size → size < length file →
      Reads file pieces room (size + given_at file pieces room size) all failed → Reads file pieces room size all failed
