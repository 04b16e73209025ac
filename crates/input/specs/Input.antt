-- What is read into a buffer. The contract of `read` says how many bytes it counts, not which they are, nor that 0 is the end: so of a descriptor
-- no contract says that the buffer holds the file's own bytes, all of them. Of a file in memory, which the same loop reads, it does.
use Rattle.std.specs.Prelude.{◌≡◌, Bool, true, false, List, ℕ, ◌+◌, ◌≤◌, ◌<◌, Option, None, Some, Result, Ok, Err, IsNone, IfSome, length, take}
use Rattle.input.specs.declared.source.Source.{Source}
use Rattle.input.specs.declared.ReadFailed.{ReadFailed}
use Rattle.input.specs.Reads.{piece_at, given_at, Reads}

abbrev pub descriptor : {R : Type 0} → Option R → Source R
descriptor reader = record { reader = reader; memory = false }

abbrev pub InMemory : {R : Type 0} → Source R → Type 0
InMemory source = source.memory ≡ true

-- A descriptor with no reader: no file is open.
abbrev pub Closed : {R : Type 0} → Source R → Type 0
Closed source = (source.memory ≡ false) × IsNone source.reader

-- A read leaves a file in memory one, and a file that is not open not open.
pub record SameSource {R : Type 0} (before after : Source R) : Type 0 where
  pub memory : after.memory ≡ before.memory
  pub closed : IsNone before.reader → IsNone after.reader

-- What stands behind a file that was opened.
abbrev pub opened_reader : {R E : Type 0} → Result R E → Option R
opened_reader (Ok reader) = Some reader
opened_reader (Err error) = None

-- ---- one read
-- The buffer is as long as it was, and its first `size` bytes stay.
pub record Extends (before : List ℕ) (size : ℕ) (after : List ℕ) : Type 0 where
  pub long : length after ≡ length before
  pub kept : take size after ≡ take size before

-- A file in memory has given as many bytes as were read, and these stand at the start of the buffer.
pub record Stands (file : List ℕ) (given : ℕ) (buffer : List ℕ) (size : ℕ) : Type 0 where
  pub at : given ≡ size
  pub bytes : take size buffer ≡ take size file

-- A read of it that gives n bytes.
pub record Given (file pieces before : List ℕ) (size given : ℕ) (after : List ℕ) (n : ℕ) : Type 0 where
  pub long : length after ≡ length before
  pub some : 0 < piece_at pieces size
  pub count : n ≡ given_at file pieces (length before) size
  pub stands : Stands file given after (size + n)

-- One that fails.
pub record GivesNone (file pieces before : List ℕ) (size : ℕ) (after : List ℕ) : Type 0 where
  pub long : length after ≡ length before
  pub fails : piece_at pieces size ≡ 0
  pub bytes : take size after ≡ take size file

pub data Gives (file pieces before : List ℕ) (size given : ℕ) (after : List ℕ) : Option ℕ → Type 0 where
  counted : {n : ℕ} → Given file pieces before size given after n → Gives file pieces before size given after (Some n)
  none : GivesNone file pieces before size after → Gives file pieces before size given after None

pub record ReadsMore {R : Type 0} (source : Source R) (file pieces before : List ℕ) (size given : ℕ) (after : List ℕ) (r : Option ℕ) : Type 0 where
  pub extends : Extends before size after
  pub inside : IfSome r (λ n. size + n ≤ length after)
  pub gives : InMemory source → Gives file pieces before size given after r
  pub closed : Closed source → IsNone r

-- ---- all of them
-- How many bytes were read, and whether the read behind them failed.
abbrev pub size_of : Result ℕ ReadFailed → ℕ
size_of (Ok size) = size
size_of (Err failed) = failed.size

abbrev pub has_failed : Result ℕ ReadFailed → Bool
has_failed (Ok size) = false
has_failed (Err failed) = true

-- The buffer is as long as it was, and what was read lies in it.
pub record ReadBytes (before after : List ℕ) (r : Result ℕ ReadFailed) : Type 0 where
  pub long : length after ≡ length before
  pub inside : size_of r ≤ length after

-- Where no file is open the first read fails.
pub record FailsAtOnce (r : Result ℕ ReadFailed) : Type 0 where
  pub nothing : size_of r ≡ 0
  pub failed : has_failed r ≡ true

-- What was read of a file in memory: its first bytes, so many as its reads give.
pub record ReadMemory (file pieces after : List ℕ) (r : Result ℕ ReadFailed) : Type 0 where
  pub reads : Reads file pieces (length after) 0 (size_of r) (has_failed r)
  pub bytes : take (size_of r) after ≡ take (size_of r) file

pub record ReadSource {R : Type 0} (source : Source R) (file pieces before after : List ℕ) (r : Result ℕ ReadFailed) : Type 0 where
  pub read : ReadBytes before after r
  pub memory : InMemory source → ReadMemory file pieces after r
  pub closed : Closed source → 0 < length after → FailsAtOnce r

pub record ReadDescriptor {R : Type 0} (reader : Option R) (before after : List ℕ) (r : Result ℕ ReadFailed) : Type 0 where
  pub read : ReadBytes before after r
  pub closed : IsNone reader → 0 < length after → FailsAtOnce r
