-- What is printed of standard input, and of a file in memory that is read as it is (input/specs/Input).
use Rattle.std.specs.Prelude.{◌≡◌, Bool, List, ℕ, ◌≤◌, Result, Ok, Err, IfOk, OnErr, length, take}
use Rattle.prefix.specs.Prefix.{most_bytes}
use Rattle.input.specs.declared.source.Source.{Source}
use Rattle.input.specs.declared.ReadFailed.{ReadFailed}
use Rattle.input.specs.Reads.{Reads}
use Rattle.input.specs.Input.{InMemory, ReadBytes, size_of, has_failed}
use Rattle.writing.specs.Writing.{Written}
use Rattle.fund_printing.specs.declared.PrintedInput.{PrintedInput}

-- A buffer that has room for all that is read of a file, and how many of its bytes were read.
pub record HoldsFirst (buffer : List ℕ) (size : ℕ) : Type 0 where
  pub enough : most_bytes ≤ length buffer
  pub inside : size ≤ length buffer

-- What was read of a file in memory, and whether a read failed; of a buffer without that room, only which bytes stand in it.
pub record ReadsFirst (file pieces buffer : List ℕ) (size : ℕ) (failed : Bool) : Type 0 where
  pub reads : most_bytes ≤ length buffer → Reads file pieces (length buffer) 0 size failed
  pub bytes : take size buffer ≡ take size file

pub record ReadFirst {R : Type 0} (source : Source R) (file pieces before after : List ℕ) (r : Result ℕ ReadFailed) : Type 0 where
  pub read : ReadBytes before after r
  pub holds : IfOk r (λ size. HoldsFirst after size)
  pub memory : InMemory source → ReadsFirst file pieces after (size_of r) (has_failed r)

-- Whatever the file is, if these are its first bytes, as many as the buffer has room for, then what `of` shows of it is printed.
abbrev pub ShowsFirst : (List ℕ → ℕ → List ℕ) → List ℕ → ℕ → List ℕ → List ℕ → ℕ → Type 0
ShowsFirst of buffer size before after n =
    (file : List ℕ) → take (length buffer) file ≡ take size buffer → Written (of file (length before)) before after n

-- How many bytes were read, also where a read failed.
abbrev pub read_of : Result PrintedInput ReadFailed → Result ℕ ReadFailed
read_of (Ok p) = Ok p.read
read_of (Err failed) = Err failed

-- What `of` shows of what was read into the buffer; or else the text stays as it is.
pub record ShowsInput (of : List ℕ → ℕ → List ℕ) (buffer before after : List ℕ) (r : Result PrintedInput ReadFailed) : Type 0 where
  pub inside : size_of (read_of r) ≤ length buffer
  pub holds : IfOk r (λ p. HoldsFirst buffer p.read)
  pub prints : IfOk r (λ p. ShowsFirst of buffer p.read before after p.size)
  pub kept : OnErr r (after ≡ before)

-- What is printed of a file in memory is printed of what was read of it.
abbrev pub PrintsMemory : List ℕ → List ℕ → List ℕ → Result PrintedInput ReadFailed → Type 0
PrintsMemory file pieces buffer r = ReadsFirst file pieces buffer (size_of (read_of r)) (has_failed (read_of r))
