-- What a text holds after a file's listing, or the line of its answer at a level, was printed into it, and how near it is to the exact figures.
use Rattle.std.specs.Prelude.{◌≡◌, List, ℕ, ◌^◌, ◌<◌, ◌≤◌, length, take, drop, get_or, Result, Ok, Err}
use Rattle.fund.specs.Reading.{FundFile, Reading, read, reading}
use Rattle.fund.specs.Quantile.{quantile_of}
use Rattle.fund.specs.Answer.{answer_to}
use Rattle.fund.specs.Listing.{horizon_in, enough, listing_to}
use Rattle.fund.specs.Distance.{WithinBounds, NeverBelow, QuantileWithin}
use Rattle.answer_text.specs.Shown.{room}
use Rattle.input.specs.declared.ReadFailed.{ReadFailed}
use Rattle.input.specs.Input.{size_of}
use Rattle.fund_printing.specs.declared.Asked.{Asked}
use Rattle.fund_printing.specs.declared.PrintedInput.{PrintedInput}
use Rattle.fund_printing.specs.Input.{read_of}
use Rattle.fund_printing.specs.declared.Asked.TheVariants.{Listing, AtLevel}
use Rattle.fund_printing.specs.Printed.{level_line_to}

-- The text begins with what is shown, and what stood behind stays.
pub record Begins (shown before after : List ℕ) (size : ℕ) : Type 0 where
  pub start : take size after ≡ shown
  pub size_is : size ≡ length shown
  pub beyond : drop size after ≡ drop size before

pub record Unchanged (before after : List ℕ) (size : ℕ) : Type 0 where
  pub none : size ≡ 0
  pub same : after ≡ before

-- A text that has room begins with what is shown; a shorter one stays as it is.
pub record Shows (least : ℕ) (shown before after : List ℕ) (size : ℕ) : Type 0 where
  pub listed : least ≤ length before → Begins shown before after size
  pub kept : length before < least → Unchanged before after size

-- The listing of what was read, in a text with room for every listing. It shows the answer to slices that are long enough for every horizon; of a fund
-- that is accepted each f(x), each F(x) and the premium that it shows are within the bounds that it shows of the exact ones, and the gross premium is never below the
-- exact premium's loaded worth.
pub record PrintsTo (text : List ℕ) (r : Reading) (before after : List ℕ) (size : ℕ) : Type 0 where
  pub shows : Shows room (listing_to text r) before after size
  pub within : (fund : FundFile) → r ≡ read fund → (answer_to text enough r).verdict ≡ Ok tt → WithinBounds fund (answer_to text enough r)
  pub covers : (fund : FundFile) → r ≡ read fund → (answer_to text enough r).verdict ≡ Ok tt → NeverBelow fund (answer_to text enough r)

-- The line of the answer at a level, in a text of at least 64 bytes; and what the answer of an accepted fund says of the exact distribution function.
pub record PrintsLevelTo (level : ℕ) (text : List ℕ) (r : Reading) (before after : List ℕ) (size : ℕ) : Type 0 where
  pub shows : Shows 64 (level_line_to text r level) before after size
  pub within : (fund : FundFile) → r ≡ read fund → (answer_to text enough r).verdict ≡ Ok tt → level ≤ 10 ^ 12 →
      QuantileWithin fund (answer_to text enough r) level (quantile_of level (horizon_in r) (answer_to text enough r).F (answer_to text enough r).verdict)

-- What is asked: the listing, or the line of the answer at a level.
abbrev pub PrintsAsked : Asked → List ℕ → Reading → List ℕ → List ℕ → ℕ → Type 0
PrintsAsked Listing = PrintsTo
PrintsAsked (AtLevel level) = PrintsLevelTo level

abbrev pub Prints : Asked → List ℕ → List ℕ → List ℕ → ℕ → Type 0
Prints asked file = PrintsAsked asked file (reading file)

-- Standard input, of which `read` bytes stand in a buffer: whatever the file is, if these are its first bytes, as many as the buffer has
-- room for, then the same is printed of it. Where it fails, the text stays as it is.
pub record PrintsRead (prints : List ℕ → List ℕ → List ℕ → ℕ → Type 0) (buffer before after : List ℕ) (r : Result PrintedInput ReadFailed) : Type 0 where
  pub printed : (p : PrintedInput) → r ≡ Ok p → (file : List ℕ) → take (length buffer) file ≡ take p.read buffer → prints file before after p.size
  pub stays : (failed : ReadFailed) → r ≡ Err failed → after ≡ before
  pub inside : size_of (read_of r) ≤ length buffer

-- A file in memory that is read in pieces: a read at a place gives at most as many bytes as the piece there says, one behind the last piece, and fails where that is
-- 0. Whatever the pieces are, the same is printed of the file's own bytes. It fails where a read does, which is the one behind the bytes that were read, or in a
-- buffer without room for all that is read of a file; and a read that fails is not taken for the end.
pub record PrintsFile (prints : List ℕ → List ℕ → List ℕ → ℕ → Type 0) (file pieces buffer before after : List ℕ) (r : Result PrintedInput ReadFailed) : Type 0 where
  pub printed : (p : PrintedInput) → r ≡ Ok p → prints file before after p.size
  pub stays : (failed : ReadFailed) → r ≡ Err failed → after ≡ before
  pub fails : (failed : ReadFailed) → r ≡ Err failed → 65536 ≤ length buffer → (failed.size < length buffer) × (get_or pieces failed.size 1 ≡ 0)
  pub ends : (p : PrintedInput) → r ≡ Ok p → p.read < length buffer → 0 < get_or pieces p.read 1
