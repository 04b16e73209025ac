-- Words of the contracts: a piece is put into a text behind what stands there, as far as the text goes, and a text is written from its start.
use Rattle.std.specs.Prelude.{◌≡◌, List, ℕ, min, ◌+◌, ◌-◌, length, take, drop}
use Rattle.std.proofs.lemmas.List.Edits.{sets}
use Rattle.writing.specs.declared.Text.{Text}

-- The piece is stored in the text's bytes from its place on: bytes of the piece beyond their end are left out. The text is then at the place behind what
-- was stored, and lends the same bytes.
pub record Puts (before : Text) (piece : List ℕ) (after : Text) : Type 0 where
  pub same : after.bytes.ghost_name ≡ before.bytes.ghost_name
  pub stored : after.bytes.now ≡ sets before.bytes.now before.next piece
  pub behind : after.next ≡ before.next + min (length piece) (length before.bytes.now - before.next)

-- The first `size` bytes of `after` are the piece, and the bytes beyond are those of `before`.
pub record Written (piece before after : List ℕ) (size : ℕ) : Type 0 where
  pub whole : size ≡ length piece
  pub start : take size after ≡ piece
  pub beyond : drop size after ≡ drop size before
