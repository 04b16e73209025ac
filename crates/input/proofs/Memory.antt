-- What a read of a file in memory leaves behind (extends, inside), and that where the loop stops or goes on behind it, the file is read so.
use Rattle.std.specs.Prelude.{Option, None, Some, Result, IfSome}
use Rattle.std.proofs.Common.{◌≡◌, refl, sym, ◌∙◌, ap, Bool, true, false, List, ℕ, ◌+◌, ◌≤◌, ◌<◌, length, take, arith}
use Rattle.std.proofs.lemmas.List.{take-take}
use Rattle.input.specs.declared.source.Source.{Source}
use Rattle.input.specs.declared.ReadFailed.{ReadFailed}
use Rattle.input.specs.Reads.{Reads, fails, ends, more}
use Rattle.input.specs.Input.{InMemory, Closed, SameSource, Extends, Stands, Given, Gives, counted, none, size_of, has_failed, ReadMemory}

module _ {R : Type 0} {before after : Source R} where
  pub still_memory : SameSource before after → InMemory before → InMemory after
  still_memory s e = s.memory ∙ e

  pub still_closed : SameSource before after → Closed before → Closed after
  still_closed s e = (s.memory ∙ e.0, s.closed e.1)

  pub still_same : {first : Source R} → SameSource first before → SameSource before after → SameSource first after
  still_same f s = record { memory = s.memory ∙ f.memory; closed = λ e. s.closed (f.closed e) }

-- ---- one read
module _ {file pieces before after : List ℕ} {size given : ℕ} where
  pub extends : {r : Option ℕ} → Gives file pieces before size given after r → take size before ≡ take size file → Extends before size after
  extends (counted {n} g) h =
      record {
        long = g.long;
        kept = sym (take-take size (size + n) after (omega arith)) ∙ ap (take size) g.stands.bytes ∙ take-take size (size + n) file (omega arith) ∙ sym h;
      }
  extends (none g) h = record { long = g.long; kept = g.bytes ∙ sym h }

  pub inside : {r : Option ℕ} → Gives file pieces before size given after r → size ≤ length before → IfSome r (λ n. size + n ≤ length after)
  inside (counted g) h = omega (arith, g.long, g.count)
  inside (none g) h = tt

  -- ---- behind it the loop stops, or goes on
  pub stops_failed : Gives file pieces before size given after None → size < length before → Reads file pieces (length before) size size true
  stops_failed (none g) h = fails h g.fails

  pub stops_ended : {n : ℕ} → Gives file pieces before size given after (Some n) → n ≡ 0 → size < length before → Reads file pieces (length before) size size false
  stops_ended (counted g) e h = ends h g.some (omega (arith, g.count, g.some, e))

  pub counts : {n : ℕ} → Gives file pieces before size given after (Some n) → Given file pieces before size given after n
  counts (counted g) = g

-- ---- all of them
-- The first `size` bytes are read: how it goes on from there is how the file is read from the start.
pub record BytesSoFar (file pieces buffer : List ℕ) (given size : ℕ) : Type 0 where
  pub stands : Stands file given buffer size
  pub reads : (all : ℕ) (failed : Bool) → Reads file pieces (length buffer) size all failed → Reads file pieces (length buffer) 0 all failed

pub none_yet : (file pieces buffer : List ℕ) → BytesSoFar file pieces buffer 0 0
none_yet file pieces buffer = record { stands = record { at = refl; bytes = refl }; reads = λ all failed r. r }

module _ {file pieces before after : List ℕ} {size : ℕ} where
  pub stops : {given : ℕ} (r : Result ℕ ReadFailed) → size_of r ≡ size → BytesSoFar file pieces before given size → Extends before size after →
      Reads file pieces (length before) size size (has_failed r) → ReadMemory file pieces after r
  stops r is s e h = record { reads = rw (e.long, is) (s.reads size (has_failed r) h); bytes = rw is (e.kept ∙ s.stands.bytes) }

  pub goes_on : {given to n : ℕ} → BytesSoFar file pieces before given size → Given file pieces before size to after n → 0 < n → size < length before →
      BytesSoFar file pieces after to (size + n)
  goes_on s g some h =
      record {
        stands = g.stands;
        reads = λ all failed r. rw g.long (s.reads all failed (more {all = all} {failed = failed} h g.some (omega (arith, g.count)) (rw (g.long, g.count) at r)));
      }
