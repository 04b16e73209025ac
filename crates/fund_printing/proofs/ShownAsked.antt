-- What is asked of the call's answer is what is asked of what was read (written), and of a file what is asked of its first bytes (prints_first).
use mathlib.Core.Path.{◌≡◌, ap}
use mathlib.Core.List.{List, []}
use Prim.Native.Nat.{ℕ, ◌≤◌}
use lib.Dec.{leb}
use lib.ListN.{length, take}
use Rattle.std.specs.Prelude.{Result, if◌then◌else◌}
use Rattle.fund.specs.Reading.{FundFile, Reading, read}
use Rattle.fund.specs.Answer.{answer_to}
use Rattle.laws.specs.Ranges.{FundOk}
use Rattle.writing.specs.Writing.{Written}
use Rattle.answer_text.specs.Shown.{room}
use Rattle.answer_text.specs.Level.{level_room}
use Rattle.fund.specs.declared.Cells.{Cells}
use Rattle.pricing.specs.declared.Priced.{Priced}
use Rattle.pricing.specs.declared.NotPriced.{NotPriced}
use Rattle.pricing.specs.Priced.{left_priced, Answers}
use Rattle.prefix.specs.Prefix.{most_bytes, listing_first}
use Rattle.fund_printing.specs.declared.Asked.{Asked}
use Rattle.fund_printing.specs.declared.Asked.TheVariants.{Listing, AtLevel}
use Rattle.fund_printing.specs.Printed.{level_in, text_of, shown_to, shown}
use Rattle.fund_printing.specs.Input.{HoldsFirst, ShowsFirst}
use Rattle.fund_printing.proofs.ShownListing.{lent_lengths, shown_is, shows_first}
use Rattle.fund_printing.proofs.Level.{level_is, level_first}

module _ (text : List ℕ) (r : Reading) (ok : (fund : FundFile) → r ≡ read fund → FundOk fund) (p : Result Priced NotPriced) (c : Cells) where
  asked_is : (asked : Asked) → Answers text r (level_in asked) p (left_priced p c) (answer_to text lent_lengths r) → (size : ℕ) → text_of asked p c size ≡ shown_to asked text r size
  asked_is Listing given size = shown_is text r ok 0 p c given size
  asked_is (AtLevel level) given size = level_is text r level p c given size

  pub written : (asked : Asked) {level : ℕ} → level ≡ level_in asked → Answers text r level p (left_priced p c) (answer_to text lent_lengths r) → {before after : List ℕ} {size : ℕ} →
      Written (text_of asked p c (length before)) before after size → Written (shown_to asked text r (length before)) before after size
  written asked e given {before} w = rw (asked_is asked (rw e at given) (length before)) at w

first_same : (asked : Asked) (n : ℕ) (file : List ℕ) (m : ℕ) → most_bytes ≤ n → shown asked (take n file) m ≡ shown asked file m
first_same Listing n file m h = ap (λ (l : List ℕ). if leb room m then l else []) (listing_first n file h)
first_same (AtLevel level) n file m h = ap (λ (l : List ℕ). if leb level_room m then l else []) (level_first n file level h)

pub prints_first : (asked : Asked) (buffer : List ℕ) (size : ℕ) {before after : List ℕ} {n : ℕ} → HoldsFirst buffer size → Written (shown asked (take size buffer) (length before)) before after n →
    ShowsFirst (shown asked) buffer size before after n
prints_first asked = shows_first (first_same asked)
