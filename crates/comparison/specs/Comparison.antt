-- The comparison of two fund files: both answers, and where both funds are accepted, the premium's move and what differs beside editions and rate lines.
use Rattle.std.specs.Prelude.{◌≡◌, List, ℕ, Option, Some, None, Ok, Err}
use Rattle.fund.specs.Verdict.{Verdict}
use Rattle.fund.specs.Reading.{FundFile, Reading, read, stopped, reading}
use Rattle.fund.specs.Refusals.{Lengths}
use Rattle.fund.specs.Answer.{Answer}
use Rattle.moves.specs.Differences.{differences}
use Rattle.moves.specs.Move.{move_of}
use Rattle.pricing.specs.Priced.{Prices}
use Rattle.comparison.specs.declared.Comparison.{Comparison}
use Rattle.comparison.specs.declared.Compared.{Compared}
use Rattle.comparison.specs.Exact.{ExactMove, RatesAlone}

-- What is said of a fund that is accepted; a comparison with a refused one says nothing.
abbrev pub if_accepted : Verdict → Option Comparison → Option Comparison
if_accepted (Ok u) c = c
if_accepted (Err stop) c = None

-- Where both funds are accepted, the move from the old one's figures to the new one's, and what differs between the files.
unfoldable pub compared : Reading → Answer → Reading → Answer → Option Comparison
compared (read old) a (read new) b =
    if_accepted a.verdict
    (if_accepted b.verdict (Some (record { moved = move_of old.header a.figures new.header b.figures; differences = differences old new })))
compared (read old) a (stopped why place) b = None
compared (stopped why place) a r b = None

-- The contract of a comparison, for any bytes of the two files, any level and any lengths of the ten slices. Each fund is priced as by itself, demand 3 included.
-- What is said of both is the definition's. Where it is a move, the exact move is within the bounds of it; and where no header line but the editions' and no member line
-- differs, the exact move is that of the rates alone.
pub record Compares (old new : List ℕ) (level : ℕ) (n m : Lengths) (c : Compared) (a b : Answer) : Type 0 where
  pub old_priced : Prices old (reading old) level n c.old a
  pub new_priced : Prices new (reading new) level m c.new b
  pub comparison : c.comparison ≡ compared (reading old) a (reading new) b
  pub exact : (f g : FundFile) → reading old ≡ read f → reading new ≡ read g → (t : Comparison) → c.comparison ≡ Some t → ExactMove f g t.moved
  pub rates : (f g : FundFile) → reading old ≡ read f → reading new ≡ read g → (t : Comparison) → c.comparison ≡ Some t →
      t.differences.header ≡ None → t.differences.member ≡ None → RatesAlone f g t.moved
