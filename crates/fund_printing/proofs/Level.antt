-- What `answer_text::level_line` shows of the call's answer is the line of what was read (level_is), and of a file that of its first bytes (level_first).
use mathlib.Core.Path.{◌≡◌, refl, ◌∙◌, ap, ap₂}
use mathlib.Core.List.{List, []}
use Prim.Native.Nat.{ℕ, ◌≤◌}
use lib.Dec.{leb}
use lib.ListN.{take}
use Rattle.fund.specs.Verdict.{Verdict}
use Rattle.std.specs.Prelude.{Result, Err, Ok, if◌then◌else◌}
use Rattle.fund.specs.Reading.{FundFile, Reading, read, stopped, reading}
use Rattle.fund.specs.Folding.{lives}
use Rattle.fund.specs.Refusals.{Lengths, verdict}
use Rattle.fund.specs.Answer.{Answer, fund_cells, refused, answer_of, answer_to}
use Rattle.fund.specs.Listing.{horizon_in, enough}
use Rattle.answer_text.specs.Level.{answer_line, level_room, level_line_of}
use Rattle.fund.specs.declared.Cells.{Cells}
use Rattle.pricing.specs.declared.Priced.{Priced}
use Rattle.pricing.specs.declared.NotPriced.{NotPriced}
use Rattle.pricing.specs.Priced.{verdict_in, quantile_told, left_priced, Answers}
use Rattle.pricing.specs.JoinedSteps.{quantile_is}
use Rattle.prefix.specs.Prefix.{most_bytes, reading_first}
use Rattle.fund_printing.specs.declared.Asked.TheVariants.{AtLevel}
use Rattle.fund_printing.specs.Printed.{line_at_level, level_line_to, level_line, shown_to}
use Rattle.fund_printing.proofs.ShownListing.{lent_lengths, answers_enough}

pub level_is : (text : List ℕ) (r : Reading) (level : ℕ) (p : Result Priced NotPriced) (c : Cells) → Answers text r level p (left_priced p c) (answer_to text lent_lengths r) →
    (size : ℕ) → level_line_of (verdict_in p) (quantile_told p) size ≡ shown_to (AtLevel level) text r size
unfolding level_line_of level_line_to
level_is text r level p c given size =
    let k = answers_enough text r level p (left_priced p c) given in
    ap (λ (l : List ℕ). if leb level_room size then l else []) (ap₂ answer_line (ap (λ (a : Answer). a.verdict) k.answer) (quantile_is p c k))

-- the line does not show the part of the bytes that is handed back with a refusal
line_of : (f g : List ℕ) (n : Lengths) (fund : FundFile) (level X : ℕ) (v : Verdict) → line_at_level level X (answer_of f n fund v) ≡ line_at_level level X (answer_of g n fund v)
unfolding answer_of refused
line_of f g n fund level X (Ok tt) = refl
line_of f g n fund level X (Err stop) = refl

line_to : (f g : List ℕ) (n : Lengths) (level X : ℕ) (r : Reading) → line_at_level level X (answer_to f n r) ≡ line_at_level level X (answer_to g n r)
unfolding answer_to refused
line_to f g n level X (read fund) = line_of f g n fund level X (verdict fund n (fund_cells fund.header (lives fund)))
line_to f g n level X (stopped why place) = refl

pub level_first : (n : ℕ) (file : List ℕ) (level : ℕ) → most_bytes ≤ n → level_line (take n file) level ≡ level_line file level
unfolding level_line_to
level_first n file level h =
    ap (λ (r : Reading). line_at_level level (horizon_in r) (answer_to (take n file) enough r)) (reading_first n file h) ∙ line_to (take n file) file enough level (horizon_in (reading file)) (reading file)
