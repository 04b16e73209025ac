-- The listing of a comparison is that of the first 65,536 bytes of each file (comparison_first).
use Rattle.std.specs.Prelude.{◌≡◌, refl, List, ℕ, ◌≤◌, take, Ok, Err, Some}
use Rattle.std.proofs.Common.{◌∙◌, ap₂}
use Rattle.fund.specs.Verdict.{Verdict}
use Rattle.fund.specs.Reading.{FundFile, Reading, read, stopped, reading}
use Rattle.fund.specs.Folding.{lives}
use Rattle.fund.specs.Refusals.{Lengths, verdict}
use Rattle.fund.specs.Answer.{Answer, fund_cells, refused, answer_of, answer_to}
use Rattle.fund.specs.Listing.{enough}
use Rattle.prefix.specs.Prefix.{most_bytes, reading_first}
use Rattle.moves.specs.Differences.{differences}
use Rattle.moves.specs.Move.{move_of}
use Rattle.comparison.specs.Comparison.{if_accepted, compared}
use Rattle.comparison_printing.specs.Lines.{comparison_lines}
use Rattle.comparison_printing.specs.Printed.{comparison_of, comparison_listing}

-- Two answers that differ in the part that is handed back alone.
record Alike (a b : Answer) : Type 0 where
  verdict_is : a.verdict ≡ b.verdict
  figures_are : a.figures ≡ b.figures

alike_of : (f g : List ℕ) (n : Lengths) (fund : FundFile) (v : Verdict) → Alike (answer_of f n fund v) (answer_of g n fund v)
unfolding answer_of refused
alike_of f g n fund (Ok tt) = record { verdict_is = refl; figures_are = refl }
alike_of f g n fund (Err stop) = record { verdict_is = refl; figures_are = refl }

alike_to : (f g : List ℕ) (n : Lengths) (r : Reading) → Alike (answer_to f n r) (answer_to g n r)
unfolding answer_to refused
alike_to f g n (read fund) = alike_of f g n fund (verdict fund n (fund_cells fund.header (lives fund)))
alike_to f g n (stopped why place) = record { verdict_is = refl; figures_are = refl }

compared_alike : (r s : Reading) (a c b d : Answer) → Alike a c → Alike b d → compared r a s b ≡ compared r c s d
unfolding compared
compared_alike (read f) (read g) a c b d h k =
    λ i. if_accepted (h.verdict_is i) (if_accepted (k.verdict_is i) (Some (record { moved = move_of f.header (h.figures_are i) g.header (k.figures_are i); differences = differences f g })))
compared_alike (read f) (stopped why place) a c b d h k = refl
compared_alike (stopped why place) s a c b d h k = refl

listed_alike : (f f' g g' : List ℕ) (r s : Reading) → let a = answer_to f enough r in let c = answer_to f' enough r in let b = answer_to g enough s in let d = answer_to g' enough s in
    comparison_lines a.verdict a.figures b.verdict b.figures (compared r a s b) ≡ comparison_lines c.verdict c.figures d.verdict d.figures (compared r c s d)
listed_alike f f' g g' r s =
    let h = alike_to f f' enough r in
    let k = alike_to g g' enough s in
    let e = compared_alike r s _ _ _ _ h k in
    λ i. comparison_lines (h.verdict_is i) (h.figures_are i) (k.verdict_is i) (k.figures_are i) (e i)

pub comparison_first : (n m : ℕ) (old new : List ℕ) → most_bytes ≤ n → most_bytes ≤ m → comparison_listing (take n old) (take m new) ≡ comparison_listing old new
unfolding comparison_listing comparison_of
comparison_first n m old new h k =
    ap₂ (λ (r : Reading) (s : Reading). comparison_lines (answer_to (take n old) enough r).verdict (answer_to (take n old) enough r).figures (answer_to (take m new) enough s).verdict (answer_to (take m new) enough s).figures (compared r (answer_to (take n old) enough r) s (answer_to (take m new) enough s)))
    (reading_first n old h) (reading_first m new k)
    ∙ listed_alike (take n old) old (take m new) new (reading old) (reading new)
