-- Reading a file never gives refusal 11, which only a sheet's row has (no_cell).
use Rattle.std.specs.Prelude.{◌≡◌, refl, ◌⊎◌, List, [], ◌∷◌, ◌++◌, ℕ, suc, ◌+◌, eqb, length}
use Rattle.std.proofs.Common.{sym, subst, inl, inr}
use Rattle.fund.specs.declared.Fund.{Fund}
use Rattle.fund.specs.declared.Rate.{Rate}
use Rattle.fund.specs.declared.Member.{Member}
use Rattle.fund.specs.declared.Refusal.{Refusal}
use Rattle.fund.specs.declared.Refusal.TheVariants.{Form, Range, Cell as CellRefusal}
use Rattle.fund.specs.Lines.{Line, lines}
use Rattle.fund.specs.Reading.{FundFile, Reading, read, stopped, header_lines, Row, rate_row, member_row, end_row, other_row, row_of, rate_in_range, member_in_range, no_member, at_end, read_rows, read_header, reading, file_rows}
use Rattle.laws.specs.PassedLines.{on_either}
use Rattle.equivalence.specs.HeaderOutcome.{form_not_cell, range_not_cell, Stops, Passes, passed, header_outcome}

abbrev NotCell : Reading → Type 0
NotCell (read fund) = Unit {0}
NotCell (stopped why place) = why ≡ CellRefusal → ⊥

end_not_cell : (n : ℕ) (file : FundFile) (ls : List Line) → NotCell (at_end n file ls)
unfolding at_end
end_not_cell n file [] = tt
end_not_cell n file (l ∷ ls) = form_not_cell

rows_not_cell : (ls : List Line) (n : ℕ) (header : Fund) (rates : List Rate) (members : List Member) → NotCell (read_rows n header rates members ls)
unfolding read_rows
rows_not_cell [] n header rates members = form_not_cell
rows_not_cell (l ∷ ls) n header rates members = go (row_of l) refl (λ rs ms. rows_not_cell ls (suc n) header rs ms)
  where
    go : (row : Row) → row_of l ≡ row → ((rs : List Rate) (ms : List Member) → NotCell (read_rows (suc n) header rs ms ls)) → NotCell (read_rows n header rates members (l ∷ ls))
    go (rate_row r) s ih = rw (s, read_rows) (on_either (λ r. NotCell r) (no_member members) (stopped Form n) _ form_not_cell (on_either (λ r. NotCell r) (rate_in_range rates r) (stopped Range n) _ range_not_cell (ih (rates ++ (r ∷ [])) members)))
    go (member_row m) s ih = rw (s, read_rows) (on_either (λ r. NotCell r) (member_in_range members m) (stopped Range n) _ range_not_cell (ih rates (members ++ (m ∷ []))))
    go (end_row k) s ih = rw (s, read_rows) (on_either (λ r. NotCell r) (eqb k (length members)) (stopped Range n) _ range_not_cell (end_not_cell (suc n) _ ls))
    go other_row s ih = rw (s, read_rows) form_not_cell

reading_not_cell : (file : List ℕ) → NotCell (reading file)
unfolding reading
reading_not_cell file = go (header_outcome header_lines 1 [] (lines file))
  where
    go : Stops header_lines 1 [] (lines file) ⊎ Passes header_lines 1 [] (lines file) → NotCell (read_header file_rows header_lines 1 [] (lines file))
    go (inl k) = subst (λ r. NotCell r) (sym (k.stops file_rows)) k.not_cell
    go (inr k) =
        subst (λ r. NotCell r) (sym (passed header_lines 1 [] (lines file) k file_rows))
        (rows_not_cell k.rest (1 + length header_lines) k.fund [] [])

pub no_cell : (file : List ℕ) (why : Refusal) (place : ℕ) → reading file ≡ stopped why place → why ≡ CellRefusal → ⊥
no_cell file why place e = subst (λ r. NotCell r) e (reading_not_cell file)
