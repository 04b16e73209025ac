-- What a line says, by its numbers in each of the three spellings.
use Rattle.std.proofs.Common.{◌≡◌, ℕ, ◌≤◌, List, Option, Some, None, length, get_or, take, sym, ap, ◌∙◌, arith}
use Rattle.std.specs.Prelude.{option_map}
use lib.ListN.{drop_of_length-le}
use lib.Seq.{get_or-take}
use Rattle.fund.specs.Base.{bytes}
use Rattle.fund.specs.Lines.{Line as FundLine, lines_from}
use Rattle.fund.specs.Spelling.{spelled}
use Rattle.fund.specs.Reading.{Row as FundRow, row_of, rate_row, member_row, end_row, other_row}
use Rattle.lines.specs.Lines.{lines_at, LineTaken}
use Rattle.lines.specs.Row.{first_row, RowAt}

pub missing : (file : List ℕ) (at : ℕ) → length file ≤ at → first_row (lines_at file at) ≡ other_row
unfolding first_row lines_from
missing file at h = rw (drop_of_length-le file h)

pub other : (file : List ℕ) (at : ℕ) (l : FundLine) (next : ℕ) → LineTaken file at l next → row_of l ≡ other_row → first_row (lines_at file at) ≡ other_row
unfolding first_row
other file at l next t e = rw t.first e

pub there : (file : List ℕ) (at : ℕ) (l : FundLine) (next : ℕ) → LineTaken file at l next → (row : FundRow) → row_of l ≡ row → RowAt file at row next
there file at l next t row e = record { line = l; first = t.first; is = e; later = t.later; inside = t.inside }

-- The numbers of a spelling, of what is answered of it.
spelled_some : (key : List ℕ) (count : ℕ) (l : FundLine) {r : Option (List ℕ)} {v : List ℕ} → option_map (take count) r ≡ spelled key count l → r ≡ Some v → spelled key count l ≡ Some (take count v)
spelled_some key count l e f = sym e ∙ ap (option_map (take count)) f

spelled_none : (key : List ℕ) (count : ℕ) (l : FundLine) {r : Option (List ℕ)} → option_map (take count) r ≡ spelled key count l → r ≡ None → spelled key count l ≡ None
spelled_none key count l e f = sym e ∙ ap (option_map (take count)) f

module _ (l : FundLine) {rate : Option (List ℕ)} (e : option_map (take 3) rate ≡ spelled (bytes "rate=") 3 l) where
  pub rate_said : (v : List ℕ) → rate ≡ Some v → rate_row (record { age = get_or v 0 0; q = get_or v 1 0; i = get_or v 2 0 }) ≡ row_of l
  unfolding row_of
  rate_said v f = rw (spelled_some _ _ _ e f, row_of) (rw (get_or-take 3 v 0 0 (omega arith), get_or-take 3 v 1 0 (omega arith), get_or-take 3 v 2 0 (omega arith)))

  module _ (no_rate : rate ≡ None) {member : Option (List ℕ)} (f : option_map (take 5) member ≡ spelled (bytes "member=") 5 l) where
    pub member_said : (v : List ℕ) → member ≡ Some v → member_row (record { age = get_or v 0 0; group = get_or v 1 0; d = get_or v 2 0; e = get_or v 3 0; lives = get_or v 4 0 }) ≡ row_of l
    unfolding row_of
    member_said v g =
        rw (spelled_none _ _ _ e no_rate, row_of)
        (rw (spelled_some _ _ _ f g, row_of)
        (rw (get_or-take 5 v 0 0 (omega arith), get_or-take 5 v 1 0 (omega arith), get_or-take 5 v 2 0 (omega arith), get_or-take 5 v 3 0 (omega arith), get_or-take 5 v 4 0 (omega arith))))

    module _ (no_member : member ≡ None) {end : Option (List ℕ)} (g : option_map (take 1) end ≡ spelled (bytes "end=") 1 l) where
      pub end_said : (v : List ℕ) → end ≡ Some v → end_row (get_or v 0 0) ≡ row_of l
      unfolding row_of
      end_said v h =
          rw (spelled_none _ _ _ e no_rate, row_of)
          (rw (spelled_none _ _ _ f no_member, row_of) (rw (spelled_some _ _ _ g h, row_of) (rw (get_or-take 1 v 0 0 (omega arith)))))

      pub none_said : end ≡ None → other_row ≡ row_of l
      unfolding row_of
      none_said h = rw (spelled_none _ _ _ e no_rate, row_of) (rw (spelled_none _ _ _ f no_member, row_of) (rw (spelled_none _ _ _ g h, row_of)))
