-- What a host has after a call that compares two files, and what is printed of it, in plain words.
use Rattle.std.specs.Prelude.{◌≡◌, List, ℕ, zero, suc, ◌+◌, ◌<◌, pos, ◌+ℤ◌, ◌-ℤ◌, length, get_or, replicate, Option, Some, None, option_map}
use Rattle.fund.specs.Reading.{FundFile, read, reading}
use Rattle.fund.specs.Refusals.{Lengths}
use Rattle.moves.specs.declared.Move.{Move}
use Rattle.moves.specs.declared.files.Differences.{Differences}
use Rattle.moves.specs.Differences.{first_header_line, first_member_line, member_line}
use Rattle.moves.specs.Move.{excess}
use Rattle.comparison.specs.declared.Comparison.{Comparison}
use Rattle.comparison.specs.Exact.{ExactMove, RatesAlone}
use Rattle.miguepo.specs.Bits.{read_signed}
use Rattle.comparison_printing.specs.Printed.{comparison_of, comparison_listing}
use Rattle.claims.specs.Demands.{Received, Demands}
use Rattle.claims.specs.Listing.{Shows}

-- Of two funds that are accepted: the move of the figures that the host has, new less old; the sum of their two bounds; the ends of both intervals; and what differs between the files
-- beside editions and rate lines.
pub record SaysMove (old new : FundFile) (o p : Received) (v : Move) (d : Differences) : Type 0 where
  pub premium : v.premium ≡ p.figures.premium -ℤ o.figures.premium
  pub arithmetic : v.arithmetic ≡ o.figures.within + p.figures.within
  pub least : v.least ≡ v.premium -ℤ pos v.arithmetic
  pub most : v.most ≡ v.premium +ℤ pos v.arithmetic
  pub gross : v.gross ≡ pos p.figures.gross -ℤ pos o.figures.gross
  pub gross_least : v.gross_least ≡ v.gross -ℤ pos (excess new.header p.figures.within)
  pub gross_most : v.gross_most ≡ v.gross +ℤ pos (excess old.header o.figures.within)
  pub header : d.header ≡ first_header_line old.header new.header
  pub member : d.member ≡ option_map (λ (k : ℕ). record { member = k; old_line = member_line old k; new_line = member_line new k }) (first_member_line 1 old.members new.members)

-- The same, with the theorem: the exact move is within the sum of the bounds of the premium's move, and in both intervals; and where no header line but the editions' and no member line differs, it is
-- that of the rates alone.
pub record TellsMove (old new : List ℕ) (o p : Received) (c : Option Comparison) : Type 0 where
  pub old_fund : FundFile
  pub new_fund : FundFile
  pub old_read : reading old ≡ read old_fund
  pub new_read : reading new ≡ read new_fund
  pub comparison : Comparison
  pub told : c ≡ Some comparison
  pub says : SaysMove old_fund new_fund o p comparison.moved comparison.differences
  pub exact : ExactMove old_fund new_fund comparison.moved
  pub rates : comparison.differences.header ≡ None → comparison.differences.member ≡ None → RatesAlone old_fund new_fund comparison.moved

-- Both funds are priced as by themselves; where one is refused no move is told, else the move.
pub record ComparesPlainly (old new : List ℕ) (level : ℕ) (n m : Lengths) (o p : Received) (c : Option Comparison) : Type 0 where
  pub old_demands : Demands old (reading old) level n o
  pub new_demands : Demands new (reading new) level m p
  pub refused : 0 < o.number + p.number → c ≡ None
  pub moved : o.number ≡ 0 → p.number ≡ 0 → TellsMove old new o p c

-- A line, 0 where there is none.
abbrev pub line_read : ℕ → Option ℕ
line_read zero = None
line_read (suc line) = Some (suc line)

-- The fields of a comparison's struct in C, in their order, each read as its type there.
abbrev pub moved_read : ℕ → List ℕ → Option Comparison
moved_read zero fs = None
moved_read (suc moved) fs =
    Some
    (record {
      moved =
          record {
            premium = read_signed (get_or fs 1 0);
            arithmetic = get_or fs 2 0;
            least = read_signed (get_or fs 3 0);
            most = read_signed (get_or fs 4 0);
            gross = read_signed (get_or fs 5 0);
            gross_least = read_signed (get_or fs 6 0);
            gross_most = read_signed (get_or fs 7 0);
          };
      differences =
          record {
            header = line_read (get_or fs 8 0);
            member = option_map (λ (k : ℕ). record { member = k; old_line = get_or fs 10 0; new_line = get_or fs 11 0 }) (line_read (get_or fs 9 0));
          };
    })

abbrev pub comparison_read : List ℕ → Option Comparison
comparison_read fs = moved_read (get_or fs 0 0) fs

-- The struct of a comparison: it has twelve fields, and each is written. `moved` is 1 where both funds are accepted; where no member line differs, its place and its lines are 0; where one is
-- refused, every field is 0.
pub record ComparisonStruct (o p : Received) (fs : List ℕ) : Type 0 where
  pub fields : length fs ≡ 12
  pub moved : o.number ≡ 0 → p.number ≡ 0 → get_or fs 0 0 ≡ 1
  pub no_member : get_or fs 9 0 ≡ 0 → (get_or fs 10 0 ≡ 0) × (get_or fs 11 0 ≡ 0)
  pub refused : 0 < o.number + p.number → fs ≡ replicate 12 0

-- The listing of a comparison, in a text of at least 512 bytes; of a move that it shows, the theorem.
pub record PrintsMove (old new before after : List ℕ) (size : ℕ) : Type 0 where
  pub shows : Shows 512 (comparison_listing old new) before after size
  pub exact : (f g : FundFile) → reading old ≡ read f → reading new ≡ read g → (t : Comparison) → comparison_of old new ≡ Some t → ExactMove f g t.moved
  pub rates : (f g : FundFile) → reading old ≡ read f → reading new ≡ read g → (t : Comparison) → comparison_of old new ≡ Some t →
      t.differences.header ≡ None → t.differences.member ≡ None → RatesAlone f g t.moved
