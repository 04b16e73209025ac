-- METHOD 1: the fund file, its lines in their order, form before range within a line.
use Rattle.std.specs.Prelude.{Bool, true, false, ◌&&◌, List, [], ◌∷◌, ◌++◌, ℕ, suc, ◌+◌, eqb, leb, ltb, length, get_or, None, Some}
use Rattle.fund.specs.declared.Fund.{Fund}
use Rattle.fund.specs.declared.Rate.{Rate}
use Rattle.fund.specs.declared.Member.{Member}
use Rattle.fund.specs.declared.Refusal.{Refusal}
use Rattle.fund.specs.declared.Refusal.TheVariants.{Form, Range}
use Rattle.fund.specs.Limits.{least_edition, most_edition, most_horizon, least_order, most_order, most_frequency, most_deductible, least_worth, most_worth, most_rates, most_age, most_rate, most_members, least_group, most_group, most_amount, least_lives, most_lives}
use Rattle.fund.specs.Base.{total, bytes}
use Rattle.fund.specs.Lines.{Line, lines}
use Rattle.fund.specs.Spelling.{spelled}

-- What a file holds: the header's figures, the rate rows and the member rows, in file order.
pub record FundFile : Type 0 where
  pub header : Fund
  pub rates : List Rate
  pub members : List Member

-- What reading gives: a fund, or a refusal and its line, counted from 1.
pub data Reading : Type 0 where
  read : FundFile → Reading
  stopped : Refusal → ℕ → Reading

unfoldable pub between : ℕ → ℕ → ℕ → Bool
between least most n = leb least n && leb n most

-- The range of a number.
pub record NumberRange : Type 0 where
  pub least : ℕ
  pub most : ℕ

-- A header line: its key, and the range of each of its numbers.
pub record HeaderLine : Type 0 where
  pub key : List ℕ
  pub ranges : List NumberRange

-- The header lines, in their order. METHOD 1 (§5): "The line becomes `frequency=a,b`"; "A single number there is now form (1)".
unfoldable pub header_lines : List HeaderLine
header_lines =
    record { key = bytes "rates="; ranges = record { least = least_edition; most = most_edition } ∷ [] }
    ∷ record { key = bytes "members="; ranges = record { least = least_edition; most = most_edition } ∷ [] }
    ∷ record { key = bytes "horizon="; ranges = record { least = 0; most = most_horizon } ∷ [] }
    ∷ record { key = bytes "order="; ranges = record { least = least_order; most = most_order } ∷ [] }
    ∷ record { key = bytes "frequency="; ranges = record { least = 0; most = most_frequency } ∷ record { least = 0; most = most_frequency } ∷ [] }
    ∷ record { key = bytes "deductible="; ranges = record { least = 0; most = most_deductible } ∷ [] }
    ∷ record { key = bytes "worth="; ranges = record { least = least_worth; most = most_worth } ∷ [] }
    ∷ []

-- The numbers are as many as the ranges, and each is in its own.
unfoldable pub in_ranges : List NumberRange → List ℕ → Bool
in_ranges [] [] = true
in_ranges [] (n ∷ ns) = false
in_ranges (r ∷ rs) [] = false
in_ranges (r ∷ rs) (n ∷ ns) = between r.least r.most n && in_ranges rs ns

-- The header's figures, from the numbers of its lines.
unfoldable pub header_of : List ℕ → Fund
header_of ns =
    record {
      rates = get_or ns 0 0;
      members = get_or ns 1 0;
      horizon = get_or ns 2 0;
      order = get_or ns 3 0;
      frequency = record { death = get_or ns 4 0; disability = get_or ns 5 0 };
      deductible = get_or ns 6 0;
      worth = get_or ns 7 0;
    }

-- The line of a row: `rate=age,q,i`, `member=age,group,d,e,lives`, `end=` a number, or none of these. METHOD 1 (§8): "A member line gains a
-- last number, lives".
pub data Row : Type 0 where
  rate_row : Rate → Row
  member_row : Member → Row
  end_row : ℕ → Row
  other_row : Row

unfoldable pub row_of : Line → Row
row_of line =
    elim (spelled (bytes "rate=") 3 line) [
      | Some ns ↦ rate_row (record { age = get_or ns 0 0; q = get_or ns 1 0; i = get_or ns 2 0 })
      | None ↦
          elim (spelled (bytes "member=") 5 line) [
            | Some ns ↦ member_row (record { age = get_or ns 0 0; group = get_or ns 1 0; d = get_or ns 2 0; e = get_or ns 3 0; lives = get_or ns 4 0 })
            | None ↦ elim (spelled (bytes "end=") 1 line) [ Some ns ↦ end_row (get_or ns 0 0) | None ↦ other_row ]
          ]
    ]

-- "age 0 to 120, strictly rising": above the age of the row before.
unfoldable pub rising : List Rate → ℕ → Bool
rising [] age = true
rising (r ∷ []) age = ltb r.age age
rising (r ∷ s ∷ rs) age = rising (s ∷ rs) age

-- "q (death) and i (disability) 0 to 1,000,000 in millionths, q + i at most 1,000,000", and at most 121 rows.
unfoldable pub rate_in_range : List Rate → Rate → Bool
rate_in_range before r =
    ltb (length before) most_rates
    && leb r.age most_age
    && rising before r.age
    && leb r.q most_rate
    && leb r.i most_rate
    && leb (r.q + r.i) most_rate

-- The lives of member lines together.
unfoldable pub lives_in_all : List Member → ℕ
lives_in_all ms = total (λ (m : Member). m.lives) ms

-- "age 0 to 120; group 1 or 2; d and e 0 to 65,535", and at most 1,000 lines. METHOD 1 (§8): "lives, 1 to 1,000; lives in all are at most
-- 1,000, else range (2) at the line that passes it".
unfoldable pub member_in_range : List Member → Member → Bool
member_in_range before m =
    ltb (length before) most_members
    && leb m.age most_age
    && between least_group most_group m.group
    && leb m.d most_amount
    && leb m.e most_amount
    && between least_lives most_lives m.lives
    && leb (lives_in_all before + m.lives) most_lives

unfoldable pub no_member : List Member → Bool
no_member [] = true
no_member (m ∷ ms) = false

-- "nothing after it": a line that follows `end=` is form.
unfoldable pub at_end : ℕ → FundFile → List Line → Reading
at_end n file [] = read file
at_end n file (l ∷ ls) = stopped Form n

-- The rows from line n on, after those that are read. "a missing line has the place where it should stand"; a rate line
-- after a member line breaks the order.
unfoldable pub read_rows : ℕ → Fund → List Rate → List Member → List Line → Reading
read_rows n header rates members [] = stopped Form n
read_rows n header rates members (l ∷ ls) =
    elim (row_of l) [
      | rate_row r ↦
          elim (no_member members) [
            | false ↦ stopped Form n
            | true ↦ elim (rate_in_range rates r) [ false ↦ stopped Range n | true ↦ read_rows (suc n) header (rates ++ (r ∷ [])) members ls ]
          ]
      | member_row m ↦ elim (member_in_range members m) [ false ↦ stopped Range n | true ↦ read_rows (suc n) header rates (members ++ (m ∷ [])) ls ]
      | end_row k ↦
          elim (eqb k (length members)) [
            | false ↦ stopped Range n
            | true ↦ at_end (suc n) (record { header = header; rates = rates; members = members }) ls
          ]
      | other_row ↦ stopped Form n
    ]

-- The header lines that are left, from line n on, after the numbers that are read; then what follows the header.
unfoldable pub read_header : (ℕ → Fund → List Line → Reading) → List HeaderLine → ℕ → List ℕ → List Line → Reading
read_header after [] n ns ls = after n (header_of ns) ls
read_header after (h ∷ hs) n ns [] = stopped Form n
read_header after (h ∷ hs) n ns (l ∷ ls) =
    elim (spelled h.key (length h.ranges) l) [
      | None ↦ stopped Form n
      | Some v ↦ elim (in_ranges h.ranges v) [ false ↦ stopped Range n | true ↦ read_header after hs (suc n) (ns ++ v) ls ]
    ]

-- In a file the rows follow.
abbrev pub file_rows : ℕ → Fund → List Line → Reading
file_rows n header ls = read_rows n header [] [] ls

unfoldable pub reading : List ℕ → Reading
reading file = read_header file_rows header_lines 1 [] (lines file)
