-- METHOD 9 (§6): header texts with the rows that sheets are taken as, with what the program prints for them and the part of the header text that is
-- handed back. Then rows of sheets from their bytes.
use Rattle.std.specs.Prelude.{List, [], ◌∷◌, ◌++◌, ℕ, None, Option, Some}
use Prim.Native.String.{String}
use Rattle.fund.specs.declared.SheetRow.{SheetRow}
use Rattle.fund.specs.declared.SheetRow.TheVariants.{Rate as RateRow, Member as MemberRow}
use Rattle.fund.specs.Base.{bytes}
use Rattle.fund.specs.Answer.{Part, empty}
use Rattle.fund.specs.Starred.{text, one_member_listing}
use Rattle.fund.specs.SeveralLives.{two_lives_listing}

pub record SheetFund : Type 0 where
  pub header : List ℕ
  pub rows : List (Option SheetRow)
  pub listing : List ℕ
  pub part : Part

unfoldable pub header_text : String → String → List String → List ℕ
header_text members horizon more = text ("rates=2030" ∷ members ∷ horizon ∷ "order=3" ∷ "frequency=1000,1000" ∷ "deductible=2" ∷ more)

abbrev pub rate : ℕ → ℕ → ℕ → Option SheetRow
rate age q i = Some (RateRow (record { age = age; q = q; i = i }))

abbrev pub member : ℕ → ℕ → ℕ → ℕ → ℕ → Option SheetRow
member age group d e lives = Some (MemberRow (record { age = age; group = group; d = d; e = e; lives = lives }))

-- The header text of the first fund.
abbrev pub first_header : List ℕ
first_header = header_text "members=2030" "horizon=2" ("worth=100" ∷ [])

-- Behind it, rows that are refused: no part is handed back.
abbrev pub behind_header : List (Option SheetRow) → String → SheetFund
behind_header rows refused = record { header = first_header; rows = rows; listing = text (refused ∷ []); part = empty }

unfoldable pub sheet_funds : List SheetFund
sheet_funds =
    -- The first fund, priced as the file with the same rows.
    record { header = first_header; rows = rate 40 100000 0 ∷ member 40 1 1 0 1 ∷ []; listing = text one_member_listing; part = empty }
    -- A row that is not taken, at the row counted from 1: the first, behind rates, behind members; whatever follows it.
    ∷ behind_header (None ∷ []) "refused=11,1"
    ∷ behind_header (rate 40 100000 0 ∷ rate 50 100000 0 ∷ None ∷ []) "refused=11,3"
    ∷ behind_header (rate 40 100000 0 ∷ member 40 1 1 0 1 ∷ None ∷ rate 30 0 0 ∷ []) "refused=11,3"
    -- An earlier row's 2 comes before a later row's 11, and an earlier row's 11 before a later row's 2.
    ∷ behind_header (rate 40 600000 400001 ∷ None ∷ []) "refused=2,8"
    ∷ behind_header (None ∷ rate 40 600000 400001 ∷ []) "refused=11,1"
    -- Age order, q + i, 5 and 6 keep the file's number and line.
    ∷ behind_header (rate 40 100000 0 ∷ rate 40 100000 0 ∷ []) "refused=2,9"
    ∷ behind_header (rate 40 100000 0 ∷ rate 50 1000000 1 ∷ []) "refused=2,9"
    ∷ behind_header (rate 40 100000 0 ∷ member 40 1 1 0 1 ∷ member 39 1 1 0 1 ∷ []) "refused=5,10"
    ∷ behind_header (rate 40 500000 0 ∷ member 40 1 1 0 1 ∷ []) "refused=6,9"
    -- METHOD 9 (§8): a row of several lives is priced as the file, a place counts rows, and lives in all keep the file's number and line.
    ∷ record { header = first_header; rows = rate 40 100000 0 ∷ member 40 1 1 0 2 ∷ []; listing = text two_lives_listing; part = empty }
    ∷ behind_header (rate 40 100000 0 ∷ member 40 1 1 0 2 ∷ None ∷ []) "refused=11,3"
    ∷ behind_header (rate 40 100000 0 ∷ member 40 1 0 0 999 ∷ member 40 2 0 0 2 ∷ None ∷ []) "refused=2,10"
    -- 11 belongs to reading: it comes before 3.
    ∷ record { header = header_text "members=2031" "horizon=2" ("worth=100" ∷ []); rows = None ∷ []; listing = text ("refused=11,1" ∷ []); part = empty }
    ∷ record { header = header_text "members=2031" "horizon=2" ("worth=100" ∷ []); rows = []; listing = text ("refused=3,0" ∷ []); part = empty }
    -- The header text comes before any row, with its line: range at line 3, form at line 7, and where line 7 is missing.
    ∷ record { header = header_text "members=2030" "horizon=4096" ("worth=100" ∷ []); rows = None ∷ []; listing = text ("refused=2,3" ∷ []); part = record { start = 24; size = 12 } }
    ∷ record { header = header_text "members=2030" "horizon=2" ("worth=100 " ∷ []); rows = None ∷ []; listing = text ("refused=1,7" ∷ []); part = record { start = 75; size = 10 } }
    ∷ record { header = header_text "members=2030" "horizon=2" []; rows = None ∷ []; listing = text ("refused=1,7" ∷ []); part = empty }
    ∷ record { header = header_text "members=2030" "horizon=2" [] ++ bytes "worth=100"; rows = None ∷ []; listing = text ("refused=1,7" ∷ []); part = record { start = 75; size = 9 } }
    -- Bytes behind the last header line are form at line 8, and that line is handed back: up to its line feed, or to the end.
    ∷ record { header = header_text "members=2030" "horizon=2" ("worth=100" ∷ "rate=40,100000,0" ∷ "end=0" ∷ []); rows = None ∷ []; listing = text ("refused=1,8" ∷ []); part = record { start = 85; size = 16 } }
    ∷ record { header = first_header ++ bytes " "; rows = []; listing = text ("refused=1,8" ∷ []); part = record { start = 85; size = 1 } }
    ∷ record { header = first_header ++ (10 ∷ []); rows = []; listing = text ("refused=1,8" ∷ []); part = record { start = 85; size = 0 } }
    ∷ []

-- Cells from their bytes.
pub record RowBytes : Type 0 where
  pub bytes : List ℕ
  pub row : Option SheetRow

abbrev pub one : List ℕ
one = 0 ∷ 0 ∷ 0 ∷ 0 ∷ 0 ∷ 0 ∷ 240 ∷ 63 ∷ []

abbrev pub two : List ℕ
two = 0 ∷ 0 ∷ 0 ∷ 0 ∷ 0 ∷ 0 ∷ 0 ∷ 64 ∷ []

abbrev pub half : List ℕ
half = 0 ∷ 0 ∷ 0 ∷ 0 ∷ 0 ∷ 0 ∷ 224 ∷ 63 ∷ []

abbrev pub hundred_twenty : List ℕ
hundred_twenty = 0 ∷ 0 ∷ 0 ∷ 0 ∷ 0 ∷ 0 ∷ 94 ∷ 64 ∷ []

abbrev pub hundred_twenty_one : List ℕ
hundred_twenty_one = 0 ∷ 0 ∷ 0 ∷ 0 ∷ 0 ∷ 64 ∷ 94 ∷ 64 ∷ []

abbrev pub most_amount_file : List ℕ
most_amount_file = 0 ∷ 0 ∷ 0 ∷ 0 ∷ 224 ∷ 255 ∷ 239 ∷ 64 ∷ []

-- The NaN with the least payload and a sign.
abbrev pub blank : List ℕ
blank = 1 ∷ 0 ∷ 0 ∷ 0 ∷ 0 ∷ 0 ∷ 240 ∷ 255 ∷ []

abbrev pub thousand : List ℕ
thousand = 0 ∷ 0 ∷ 0 ∷ 0 ∷ 0 ∷ 64 ∷ 143 ∷ 64 ∷ []

abbrev pub thousand_one : List ℕ
thousand_one = 0 ∷ 0 ∷ 0 ∷ 0 ∷ 0 ∷ 72 ∷ 143 ∷ 64 ∷ []

abbrev pub zero : List ℕ
zero = 0 ∷ 0 ∷ 0 ∷ 0 ∷ 0 ∷ 0 ∷ 0 ∷ 0 ∷ []

-- A row of age 120 and group 2 that has the largest death amount and a blank.
abbrev pub oldest : List ℕ → List ℕ
oldest lives = hundred_twenty ++ (two ++ (most_amount_file ++ (blank ++ lives)))

unfoldable pub member_bytes : List RowBytes
member_bytes =
    record { bytes = oldest one; row = member 120 2 65535 0 1 }
    ∷ record { bytes = hundred_twenty ++ (one ++ (blank ++ (most_amount_file ++ thousand))); row = member 120 1 0 65535 1000 }
    -- An age of 121, a group of a half, a blank age, a blank group.
    ∷ record { bytes = hundred_twenty_one ++ (two ++ (most_amount_file ++ (blank ++ one))); row = None }
    ∷ record { bytes = hundred_twenty ++ (half ++ (most_amount_file ++ (blank ++ one))); row = None }
    ∷ record { bytes = blank ++ (two ++ (most_amount_file ++ (blank ++ one))); row = None }
    ∷ record { bytes = hundred_twenty ++ (blank ++ (most_amount_file ++ (blank ++ one))); row = None }
    -- METHOD 9 (§8): 0 lives, 1,001, a half, and a blank.
    ∷ record { bytes = oldest zero; row = None }
    ∷ record { bytes = oldest thousand_one; row = None }
    ∷ record { bytes = oldest half; row = None }
    ∷ record { bytes = oldest blank; row = None }
    -- Cut short: without the lives, and without their last byte.
    ∷ record { bytes = oldest []; row = None }
    ∷ record { bytes = oldest (0 ∷ 0 ∷ 0 ∷ 0 ∷ 0 ∷ 0 ∷ 240 ∷ []); row = None }
    ∷ []
