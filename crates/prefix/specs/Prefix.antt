-- What is read from a file, and its listing, are those of its first bytes (reading_first, listing_first); so of a header text and two sheets
-- (sheet_reading_first, sheet_listing_first).
use Rattle.std.specs.Prelude.{◌≡◌, refl, List, [], ℕ, suc, ◌+◌, ◌≤◌, length, take, Err, Ok}
use Rattle.std.proofs.Common.{sym, ◌∙◌, ap}
use native.Mathlib.Omega.{arith}
use Rattle.fund.specs.Verdict.{Verdict}
use Rattle.fund.specs.Limits.{most_rates, most_members}
use Rattle.fund.specs.Base.{bytes}
use Rattle.fund.specs.Reading.{FundFile, Reading, read, stopped, header_lines, file_rows, reading}
use Rattle.fund.specs.Folding.{lives}
use Rattle.fund.specs.Refusals.{Lengths, verdict}
use Rattle.fund.specs.Answer.{fund_cells, refused, answer_of, answer_to}
use Rattle.fund.specs.Listing.{printed, horizon_in, enough, listing_to, listing}
use Rattle.fund.specs.Sheets.{sheet_rows, read_sheets, sheet_reading, sheet_listing}
use Rattle.prefix.specs.Sheets.{sheets_first}
use Rattle.prefix.specs.Lines.{lines_cut}
use Rattle.prefix.specs.Reading.{bytes_for, KeysShort, header_same, file_behind, sheets_behind}
use Rattle.prefix.specs.Spelling.{most_line}

keys_short : KeysShort header_lines
unfolding header_lines bytes
keys_short = omega arith

-- Reading passes at most the header lines, the rows and the `end=` line: 53,064 bytes are enough.
reading_enough : (n : ℕ) (file : List ℕ) → bytes_for (length header_lines + most_rates + most_members) ≤ n → reading (take n file) ≡ reading file
unfolding reading
reading_enough n file h = header_same file_rows (bytes_for (most_rates + most_members)) file_behind header_lines 1 [] keys_short (lines_cut n file) (omega arith) (omega arith)

-- Of a header text, at most its lines and one byte more.
header_enough : (n : ℕ) (header rates members : List ℕ) → bytes_for (length header_lines) ≤ n → sheet_reading (take n header) rates members ≡ sheet_reading header rates members
unfolding sheet_reading
header_enough n header rates members h =
    header_same (read_sheets (sheet_rows rates members)) (suc most_line) (sheets_behind (sheet_rows rates members)) header_lines 1 [] keys_short (lines_cut n header) (omega arith) (omega arith)

-- The listing does not show the part of the bytes that is handed back with a refusal.
printed_of : (f g : List ℕ) (n : Lengths) (fund : FundFile) (X : ℕ) (v : Verdict) →
    printed (answer_of f n fund v) X (answer_of f n fund v).verdict ≡ printed (answer_of g n fund v) X (answer_of g n fund v).verdict
unfolding answer_of refused printed
printed_of f g n fund X (Ok tt) = refl
printed_of f g n fund X (Err stop) = refl

printed_to : (f g : List ℕ) (n : Lengths) (r : Reading) →
    printed (answer_to f n r) (horizon_in r) (answer_to f n r).verdict ≡ printed (answer_to g n r) (horizon_in r) (answer_to g n r).verdict
unfolding answer_to refused printed
printed_to f g n (read fund) = printed_of f g n fund _ (verdict fund n (fund_cells fund.header (lives fund)))
printed_to f g n (stopped why place) = refl

listing_of_reading : (f g : List ℕ) (x y : Reading) → x ≡ y → listing_to f x ≡ listing_to g y
unfolding listing_to
listing_of_reading f g x y e =
    ap (λ r. printed (answer_to f enough r) (horizon_in r) (answer_to f enough r).verdict) e ∙ printed_to f g enough y

-- No more bytes of a file are read than these.
abbrev pub most_bytes : ℕ
most_bytes = 65536

few_bytes : (n : ℕ) → most_bytes ≤ n → bytes_for (length header_lines + most_rates + most_members) ≤ n
unfolding header_lines
few_bytes n h = omega arith

pub reading_first : (n : ℕ) (file : List ℕ) → most_bytes ≤ n → reading (take n file) ≡ reading file
reading_first n file h = reading_enough n file (few_bytes n h)

pub listing_first : (n : ℕ) (file : List ℕ) → most_bytes ≤ n → listing (take n file) ≡ listing file
listing_first n file h = listing_of_reading (take n file) file (reading (take n file)) (reading file) (reading_first n file h)

-- The same of a header text and two sheets.
module _ (n : ℕ) (header rates members : List ℕ) (h : most_bytes ≤ n) where
  enough_header : bytes_for (length header_lines) ≤ n
  unfolding header_lines
  enough_header = omega arith

  pub sheet_reading_first : sheet_reading (take n header) (take n rates) (take n members) ≡ sheet_reading header rates members
  sheet_reading_first = header_enough n header (take n rates) (take n members) enough_header ∙ sym (sheets_first n n rates members (omega arith) (omega arith) header)

  pub sheet_listing_first : listing_to (take n header) (sheet_reading (take n header) (take n rates) (take n members)) ≡ sheet_listing header rates members
  sheet_listing_first = listing_of_reading (take n header) header (sheet_reading (take n header) (take n rates) (take n members)) (sheet_reading header rates members) sheet_reading_first
