-- What the functions on the header answer: how much of the file's reading a header line, or the whole header, settles.
use Rattle.std.specs.Prelude.{◌≡◌, List, [], ◌∷◌, ◌++◌, ℕ, suc, ◌≤◌, length, take, replicate, Result, Ok, Err}
use Rattle.fund.specs.declared.Fund.{Fund}
use Rattle.fund.specs.declared.Refused.{Refused}
use Rattle.fund.specs.Lines.{Line as FundLine, lines}
use Rattle.fund.specs.Reading.{Reading, stopped, NumberRange, HeaderLine, header_lines, read_header}
use Rattle.lines.specs.Lines.{lines_at}

abbrev pub range : ℕ → ℕ → NumberRange
range least most = record { least = least; most = most }

-- A header line of so many numbers, each in the same range.
abbrev pub header_line : List ℕ → ℕ → NumberRange → HeaderLine
header_line key count r = record { key = key; ranges = replicate count r }

-- What follows a header: the rows of a file, or of sheets.
abbrev pub After : Type 0
After = ℕ → Fund → List FundLine → Reading

-- The reading behind a header line: with its numbers behind those before, or where it stops.
abbrev pub behind_line : After → List HeaderLine → List ℕ → List ℕ → ℕ → Result (List ℕ) Refused → ℕ → ℕ → Reading
behind_line after hs ns text count (Ok values) at place = read_header after hs place (ns ++ take count values) (lines_at text at)
behind_line after hs ns text count (Err stop) at place = stopped stop.why stop.place

-- The next line starts in the text and has the next place.
abbrev pub NextPlace : List ℕ → ℕ → Result (List ℕ) Refused → ℕ → ℕ → Type 0
NextPlace text place (Ok values) at then = (at ≤ length text) × (then ≡ suc place)
NextPlace text place (Err stop) at then = Unit {0}

-- The header line at a place decides how the text is read, whatever numbers stand before it, whatever header lines stand behind it and whatever follows
-- the header.
pub record HeaderStepped (text : List ℕ) (at place : ℕ) (key : List ℕ) (count : ℕ) (r : NumberRange) (step : Result (List ℕ) Refused) (next then : ℕ) : Type 0 where
  pub same : (after : After) (hs : List HeaderLine) (ns : List ℕ) → read_header after (header_line key count r ∷ hs) place ns (lines_at text at) ≡ behind_line after hs ns text count step next then
  pub behind : NextPlace text place step next then

abbrev pub after_header : After → List ℕ → Result (Fund × ℕ) Refused → Reading
after_header after text (Ok found) = after (suc (length header_lines)) found.0 (lines_at text found.1)
after_header after text (Err stop) = stopped stop.why stop.place

abbrev pub EndsIn : List ℕ → Result (Fund × ℕ) Refused → Type 0
EndsIn text (Ok found) = found.1 ≤ length text
EndsIn text (Err stop) = Unit {0}

-- The header's figures and the lines behind it, or where reading stops, whatever follows the header. The header ends in the text: where nothing follows
-- it, where the text does.
pub record HeaderRead (text : List ℕ) (h : Result (Fund × ℕ) Refused) : Type 0 where
  pub same : (after : After) → read_header after header_lines 1 [] (lines text) ≡ after_header after text h
  pub inside : EndsIn text h
