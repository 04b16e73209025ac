-- The answer for sheets behind a header text that is read by itself: no part is handed back (no_part), and all else is the answer for the file
-- with the same rows (same_answer).
use Rattle.std.specs.Prelude.{◌≡◌, Bool, List, [], ◌∷◌, ◌++◌, map, length, if◌then◌else◌, Err, None, Ok, Option, Some}
use Rattle.std.proofs.Math.Path.{refl}
use Rattle.std.proofs.Common.{sym, ◌∙◌, ap, true≢false, arith}
use Rattle.std.proofs.Math.Bool.{true, false}
use Prim.Native.Nat.{ℕ, zero, suc, ◌≤◌}
use Rattle.std.proofs.lemmas.List.{length-map}
use Rattle.std.proofs.Math.ListN.{get_or-eq_default}
use Rattle.fund.specs.declared.Fund.{Fund}
use Rattle.fund.specs.declared.Rate.{Rate}
use Rattle.fund.specs.declared.Member.{Member}
use Rattle.fund.specs.declared.Refusal.{Refusal}
use Rattle.fund.specs.declared.Refusal.TheVariants.{Range, Edition, Deductible, Unmatched, Half, Load, Order, Short, Wide}
use Rattle.fund.specs.declared.SheetRow.{SheetRow}
use Rattle.fund.specs.declared.SheetRow.TheVariants.{Rate as RateRow, Member as MemberRow}
use Rattle.fund.specs.Verdict.{Verdict, refused_at}
use Rattle.fund.specs.Lines.{Line, lines}
use Rattle.fund.specs.Reading.{FundFile, Reading, read, stopped, header_lines, rate_in_range, member_in_range}
use Rattle.fund.specs.Folding.{points, lives}
use Rattle.fund.specs.Recursion.{Cell}
use Rattle.fund.specs.Refusals.{first, unmatched, half_line, Lengths, refuse, first_member, valued, matched, verdict}
use Rattle.fund.specs.Answer.{fund_cells, Part, empty, names_line, line_at, part, Answer, refused, accepted, answer_of, answer_to, answer}
use Rattle.fund.specs.Sheets.{sheet_rows, read_sheet_rows, sheet_reading, file_with, sheet_answer, rate_rows, member_rows}
use Rattle.laws.specs.PassedLines.{on_either}
use Rattle.equivalence.specs.SheetFile.{header_alone, same_reading}

-- ---- the place of a refusal
-- A refusal that names a line names one behind the header's.
abbrev Behind : Refusal → ℕ → Type 0
Behind why place = names_line why ≡ true → suc (length header_lines) ≤ place

abbrev BehindIn : Verdict → Type 0
BehindIn (Ok tt) = Unit {0}
BehindIn (Err stop) = Behind stop.why stop.place

abbrev BehindRead : Reading → Type 0
BehindRead (read fund) = Unit {0}
BehindRead (stopped why place) = Behind why place

rows_behind_lem : (rows : List (Option SheetRow)) (n : ℕ) (header : Fund) (rates : List Rate) (members : List Member) → suc (length header_lines) ≤ n → BehindRead (read_sheet_rows n header rates members rows)
unfolding read_sheet_rows
rows_behind_lem [] n header rates members h = tt
rows_behind_lem (None ∷ rows) n header rates members h = λ e. absurd (true≢false (sym e))
rows_behind_lem (Some (RateRow r) ∷ rows) n header rates members h =
    on_either (λ r. BehindRead r) (rate_in_range rates r) (stopped Range n) _ (λ e. h) (rows_behind_lem rows (suc n) header (rates ++ (r ∷ [])) members (omega arith))
rows_behind_lem (Some (MemberRow m) ∷ rows) n header rates members h =
    on_either (λ r. BehindRead r) (member_in_range members m) (stopped Range n) _ (λ e. h) (rows_behind_lem rows (suc n) header rates (members ++ (m ∷ [])) (omega arith))

first_behind : {A : Type 0} (met : A → Bool) (at : ℕ) (l : List A) (why : Refusal) (after : Verdict) → suc (length header_lines) ≤ at → BehindIn after → BehindIn (refuse why (first met at l) after)
unfolding first refuse
first_behind met at [] why after h k = k
first_behind met at (a ∷ l) why after h k = go (met a) (first_behind met (suc at) l why after (omega arith) k)
  where
    go : (t : Bool) → BehindIn (refuse why (first met (suc at) l) after) → BehindIn (refuse why (if t then Some at else first met (suc at) l) after)
    go true ih = λ e. h
    go false ih = ih

-- a refusal that names no line
unnamed : (why : Refusal) (o : Option ℕ) (after : Verdict) → names_line why ≡ false → BehindIn after → BehindIn (refuse why o after)
unfolding refuse
unnamed why None after e k = k
unnamed why (Some place) after e k = λ z. absurd (true≢false (sym z ∙ e))

verdict_behind : (fund : FundFile) (n : Lengths) (cells : List Cell) → BehindIn (verdict fund n cells)
unfolding verdict matched valued first_member
verdict_behind fund n cells =
    unnamed Edition _ _ refl
    (unnamed Deductible _ _ refl
    (first_behind (unmatched fund.rates) (first_member fund) fund.members Unmatched _ (omega arith)
    (first_behind half_line (first_member fund) (points fund) Half _ (omega arith)
    (unnamed Load _ _ refl (unnamed Order _ _ refl (unnamed Short _ _ refl (unnamed Wide _ _ refl tt)))))))

-- ---- the part
no_such_line : (header : List ℕ) (place : ℕ) → length (lines header) ≡ length header_lines → suc (length header_lines) ≤ place → line_at header place ≡ empty
unfolding line_at
no_such_line header zero e h = refl
no_such_line header (suc before) e h =
    let part_of : Line → Part = λ l. record { start = l.start; size = length l.text } in
    get_or-eq_default (map part_of (lines header)) empty {n = before} (omega (arith, length-map (lines header) part_of))

module _ (header : List ℕ) (as_many : length (lines header) ≡ length header_lines) (n : Lengths) where
  refused_part : (why : Refusal) (place : ℕ) → Behind why place → (refused header n (refused_at why place)).part ≡ empty
  unfolding refused part
  refused_part why place h = go (names_line why) h
    where
      go : (t : Bool) → (t ≡ true → suc (length header_lines) ≤ place) → (if t then line_at header place else empty) ≡ empty
      go true k = no_such_line header place as_many (k refl)
      go false k = refl

  verdict_part : (fund : FundFile) (v : Verdict) → BehindIn v → (answer_of header n fund v).part ≡ empty
  unfolding answer_of accepted
  verdict_part fund (Ok tt) h = refl
  verdict_part fund (Err stop) h = refused_part stop.why stop.place h

  reading_part : (r : Reading) → BehindRead r → (answer_to header n r).part ≡ empty
  unfolding answer_to
  reading_part (read fund) h = verdict_part fund _ (verdict_behind fund n (fund_cells fund.header (lives fund)))
  reading_part (stopped why place) h = refused_part why place h

pub no_part : (header : List ℕ) (alone : FundFile) → sheet_reading header [] [] ≡ read alone → (rates members : List ℕ) (n : Lengths) → (sheet_answer header rates members n).part ≡ empty
no_part header alone e rates members n =
    let a = header_alone header alone e in
    ap (λ r. (answer_to header n r).part) (a.sheets rates members)
    ∙ reading_part header a.as_many n _ (rows_behind_lem (sheet_rows rates members) (suc (length header_lines)) a.fund [] [] (omega arith))

-- ---- the rest of the answer
-- The answer with no part.
abbrev pub without_part : Answer → Answer
without_part a = record { verdict = a.verdict; part = empty; figures = a.figures; D = a.D; H = a.H; f = a.f; R = a.R; F = a.F }

without : (a : Answer) → a.part ≡ empty → a ≡ without_part a
without a e = λ i. record { verdict = a.verdict; part = e i; figures = a.figures; D = a.D; H = a.H; f = a.f; R = a.R; F = a.F }

-- only the part shows the bytes that were read
same_but_part : (s t : List ℕ) (n : Lengths) (r : Reading) → without_part (answer_to s n r) ≡ without_part (answer_to t n r)
unfolding answer_to answer_of refused
same_but_part s t n (read fund) = go (verdict fund n (fund_cells fund.header (lives fund)))
  where
    go : (v : Verdict) → without_part (answer_of s n fund v) ≡ without_part (answer_of t n fund v)
    go (Ok tt) = refl
    go (Err stop) = refl
same_but_part s t n (stopped why place) = refl

pub same_answer : (header rates members : List ℕ) (rs : List Rate) (ms : List Member) (alone : FundFile) → sheet_reading header [] [] ≡ read alone →
    sheet_rows rates members ≡ rate_rows rs ++ member_rows ms → (n : Lengths) → sheet_answer header rates members n ≡ without_part (answer (file_with header rs ms) n)
same_answer header rates members rs ms alone e t n =
    without (sheet_answer header rates members n) (no_part header alone e rates members n)
    ∙ same_but_part header (file_with header rs ms) n (sheet_reading header rates members)
    ∙ ap (λ r. without_part (answer_to (file_with header rs ms) n r)) (same_reading header rates members rs ms alone e t)
