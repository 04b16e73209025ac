-- METHOD 3 (§8), from the bytes on: of every file that is read, the file with each member line written out as copies with lives 1 (out_text) is read
-- as the fund written out (out_read), and priced as the file itself but for the places of 5 and 6 (out_priced).
use Rattle.std.specs.Prelude.{◌≡◌, refl, ◌⊎◌, Bool, true, false, eqb, if◌then◌else◌, Option}
use Rattle.std.proofs.Math.Path.{sym, ap, ap₂}
use Rattle.std.proofs.Common.{◌∙◌, inl, inr, true≢false, le-leb, lt-ltb, Some}
use mathlib.Core.List.{List, [], ◌∷◌, ◌++◌, map-append, append-nil, append_assoc}
use Prim.Native.Nat.{ℕ, zero, suc, ◌+◌, ◌≤◌, ◌<◌}
use native.Mathlib.Omega.{arith}
use Rattle.std.proofs.Math.ListN.{length, replicate, take, length-append}
use Rattle.std.proofs.lemmas.List.{length-replicate}
use Rattle.fund.specs.declared.Fund.{Fund}
use Rattle.fund.specs.declared.Rate.{Rate}
use Rattle.fund.specs.declared.Member.{Member}
use Rattle.fund.specs.declared.Refusal.TheVariants.{Form, Range}
use Rattle.fund.specs.declared.SheetRow.{SheetRow}
use Rattle.fund.specs.declared.SheetRow.TheVariants.{Rate as RateRow, Member as MemberRow}
use Rattle.fund.specs.Base.{total}
use Rattle.fund.specs.Limits.{most_members, most_lives}
use Rattle.fund.specs.Lines.{Line, begun, lines_from, lines}
use Rattle.fund.specs.Reading.{FundFile, read, header_lines, between, lives_in_all, rate_in_range, member_in_range, no_member, read_rows, read_header, reading, file_rows}
use Rattle.fund.specs.Refusals.{Lengths}
use Rattle.fund.specs.Answer.{answer}
use Rattle.fund.specs.Sheets.{read_sheet_rows, read_sheets, sheet_rows, sheet_reading, rate_text, member_text, texts, file_with, rate_rows, member_rows}
use Rattle.laws.specs.Accepted.{All, all_map, all_append, all_replicate}
use Rattle.laws.specs.Tables.{total_append, total_replicate}
use Rattle.laws.specs.PassedLines.{never, pass, PassedLine, rate_line, member_line, end_line, passed_line}
use Rattle.laws.specs.Ranges.{RateOk, MemberOk, FundOk, lives_more, member_ok, no_rows, read_ranges}
use Rattle.laws.specs.SheetRanges.{sheet_rows_ranges}
use Rattle.laws.specs.RowTexts.{ShortRate, ShortMember, end_text}
use Rattle.equivalence.specs.HeaderOutcome.{Stops, Passes, passed, header_outcome}
use Rattle.equivalence.specs.SheetFile.{rates_alike, empty_sheets, Alone, header_alone}
use Rattle.laws.specs.Rows.{front}
use Rattle.equivalence.specs.FewerRows.{some_member}
use Rattle.equivalence.specs.SameRates.{SameButPlaces}
use Rattle.equivalence.specs.WrittenOut.{one_life, written_out, out_file, out_place, out_answers}

-- ---- a copy is in range where its line is
member_in : (before : List Member) (m : Member) → length before < most_members → lives_in_all before + m.lives ≤ most_lives → MemberOk m → member_in_range before m ≡ true
unfolding member_in_range between
member_in before m l s ok =
    rw (
      lt-ltb (length before) most_members l,
      le-leb _ _ ok.age,
      le-leb _ _ ok.group_least,
      le-leb _ _ ok.group_most,
      le-leb _ _ ok.d,
      le-leb _ _ ok.e,
      le-leb _ _ ok.lives_least,
      le-leb _ _ ok.lives_most,
      le-leb _ _ s,
    )

one_ok : (m : Member) → MemberOk m → MemberOk (one_life m)
unfolding one_life
one_ok m ok =
    record { age = ok.age; group_least = ok.group_least; group_most = ok.group_most; d = ok.d; e = ok.e; lives_least = omega arith; lives_most = omega arith }

lives_one : (m : Member) (k : ℕ) → lives_in_all (replicate k (one_life m)) ≡ k
unfolding lives_in_all one_life
lives_one m k = omega (arith, total_replicate (λ (l : Member). l.lives) k (one_life m))

of_one : (m : Member) → (one_life m).lives ≡ 1
unfolding one_life
of_one m = refl

lives_append : (ms ls : List Member) → lives_in_all (ms ++ ls) ≡ lives_in_all ms + lives_in_all ls
unfolding lives_in_all
lives_append ms ls = total_append (λ (m : Member). m.lives) ms ls

-- ---- rows behind a header
module _ (n : ℕ) (header : Fund) (rates : List Rate) (before : List Member) (rows : List (Option SheetRow)) where
  takes_rate : (r : Rate) → rate_in_range rates r ≡ true → read_sheet_rows n header rates before (Some (RateRow r) ∷ rows) ≡ read_sheet_rows (suc n) header (rates ++ (r ∷ [])) before rows
  unfolding read_sheet_rows
  takes_rate r e = rw (e, read_sheet_rows)

  takes_member : (m : Member) → member_in_range before m ≡ true → read_sheet_rows n header rates before (Some (MemberRow m) ∷ rows) ≡ read_sheet_rows (suc n) header rates (before ++ (m ∷ [])) rows
  unfolding read_sheet_rows
  takes_member m e = rw (e, read_sheet_rows)

module _ (header : Fund) (rates : List Rate) where
  copies_read : (k n : ℕ) (before : List Member) (m : Member) (more : List (Option SheetRow)) → MemberOk m → lives_in_all before ≡ length before → length before + k ≤ most_lives →
      read_sheet_rows n header rates before (member_rows (replicate k (one_life m)) ++ more) ≡ read_sheet_rows (k + n) header rates (before ++ replicate k (one_life m)) more
  unfolding read_sheet_rows
  copies_read zero n before m more ok e few =
      let z : n ≡ 0 + n = omega arith in
      ap₂ (λ k ms. read_sheet_rows k header rates ms more) z (sym (append-nil before))
  copies_read (suc k) n before m more ok e few =
      let x = one_life m in
      let one : lives_in_all (x ∷ []) ≡ 1 = lives_one m 1 in
      let longer : length (before ++ (x ∷ [])) ≡ length before + 1 = length-append before (x ∷ []) in
      let z : k + suc n ≡ suc k + n = omega arith in
      takes_member n header rates before (member_rows (replicate k x) ++ more) x (member_in before x (omega arith) (omega (arith, of_one m)) (one_ok m ok))
      ∙ copies_read k (suc n) (before ++ (x ∷ [])) m more ok (omega (arith, lives_append before (x ∷ []))) (omega arith)
      ∙ ap₂ (λ j ms. read_sheet_rows j header rates ms more) z (append_assoc before (x ∷ []) (replicate k x))

  members_out : (ms : List Member) (n n' : ℕ) (before before' : List Member) (file : FundFile) → lives_in_all before ≡ length before' → lives_in_all before' ≡ length before' →
      read_sheet_rows n header rates before (member_rows ms) ≡ read file →
      read_sheet_rows n' header rates before' (member_rows (written_out ms)) ≡ read (record { header = header; rates = rates; members = before' ++ written_out ms })
  unfolding read_sheet_rows written_out
  members_out [] n n' before before' file same e h = ap (λ ms. read (record { header = header; rates = rates; members = ms })) (sym (append-nil before'))
  members_out (m ∷ ms) n n' before before' file same e h =
      let k = pass (member_in_range before m) Range n _ file h in
      let ok = member_ok before m k.0 in
      let new = replicate m.lives (one_life m) in
      let longer : length (before' ++ new) ≡ length before' + m.lives = length-append before' new ∙ ap (λ j. length before' + j) (length-replicate m.lives (one_life m)) in
      let more : lives_in_all (before' ++ new) ≡ lives_in_all before' + m.lives = lives_append before' new ∙ ap (λ j. lives_in_all before' + j) (lives_one m m.lives) in
      ap (read_sheet_rows n' header rates before') (map-append (λ x. Some (MemberRow x)) new (written_out ms))
      ∙ copies_read m.lives n' before' m (member_rows (written_out ms)) ok.1.1 e (omega (arith, ok.1.0))
      ∙ members_out ms (suc n) (m.lives + n') (before ++ (m ∷ [])) (before' ++ new) file (omega (arith, lives_more before m)) (omega arith) k.1
      ∙ ap (λ ls. read (record { header = header; rates = rates; members = ls })) (append_assoc before' new (written_out ms))

rows_out : (rs : List Rate) (ms : List Member) (n : ℕ) (header : Fund) (rates : List Rate) (file : FundFile) → read_sheet_rows n header rates [] (rate_rows rs ++ member_rows ms) ≡ read file →
    read_sheet_rows n header rates [] (rate_rows rs ++ member_rows (written_out ms)) ≡ read (record { header = header; rates = rates ++ rs; members = written_out ms })
unfolding read_sheet_rows lives_in_all total
rows_out [] ms n header rates file h =
    members_out header rates ms n n [] [] file refl refl h ∙ ap (λ rs. read (record { header = header; rates = rs; members = written_out ms })) (sym (append-nil rates))
rows_out (r ∷ rs) ms n header rates file h =
    let k = pass (rate_in_range rates r) Range n _ file h in
    takes_rate n header rates [] (rate_rows rs ++ member_rows (written_out ms)) r k.0
    ∙ rows_out rs ms (suc n) header (rates ++ (r ∷ [])) file k.1
    ∙ ap (λ rs. read (record { header = header; rates = rs; members = written_out ms })) (append_assoc rates (r ∷ []) rs)

-- ---- numbers in their ranges have at most seven digits
short_rate : (r : Rate) → RateOk r → ShortRate r
short_rate r ok = (omega (arith, ok.age), (omega (arith, ok.q), (omega (arith, ok.i), tt)))

short_member : (m : Member) → MemberOk m → ShortMember m
short_member m ok = (omega (arith, ok.age), (omega (arith, ok.group_most), (omega (arith, ok.d), (omega (arith, ok.e), (omega (arith, ok.lives_most), tt)))))

short_out : (ms : List Member) → All ShortMember ms → All ShortMember (written_out ms)
unfolding written_out one_life
short_out [] h = tt
short_out (m ∷ ms) h =
    let k = h.0 in
    all_append ShortMember (replicate m.lives (one_life m)) (written_out ms)
    (all_replicate ShortMember m.lives (one_life m) (k.0, (k.1.0, (k.1.1.0, (k.1.1.1.0, (omega arith, tt))))))
    (short_out ms h.1)

-- ---- the rows that a file's lines are read as, read as rows
record Rows (n : ℕ) (header : Fund) (rates : List Rate) (members : List Member) (file : FundFile) : Type 0 where
  rs : List Rate
  ms : List Member
  late : no_member members ≡ false → rs ≡ []
  is : file ≡ record { header = header; rates = rates ++ rs; members = members ++ ms }
  read_as : read_sheet_rows n header rates members (rate_rows rs ++ member_rows ms) ≡ read file

rows_of : (ls : List Line) (n : ℕ) (header : Fund) (rates : List Rate) (members : List Member) (file : FundFile) → read_rows n header rates members ls ≡ read file → Rows n header rates members file
unfolding read_rows read_sheet_rows
rows_of [] n header rates members file e = absurd (never Form n file e)
rows_of (l ∷ ls) n header rates members file e = go (passed_line n header rates members l ls file e) (λ rs ms. rows_of ls (suc n) header rs ms file)
  where
    go : PassedLine n header rates members l ls file → ((rs : List Rate) (ms : List Member) → read_rows (suc n) header rs ms ls ≡ read file → Rows (suc n) header rs ms file) → Rows n header rates members file
    go (rate_line r s a b w) ih =
        let k = ih (rates ++ (r ∷ [])) members w in
        record {
          rs = r ∷ k.rs;
          ms = k.ms;
          late = λ h. absurd (true≢false (sym a ∙ h));
          is = k.is ∙ ap (λ rs. record { header = header; rates = rs; members = members ++ k.ms }) (append_assoc rates (r ∷ []) k.rs);
          read_as = takes_rate n header rates members (rate_rows k.rs ++ member_rows k.ms) r b ∙ k.read_as;
        }
    go (member_line m s b w) ih =
        let k = ih rates (members ++ (m ∷ [])) w in
        let none = k.late (some_member members m) in
        record {
          rs = [];
          ms = m ∷ k.ms;
          late = λ h. refl;
          is = k.is ∙ ap₂ (λ rs ms. record { header = header; rates = rates ++ rs; members = ms }) none (append_assoc members (m ∷ []) k.ms);
          read_as = takes_member n header rates members (member_rows k.ms) m b ∙ ap (λ rs. read_sheet_rows (suc n) header rates (members ++ (m ∷ [])) (rate_rows rs ++ member_rows k.ms)) (sym none) ∙ k.read_as;
        }
    go (end_line c s b z w) ih =
        record {
          rs = [];
          ms = [];
          late = λ h. refl;
          is = sym w ∙ ap₂ (λ rs ms. record { header = header; rates = rs; members = ms }) (sym (append-nil rates)) (sym (append-nil members));
          read_as = ap read w;
        }

-- ---- the header's bytes
-- The first k lines of a text, with their line feeds.
unfoldable pub first_lines : ℕ → List ℕ → List ℕ
first_lines zero bs = []
first_lines (suc k) [] = []
first_lines (suc k) (b ∷ bs) = b ∷ (if eqb b 10 then first_lines k bs else first_lines (suc k) bs)

begun_first : (at b k : ℕ) (ls : List Line) → begun at b (take (suc k) ls) ≡ take (suc k) (begun at b ls)
unfolding begun
begun_first at b zero [] = refl
begun_first at b (suc k) [] = refl
begun_first at b k (l ∷ ls) = refl

lines_first : (bs : List ℕ) (at k : ℕ) → lines_from at (first_lines k bs) ≡ take k (lines_from at bs)
unfolding first_lines lines_from
lines_first [] at zero = refl
lines_first [] at (suc k) = refl
lines_first (b ∷ bs) at zero = refl
lines_first (b ∷ bs) at (suc k) = go (eqb b 10) refl (lines_first bs (suc at) k) (lines_first bs (suc at) (suc k))
  where
    go : (t : Bool) → eqb b 10 ≡ t → lines_from (suc at) (first_lines k bs) ≡ take k (lines_from (suc at) bs) → lines_from (suc at) (first_lines (suc k) bs) ≡ take (suc k) (lines_from (suc at) bs) →
        lines_from at (first_lines (suc k) (b ∷ bs)) ≡ take (suc k) (lines_from at (b ∷ bs))
    go true e h g = rw e (ap (λ ls. record { start = at; text = []; ended = true } ∷ ls) h)
    go false e h g = rw e (ap (begun at b) g ∙ begun_first at b k (lines_from (suc at) bs))

-- A file's header lines, its rate lines, its member lines written out, and `end=`.
unfoldable pub out_text : List ℕ → FundFile → List ℕ
out_text text file = file_with (first_lines (length header_lines) text) file.rates (written_out file.members)

same_read : (a b : FundFile) → read a ≡ read b → a.header ≡ b.header
same_read a b e = cc

-- ---- the file
module _ (header : List ℕ) (behind : Alone header) (file : FundFile) (ok : FundOk file) where
  as_rows : (ms : List Member) → All ShortMember ms →
      reading (file_with header file.rates ms) ≡ read_sheet_rows (suc (length header_lines)) behind.fund [] [] (rate_rows file.rates ++ member_rows ms)
  unfolding file_with
  as_rows ms h =
      behind.file (texts rate_text file.rates ++ (texts member_text ms ++ end_text (length ms)))
      ∙ sym (rates_alike file.rates ms (suc (length header_lines)) behind.fund [] (length header) (all_map short_rate file.rates ok.rows.rates) h)

  out_behind : read_sheet_rows (suc (length header_lines)) behind.fund [] [] (rate_rows file.rates ++ member_rows file.members) ≡ read file →
      reading (file_with header file.rates (written_out file.members)) ≡ read (out_file file)
  out_behind rows =
      as_rows (written_out file.members) (short_out file.members (all_map short_member file.members ok.rows.members))
      ∙ rows_out file.rates file.members (suc (length header_lines)) behind.fund [] file rows
      ∙ ap (λ h. read (record { header = h; rates = file.rates; members = written_out file.members }))
      (sym (sheet_rows_ranges (rate_rows file.rates ++ member_rows file.members) (suc (length header_lines)) behind.fund [] [] file no_rows rows).header_is)

module _ (text : List ℕ) (file : FundFile) (is : reading text ≡ read file) where
  abbrev header : List ℕ
  header = first_lines (length header_lines) text

  ok : FundOk file
  ok = read_ranges text file is

  -- the header lines by themselves
  module _ (k : Passes header_lines 1 [] (lines text)) where
    alone : FundFile
    alone = record { header = k.fund; rates = []; members = [] }

    front_is : lines header ≡ k.front
    unfolding lines
    front_is =
        lines_first text 0 (length header_lines)
        ∙ ap₂ (λ c ls. take c ls) (sym k.as_many) k.lines_are
        ∙ front k.front k.rest

    headed : sheet_reading header [] [] ≡ read alone
    unfolding sheet_reading read_sheets read_sheet_rows alone
    headed =
        ap (read_header (read_sheets (sheet_rows [] [])) header_lines 1 []) (front_is ∙ sym (append-nil k.front))
        ∙ k.goes_on (read_sheets (sheet_rows [] [])) []
        ∙ ap (read_sheet_rows (1 + length header_lines) k.fund [] []) empty_sheets

    behind : Alone header
    behind = header_alone header alone headed

    same_header : behind.fund ≡ k.fund
    unfolding read_sheet_rows alone
    same_header =
        same_read (record { header = behind.fund; rates = []; members = [] }) alone
        (ap (read_sheet_rows (suc (length header_lines)) behind.fund [] []) (sym empty_sheets) ∙ sym (behind.sheets [] []) ∙ headed)

    rows_again : read_sheet_rows (suc (length header_lines)) behind.fund [] [] (rate_rows file.rates ++ member_rows file.members) ≡ read file
    unfolding reading
    rows_again =
        let r = rows_of k.rest (1 + length header_lines) k.fund [] [] file (sym (passed header_lines 1 [] (lines text) k file_rows) ∙ is) in
        let one : suc (length header_lines) ≡ 1 + length header_lines = omega arith in
        ap₂ (λ rs ms. read_sheet_rows (suc (length header_lines)) behind.fund [] [] (rate_rows rs ++ member_rows ms)) (ap (λ (x : FundFile). x.rates) r.is) (ap (λ (x : FundFile). x.members) r.is)
        ∙ ap₂ (λ n h. read_sheet_rows n h [] [] (rate_rows r.rs ++ member_rows r.ms)) one same_header
        ∙ r.read_as

  pub out_read : reading (out_text text file) ≡ read (out_file file)
  unfolding out_text reading
  out_read = go (header_outcome header_lines 1 [] (lines text))
    where
      go : Stops header_lines 1 [] (lines text) ⊎ Passes header_lines 1 [] (lines text) → reading (out_text text file) ≡ read (out_file file)
      go (inl k) = absurd (never k.why k.place file (sym (k.stops file_rows) ∙ is))
      go (inr k) = out_behind header (behind k) file ok (rows_again k)

  pub out_priced : (n : Lengths) → SameButPlaces (out_place file) (answer (out_text text file) n) (answer text n)
  out_priced n = rw (out_read, is) (out_answers file (all_map (λ (m : Member) (k : MemberOk m). k.lives_least) file.members ok.rows.members) _ _ n)
