-- A file without one of its rate lines is read, as the fund without that row (read_without).
use Rattle.std.specs.Prelude.{◌≡◌, refl, true, false, List, [], ◌∷◌, ◌++◌, ℕ, zero, suc, ◌+◌, ◌<◌, leb, ltb, length, None, Option, Some}
use Rattle.std.proofs.Common.{sym, ◌∙◌, ap, subst, true≢false, append-nil, append_assoc, arith, ltb-true, lt-ltb, length-append}
use Rattle.fund.specs.declared.Fund.{Fund}
use Rattle.fund.specs.declared.Rate.{Rate}
use Rattle.fund.specs.declared.Member.{Member}
use Rattle.fund.specs.declared.Refusal.TheVariants.{Form, Range}
use Rattle.fund.specs.Limits.{most_rates, most_age, most_rate}
use Rattle.fund.specs.Lines.{Line}
use Rattle.fund.specs.Spelling.{spelled}
use Rattle.fund.specs.Reading.{FundFile, read, in_ranges, HeaderLine, header_lines, header_of, rising, rate_in_range, no_member, read_rows, read_header, reading, file_rows}
use Rattle.laws.specs.Accepted.{All}
use Rattle.laws.specs.InForce.{Rising}
use Rattle.laws.specs.PassedLines.{never, pass, PassedLine, rate_line, member_line, end_line, passed_line, on_rate, on_member, on_end}
use Rattle.laws.specs.Ranges.{and-true, above_all, rise_more}
use Rattle.equivalence.specs.Texts.{texts, reading_texts, without_line, drop_at, texts_without}

-- A fund without the rate row of a place, counted from 0.
abbrev pub fewer : ℕ → FundFile → FundFile
fewer k fund = record { header = fund.header; rates = drop_at k fund.rates; members = fund.members }

pub drop_middle : {A : Type 0} (before after : List A) (a : A) → drop_at (length before) (before ++ (a ∷ after)) ≡ before ++ after
drop_middle [] after a = refl
drop_middle (b ∷ before) after a = ap (λ l. b ∷ l) (drop_middle before after a)

-- ---- a row in its range is so with a row less before it
rising_above : (before : List Rate) (age : ℕ) → All (λ (s : Rate). s.age < age) before → rising before age ≡ true
unfolding rising
rising_above [] age k = refl
rising_above (r ∷ []) age k = lt-ltb r.age age k.0
rising_above (r ∷ s ∷ rs) age k = rising_above (s ∷ rs) age k.1

all_without : (P : Rate → Type 0) (rs ss : List Rate) (r : Rate) → All P (rs ++ (r ∷ ss)) → All P (rs ++ ss)
all_without P [] ss r k = k.1
all_without P (s ∷ rs) ss r k = (k.0, all_without P rs ss r k.1)

still_in_range : (rs ss : List Rate) (r x : Rate) → Rising (rs ++ (r ∷ ss)) → rate_in_range (rs ++ (r ∷ ss)) x ≡ true → rate_in_range (rs ++ ss) x ≡ true
unfolding rate_in_range
still_in_range rs ss r x k e =
    let h5 = and-true _ (leb (x.q + x.i) most_rate) e in
    let h4 = and-true _ (leb x.i most_rate) h5.0 in
    let h3 = and-true _ (leb x.q most_rate) h4.0 in
    let h2 = and-true _ (rising (rs ++ (r ∷ ss)) x.age) h3.0 in
    let h1 = and-true (ltb (length (rs ++ (r ∷ ss))) most_rates) (leb x.age most_age) h2.0 in
    let few : length (rs ++ (r ∷ ss)) < most_rates = ltb-true _ _ h1.0 in
    let fits : ltb (length (rs ++ ss)) most_rates ≡ true = lt-ltb (length (rs ++ ss)) most_rates (omega (arith, length-append rs ss, length-append rs (r ∷ ss))) in
    let rises : rising (rs ++ ss) x.age ≡ true = rising_above (rs ++ ss) x.age (all_without (λ (s : Rate). s.age < x.age) rs ss r (above_all (rs ++ (r ∷ ss)) x.age k h2.1)) in
    rw (fits, h1.1, rises, h3.1, h4.1, h5.1)

-- ---- the rows
pub some_member : (ms : List Member) (m : Member) → no_member (ms ++ (m ∷ [])) ≡ false
unfolding no_member
some_member [] m = refl
some_member (x ∷ ms) m = refl

-- The rows that are read with one row less before them.
rows_fewer : (ls : List Line) (n n' : ℕ) (header : Fund) (rs ss : List Rate) (r : Rate) (members : List Member) (fund : FundFile) → Rising (rs ++ (r ∷ ss)) →
    read_rows n header (rs ++ (r ∷ ss)) members ls ≡ read fund → read_rows n' header (rs ++ ss) members ls ≡ read (fewer (length rs) fund)
unfolding read_rows
rows_fewer [] n n' header rs ss r members fund k e = absurd (never Form n fund e)
rows_fewer (l ∷ ls) n n' header rs ss r members fund k e = go (passed_line n header (rs ++ (r ∷ ss)) members l ls fund e) (λ ts ms. rows_fewer ls (suc n) (suc n') header rs ts r ms fund)
  where
    go : PassedLine n header (rs ++ (r ∷ ss)) members l ls fund →
        ((ts : List Rate) (ms : List Member) → Rising (rs ++ (r ∷ ts)) → read_rows (suc n) header (rs ++ (r ∷ ts)) ms ls ≡ read fund → read_rows (suc n') header (rs ++ ts) ms ls ≡ read (fewer (length rs) fund)) →
        read_rows n' header (rs ++ ss) members (l ∷ ls) ≡ read (fewer (length rs) fund)
    go (rate_line x s a b w) ih =
        let more = append_assoc rs (r ∷ ss) (x ∷ []) in
        on_rate n' header (rs ++ ss) members l ls x s a (still_in_range rs ss r x k b)
        ∙ ap (λ ts. read_rows (suc n') header ts members ls) (append_assoc rs ss (x ∷ []))
        ∙ ih (ss ++ (x ∷ [])) members (subst Rising more (rise_more (rs ++ (r ∷ ss)) x k b)) (ap (λ ts. read_rows (suc n) header ts members ls) (sym more) ∙ w)
    go (member_line m s b w) ih = on_member n' header (rs ++ ss) members l ls m s b ∙ ih ss (members ++ (m ∷ [])) k w
    go (end_line c s b z w) ih =
        on_end n' header (rs ++ ss) members l ls c s b z
        ∙ ap (λ ts. read (record { header = header; rates = ts; members = members })) (sym (drop_middle rs ss r))
        ∙ ap (λ f. read (fewer (length rs) f)) w

-- Behind a member line no rate line is read.
rows_rates : (ls : List Line) (n : ℕ) (header : Fund) (rates : List Rate) (members : List Member) (fund : FundFile) → no_member members ≡ false →
    read_rows n header rates members ls ≡ read fund → fund.rates ≡ rates
unfolding read_rows
rows_rates [] n header rates members fund k e = absurd (never Form n fund e)
rows_rates (l ∷ ls) n header rates members fund k e = go (passed_line n header rates members l ls fund e) (λ m. rows_rates ls (suc n) header rates (members ++ (m ∷ [])) fund (some_member members m))
  where
    go : PassedLine n header rates members l ls fund → ((m : Member) → read_rows (suc n) header rates (members ++ (m ∷ [])) ls ≡ read fund → fund.rates ≡ rates) → fund.rates ≡ rates
    go (rate_line x s a b w) ih = absurd (true≢false (sym a ∙ k))
    go (member_line m s b w) ih = ih m w
    go (end_line c s b z w) ih = ap (λ (f : FundFile). f.rates) (sym w)

-- The row j of those that follow is left out.
rows_left_lem : (ls : List Line) (j n : ℕ) (header : Fund) (rates : List Rate) (fund : FundFile) → Rising rates → length rates + j < length fund.rates →
    read_rows n header rates [] ls ≡ read fund → read_rows n header rates [] (drop_at j ls) ≡ read (fewer (length rates + j) fund)
unfolding read_rows
rows_left_lem [] j n header rates fund k few e = absurd (never Form n fund e)
rows_left_lem (l ∷ ls) j n header rates fund k few e = go j few (passed_line n header rates [] l ls fund e) (λ i rs. rows_left_lem ls i (suc n) header rs fund)
  where
    go : (j : ℕ) → length rates + j < length fund.rates → PassedLine n header rates [] l ls fund →
        ((i : ℕ) (rs : List Rate) → Rising rs → length rs + i < length fund.rates → read_rows (suc n) header rs [] ls ≡ read fund → read_rows (suc n) header rs [] (drop_at i ls) ≡ read (fewer (length rs + i) fund)) →
        read_rows n header rates [] (drop_at j (l ∷ ls)) ≡ read (fewer (length rates + j) fund)
    go zero few (rate_line x s a b w) ih =
        let z : length rates ≡ length rates + 0 = omega arith in
        ap (λ rs. read_rows n header rs [] ls) (sym (append-nil rates))
        ∙ rows_fewer ls (suc n) n header rates [] x [] fund (rise_more rates x k b) w
        ∙ ap (λ i. read (fewer i fund)) z
    go (suc i) few (rate_line x s a b w) ih =
        let z : length (rates ++ (x ∷ [])) + i ≡ length rates + suc i = omega (arith, length-append rates (x ∷ [])) in
        on_rate n header rates [] l (drop_at i ls) x s a b ∙ ih i (rates ++ (x ∷ [])) (rise_more rates x k b) (omega (arith, z)) w ∙ ap (λ i. read (fewer i fund)) z
    go j few (member_line m s b w) ih = absurd (omega (arith, ap length (rows_rates ls (suc n) header rates (m ∷ []) fund (some_member [] m) w)))
    go j few (end_line c s b z w) ih = absurd (omega (arith, ap (λ (f : FundFile). length f.rates) w))

-- ---- the header
header_left : (hs : List HeaderLine) (j n : ℕ) (ns : List ℕ) (ls : List Line) (fund : FundFile) → j < length fund.rates →
    read_header file_rows hs n ns ls ≡ read fund → read_header file_rows hs n ns (drop_at (length hs + j) ls) ≡ read (fewer j fund)
unfolding read_header
header_left [] j n ns ls fund few e =
    let z : 0 + j ≡ j = omega arith in
    ap (λ k. read_rows n (header_of ns) [] [] (drop_at k ls)) z ∙ rows_left_lem ls j n (header_of ns) [] fund tt (omega arith) e ∙ ap (λ k. read (fewer k fund)) z
header_left (h ∷ hs) j n ns [] fund few e = absurd (never Form n fund e)
header_left (h ∷ hs) j n ns (l ∷ ls) fund few e =
    let z : suc (length hs) + j ≡ suc (length hs + j) = omega arith in
    ap (λ k. read_header file_rows (h ∷ hs) n ns (drop_at k (l ∷ ls))) z
    ∙ go (spelled h.key (length h.ranges) l) refl e (λ vs. header_left hs j (suc n) vs ls fund few)
  where
    go : (o : Option (List ℕ)) → spelled h.key (length h.ranges) l ≡ o → read_header file_rows (h ∷ hs) n ns (l ∷ ls) ≡ read fund →
        ((vs : List ℕ) → read_header file_rows hs (suc n) vs ls ≡ read fund → read_header file_rows hs (suc n) vs (drop_at (length hs + j) ls) ≡ read (fewer j fund)) →
        read_header file_rows (h ∷ hs) n ns (l ∷ drop_at (length hs + j) ls) ≡ read (fewer j fund)
    go None s w ih = absurd (never Form n fund (rw (s, read_header) at w))
    go (Some vs) s w ih =
        let h2 = pass (in_ranges h.ranges vs) Range n (read_header file_rows hs (suc n) (ns ++ vs) ls) fund (rw (s, read_header) at w) in
        rw (s, read_header) (rw h2.0 (ih (ns ++ vs) h2.1))

-- The rate lines stand behind the header lines.
pub read_without : (file : List ℕ) (fund : FundFile) (j : ℕ) → reading file ≡ read fund → j < length fund.rates →
    reading (without_line (length header_lines + j) file) ≡ read (fewer j fund)
read_without file fund j e few =
    reading_texts (without_line (length header_lines + j) file)
    ∙ ap (read_header file_rows header_lines 1 []) (texts_without (length header_lines + j) file)
    ∙ header_left header_lines j 1 [] (texts file) fund few (sym (reading_texts file) ∙ e)
