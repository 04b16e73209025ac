-- What holds of every fund that is read: the header's figures are in their ranges, and so are all rate rows and member rows and
-- their numbers; the ages of the rate rows rise (read_ranges).
use Rattle.std.specs.Prelude.{◌≡◌, Bool, true, false, ◌&&◌, ℕ, zero, suc, ◌+◌, ◌≤◌, ◌<◌, eqb, leb, ltb, length, get_or, if◌then◌else◌, None, Option, Some}
use Rattle.std.proofs.Math.Path.{refl, subst}
use Rattle.std.proofs.Common.{sym, ◌∙◌, ap, arith, ltb-true, leb-true, eqb-true, length-append}
use mathlib.Core.List.{List, [], ◌∷◌, ◌++◌, map, append-nil, append_assoc}
use Rattle.std.proofs.lemmas.List.{length-map}
use Rattle.fund.specs.declared.Fund.{Fund}
use Rattle.fund.specs.declared.Frequencies.{Frequencies}
use Rattle.fund.specs.declared.Rate.{Rate}
use Rattle.fund.specs.declared.Member.{Member}
use Rattle.fund.specs.declared.Refusal.TheVariants.{Form, Range}
use Rattle.fund.specs.Limits.{least_edition, most_edition, most_horizon, least_order, most_order, most_frequency, most_deductible, least_worth, most_worth, most_rates, most_age, most_rate, most_members, least_group, most_group, most_amount, least_lives, most_lives}
use Rattle.fund.specs.Base.{total}
use Rattle.fund.specs.Lines.{Line, lines}
use Rattle.fund.specs.Spelling.{value, fields, all_numbers, numbers, behind, spelled}
use Rattle.fund.specs.Reading.{FundFile, Reading, read, between, NumberRange, in_ranges, HeaderLine, header_lines, header_of, rising, rate_in_range, lives_in_all, member_in_range, read_rows, read_header, reading, file_rows}
use Rattle.laws.specs.Accepted.{All}
use Rattle.laws.specs.InForce.{Rising}
use Rattle.laws.specs.PassedLines.{never, pass, PassedLine, rate_line, member_line, end_line, passed_line}

pub record RateOk (r : Rate) : Type 0 where
  pub age : r.age ≤ most_age
  pub q : r.q ≤ most_rate
  pub i : r.i ≤ most_rate
  pub both : r.q + r.i ≤ most_rate

pub record MemberOk (m : Member) : Type 0 where
  pub age : m.age ≤ most_age
  pub group_least : least_group ≤ m.group
  pub group_most : m.group ≤ most_group
  pub d : m.d ≤ most_amount
  pub e : m.e ≤ most_amount
  pub lives_least : least_lives ≤ m.lives
  pub lives_most : m.lives ≤ most_lives

pub record RowsOk (rs : List Rate) (ms : List Member) : Type 0 where
  pub rates : All RateOk rs
  pub rates_rise : Rising rs
  pub members : All MemberOk ms
  pub few_rates : length rs ≤ most_rates
  pub few_members : length ms ≤ most_members
  pub few_lives : lives_in_all ms ≤ most_lives

-- ---- tests
pub and-true : (a b : Bool) → a && b ≡ true → (a ≡ true) × (b ≡ true)
and-true true b e = (refl, e)
and-true false b e = let z : ◌≡◌ {A = ℕ} 0 1 = ap (λ c. elim c [ true ↦ 1 | false ↦ 0 ]) e in absurd (omega arith)

pub between_true : (least most n : ℕ) → between least most n ≡ true → (least ≤ n) × (n ≤ most)
unfolding between
between_true least most n e = let h = and-true (leb least n) (leb n most) e in (leb-true least n h.0, leb-true n most h.1)

all_snoc : {A : Type 0} (P : A → Type 0) (l : List A) (a : A) → All P l → P a → All P (l ++ (a ∷ []))
all_snoc P [] a h k = (k, tt)
all_snoc P (b ∷ l) a h k = (h.0, all_snoc P l a h.1 k)

-- above the row before, and so above all rows before
pub above_all : (before : List Rate) (age : ℕ) → Rising before → rising before age ≡ true → All (λ (s : Rate). s.age < age) before
unfolding rising
above_all [] age k e = tt
above_all (r ∷ []) age k e = (ltb-true r.age age e, tt)
above_all (r ∷ s ∷ rs) age k e =
    let later = above_all (s ∷ rs) age k.1 e in
    (omega (arith, k.0.0, later.0), later)

rising_more : (rs : List Rate) (r : Rate) → Rising rs → All (λ (s : Rate). s.age < r.age) rs → Rising (rs ++ (r ∷ []))
rising_more [] r k h = (tt, tt)
rising_more (s ∷ rs) r k h = (all_snoc (λ t. s.age < t.age) rs r k.0 h.0, rising_more rs r k.1 h.1)

pub rate_ok : (before : List Rate) (r : Rate) → rate_in_range before r ≡ true → (length before < most_rates) × ((rising before r.age ≡ true) × RateOk r)
unfolding rate_in_range
rate_ok before r e =
    let h5 = and-true _ (leb (r.q + r.i) most_rate) e in
    let h4 = and-true _ (leb r.i most_rate) h5.0 in
    let h3 = and-true _ (leb r.q most_rate) h4.0 in
    let h2 = and-true _ (rising before r.age) h3.0 in
    let h1 = and-true (ltb (length before) most_rates) (leb r.age most_age) h2.0 in (
      ltb-true _ _ h1.0,
      (h2.1, record { age = leb-true _ _ h1.1; q = leb-true _ _ h3.1; i = leb-true _ _ h4.1; both = leb-true _ _ h5.1 }),
    )

pub rise_more : (rs : List Rate) (r : Rate) → Rising rs → rate_in_range rs r ≡ true → Rising (rs ++ (r ∷ []))
rise_more rs r k e = rising_more rs r k (above_all rs r.age k (rate_ok rs r e).1.0)

-- one line more
pub lives_more : (ms : List Member) (m : Member) → lives_in_all (ms ++ (m ∷ [])) ≡ lives_in_all ms + m.lives
unfolding lives_in_all total
lives_more [] m = omega arith
lives_more (l ∷ ms) m = omega (arith, lives_more ms m)

pub member_ok : (before : List Member) (m : Member) → member_in_range before m ≡ true → (length before < most_members) × ((lives_in_all before + m.lives ≤ most_lives) × MemberOk m)
unfolding member_in_range
member_ok before m e =
    let h6 = and-true _ (leb (lives_in_all before + m.lives) most_lives) e in
    let h5 = and-true _ (between least_lives most_lives m.lives) h6.0 in
    let h4 = and-true _ (leb m.e most_amount) h5.0 in
    let h3 = and-true _ (leb m.d most_amount) h4.0 in
    let h2 = and-true _ (between least_group most_group m.group) h3.0 in
    let h1 = and-true (ltb (length before) most_members) (leb m.age most_age) h2.0 in
    let g = between_true least_group most_group m.group h2.1 in
    let l = between_true least_lives most_lives m.lives h5.1 in (
      ltb-true _ _ h1.0,
      (leb-true _ _ h6.1, record { age = leb-true _ _ h1.1; group_least = g.0; group_most = g.1; d = leb-true _ _ h3.1; e = leb-true _ _ h4.1; lives_least = l.0; lives_most = l.1 }),
    )

-- ---- the rows
pub record Reads (header : Fund) (fund : FundFile) : Type 0 where
  pub header_is : fund.header ≡ header
  pub rows : RowsOk fund.rates fund.members

pub more_rates : (rates : List Rate) (members : List Member) (r : Rate) → RowsOk rates members → rate_in_range rates r ≡ true → RowsOk (rates ++ (r ∷ [])) members
more_rates rates members r k e =
    let h = rate_ok rates r e in
    let l : length rates < most_rates = h.0 in
    record {
      rates = all_snoc RateOk rates r k.rates h.1.1;
      rates_rise = rise_more rates r k.rates_rise e;
      members = k.members;
      few_rates = omega (arith, length-append rates (r ∷ []));
      few_members = k.few_members;
      few_lives = k.few_lives;
    }

pub more_members : (rates : List Rate) (members : List Member) (m : Member) → RowsOk rates members → member_in_range members m ≡ true → RowsOk rates (members ++ (m ∷ []))
more_members rates members m k e =
    let h = member_ok members m e in
    let l : length members < most_members = h.0 in
    record {
      rates = k.rates;
      rates_rise = k.rates_rise;
      members = all_snoc MemberOk members m k.members h.1.1;
      few_rates = k.few_rates;
      few_members = omega (arith, length-append members (m ∷ []));
      few_lives = omega (arith, lives_more members m, h.1.0);
    }

pub rows_ranges : (ls : List Line) (n : ℕ) (header : Fund) (rates : List Rate) (members : List Member) (fund : FundFile) → RowsOk rates members →
    read_rows n header rates members ls ≡ read fund → Reads header fund
unfolding read_rows
rows_ranges [] n header rates members fund k e = absurd (never Form n fund e)
rows_ranges (l ∷ ls) n header rates members fund k e = go (passed_line n header rates members l ls fund e) (λ rs ms. rows_ranges ls (suc n) header rs ms fund)
  where
    go : PassedLine n header rates members l ls fund → ((rs : List Rate) (ms : List Member) → RowsOk rs ms → read_rows (suc n) header rs ms ls ≡ read fund → Reads header fund) → Reads header fund
    go (rate_line r s a b w) ih = ih (rates ++ (r ∷ [])) members (more_rates rates members r k b) w
    go (member_line m s b w) ih = ih rates (members ++ (m ∷ [])) (more_members rates members m k b) w
    go (end_line c s b z w) ih = subst (λ f. Reads header f) w (record { header_is = refl; rows = k })

-- ---- the header
numbers_length : (count : ℕ) (text v : List ℕ) → numbers count text ≡ Some v → length v ≡ count
unfolding numbers
numbers_length count text v e = go (eqb (length (fields text)) count) refl (all_numbers (fields text)) e
  where
    go : (b : Bool) → eqb (length (fields text)) count ≡ b → (c : Bool) → (if b && c then Some (map value (fields text)) else None) ≡ Some v → length v ≡ count
    go true s true h =
        let z : map value (fields text) ≡ v = cc in
        ap length (sym z) ∙ length-map (fields text) value ∙ eqb-true (length (fields text)) count s
    go true s false h = let z : ◌≡◌ {A = ℕ} 0 1 = cc in absurd (omega arith)
    go false s c h = let z : ◌≡◌ {A = ℕ} 0 1 = cc in absurd (omega arith)

pub spelled_length : (key : List ℕ) (count : ℕ) (l : Line) (v : List ℕ) → spelled key count l ≡ Some v → length v ≡ count
unfolding spelled
spelled_length key count l v e = go l.ended e
  where
    none_some : None ≡ Some v → length v ≡ count
    none_some h = let z : ◌≡◌ {A = ℕ} 0 1 = cc in absurd (omega arith)

    text : (o : Option (List ℕ)) → elim o [ None ↦ None | Some t ↦ numbers count t ] ≡ Some v → length v ≡ count
    text None h = none_some h
    text (Some t) h = numbers_length count t v h

    go : (b : Bool) → elim b [ true ↦ elim (behind key l.text) [ None ↦ None | Some t ↦ numbers count t ] | false ↦ None ] ≡ Some v → length v ≡ count
    go true h = text (behind key l.text) h
    go false h = none_some h

-- numbers in their ranges
abbrev pub InRanges : List NumberRange → List ℕ → Type 0
InRanges [] [] = Unit {0}
InRanges [] (v ∷ vs) = ⊥
InRanges (r ∷ rs) [] = ⊥
InRanges (r ∷ rs) (v ∷ vs) = ((r.least ≤ v) × (v ≤ r.most)) × InRanges rs vs

in_ranges_lem : (rs : List NumberRange) (vs : List ℕ) → in_ranges rs vs ≡ true → InRanges rs vs
unfolding in_ranges
in_ranges_lem [] [] e = tt
in_ranges_lem [] (v ∷ vs) e = let z : ◌≡◌ {A = ℕ} 0 1 = cc in absurd (omega arith)
in_ranges_lem (r ∷ rs) [] e = let z : ◌≡◌ {A = ℕ} 0 1 = cc in absurd (omega arith)
in_ranges_lem (r ∷ rs) (v ∷ vs) e =
    let h = and-true (between r.least r.most v) (in_ranges rs vs) e in
    (between_true r.least r.most v h.0, in_ranges_lem rs vs h.1)

in_ranges_append : (rs ss : List NumberRange) (vs ws : List ℕ) → InRanges rs vs → InRanges ss ws → InRanges (rs ++ ss) (vs ++ ws)
in_ranges_append [] ss [] ws h k = k
in_ranges_append [] ss (v ∷ vs) ws h k = absurd h
in_ranges_append (r ∷ rs) ss [] ws h k = absurd h
in_ranges_append (r ∷ rs) ss (v ∷ vs) ws h k = (h.0, in_ranges_append rs ss vs ws h.1 k)

-- each number is in its own range; behind the last, 0 is from 0 to 0
abbrev no_range : NumberRange
no_range = record { least = 0; most = 0 }

in_range_at : (rs : List NumberRange) (vs : List ℕ) (k : ℕ) → InRanges rs vs → ((get_or rs k no_range).least ≤ get_or vs k 0) × (get_or vs k 0 ≤ (get_or rs k no_range).most)
in_range_at [] [] k h = (omega arith, omega arith)
in_range_at [] (v ∷ vs) k h = absurd h
in_range_at (r ∷ rs) [] k h = absurd h
in_range_at (r ∷ rs) (v ∷ vs) zero h = h.0
in_range_at (r ∷ rs) (v ∷ vs) (suc k) h = in_range_at rs vs k h.1

-- the ranges of header lines, one after the other
abbrev pub ranges_of : List HeaderLine → List NumberRange
ranges_of [] = []
ranges_of (h ∷ hs) = h.ranges ++ ranges_of hs

pub record ReadsHeader (hs : List HeaderLine) (ns : List ℕ) (fund : FundFile) : Type 0 where
  pub values : List ℕ
  pub values_within : InRanges (ranges_of hs) values
  pub reads : Reads (header_of (ns ++ values)) fund

-- what follows the header reads a fund with this header, and rows in their ranges
module _ (after : ℕ → Fund → List Line → Reading) (fund : FundFile) (behind : (n : ℕ) (header : Fund) (ls : List Line) → after n header ls ≡ read fund → Reads header fund) where
  header_ranges : (hs : List HeaderLine) (n : ℕ) (ns : List ℕ) (ls : List Line) → read_header after hs n ns ls ≡ read fund → ReadsHeader hs ns fund
  unfolding read_header
  header_ranges [] n ns ls e = record { values = []; values_within = tt; reads = rw append-nil (behind n (header_of ns) ls e) }
  header_ranges (h ∷ hs) n ns [] e = absurd (never Form n fund e)
  header_ranges (h ∷ hs) n ns (l ∷ ls) e = go (spelled h.key (length h.ranges) l) refl e (λ ms. header_ranges hs (suc n) ms ls)
    where
      go : (o : Option (List ℕ)) → spelled h.key (length h.ranges) l ≡ o → read_header after (h ∷ hs) n ns (l ∷ ls) ≡ read fund →
          ((ms : List ℕ) → read_header after hs (suc n) ms ls ≡ read fund → ReadsHeader hs ms fund) → ReadsHeader (h ∷ hs) ns fund
      go None s k ih = absurd (never Form n fund (rw (s, read_header) at k))
      go (Some vs) s k ih =
          let h2 = pass (in_ranges h.ranges vs) Range n (read_header after hs (suc n) (ns ++ vs) ls) fund (rw (s, read_header) at k) in
          let r = ih (ns ++ vs) h2.1 in
          record {
            values = vs ++ r.values;
            values_within = in_ranges_append h.ranges (ranges_of hs) vs r.values (in_ranges_lem h.ranges vs h2.0) r.values_within;
            reads = subst (λ ms. Reads (header_of ms) fund) (append_assoc ns vs r.values) r.reads;
          }

pub record FrequenciesOk (ab : Frequencies) : Type 0 where
  pub death : ab.death ≤ most_frequency
  pub disability : ab.disability ≤ most_frequency

pub record HeaderOk (f : Fund) : Type 0 where
  pub rates_least : least_edition ≤ f.rates
  pub rates_most : f.rates ≤ most_edition
  pub members_least : least_edition ≤ f.members
  pub members_most : f.members ≤ most_edition
  pub horizon : f.horizon ≤ most_horizon
  pub order_least : least_order ≤ f.order
  pub order_most : f.order ≤ most_order
  pub frequency : FrequenciesOk f.frequency
  pub deductible : f.deductible ≤ most_deductible
  pub worth_least : least_worth ≤ f.worth
  pub worth_most : f.worth ≤ most_worth

pub record FundOk (fund : FundFile) : Type 0 where
  pub header : HeaderOk fund.header
  pub rows : RowsOk fund.rates fund.members

header_ok : (vs : List ℕ) → InRanges (ranges_of header_lines) vs → HeaderOk (header_of vs)
unfolding header_lines header_of
header_ok vs w =
    let at = in_range_at (ranges_of header_lines) vs in
    record {
      rates_least = (at 0 w).0;
      rates_most = (at 0 w).1;
      members_least = (at 1 w).0;
      members_most = (at 1 w).1;
      horizon = (at 2 w).1;
      order_least = (at 3 w).0;
      order_most = (at 3 w).1;
      frequency = record { death = (at 4 w).1; disability = (at 5 w).1 };
      deductible = (at 6 w).1;
      worth_least = (at 7 w).0;
      worth_most = (at 7 w).1;
    }

pub no_rows : RowsOk [] []
unfolding lives_in_all total
no_rows = record { rates = tt; rates_rise = tt; members = tt; few_rates = omega arith; few_members = omega arith; few_lives = omega arith }

pub text_ranges : (after : ℕ → Fund → List Line → Reading) (text : List ℕ) (fund : FundFile) → ((n : ℕ) (header : Fund) (ls : List Line) → after n header ls ≡ read fund → Reads header fund) →
    read_header after header_lines 1 [] (lines text) ≡ read fund → FundOk fund
text_ranges after text fund behind e =
    let r = header_ranges after fund behind header_lines 1 [] (lines text) e in
    record { header = subst (λ f. HeaderOk f) (sym r.reads.header_is) (header_ok r.values r.values_within); rows = r.reads.rows }

pub read_ranges : (file : List ℕ) (fund : FundFile) → reading file ≡ read fund → FundOk fund
unfolding reading
read_ranges file fund e = text_ranges file_rows file fund (λ n header ls. rows_ranges ls n header [] [] fund no_rows) e
