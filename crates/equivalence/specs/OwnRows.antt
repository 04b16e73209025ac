-- METHOD 3 (§2): "A file with all ages gives what it gave." Where every member's age has a row of its own, the rate in force is that row's
-- (own_in_force), and the answer is that of a search for the row of the age (as_before); so it is for every member of a table with a row for each age (every_age), as every table of
-- 121 rows is (all_rows).
use Rattle.std.specs.Prelude.{◌≡◌, Bool, true, false, List, [], ◌∷◌, map, ℕ, suc, ◌+◌, ◌≤◌, ◌<◌, eqb, leb, length, if◌then◌else◌, Err, None, Ok, Option, Some}
use Rattle.std.proofs.Math.Path.{refl, ap}
use Rattle.std.proofs.Common.{sym, ◌∙◌, subst, arith, eqb-true, leb-true, leb-false, le-leb}
use Rattle.std.proofs.lemmas.Bool.{eqb-false}
use Rattle.fund.specs.declared.Rate.{Rate}
use Rattle.fund.specs.declared.Member.{Member}
use Rattle.fund.specs.declared.Life.{Life}
use Rattle.fund.specs.declared.ModelPoint.{ModelPoint}
use Rattle.fund.specs.Verdict.{Verdict, refused_at}
use Rattle.fund.specs.Limits.{most_age, most_rates}
use Rattle.fund.specs.Reading.{FundFile, Reading, read, stopped, reading}
use Rattle.fund.specs.Folding.{held_until, rate_in_force, life, point, points, copies, lives}
use Rattle.fund.specs.Refusals.{first, unmatched, half_line, Lengths, first_member, matched, verdict}
use Rattle.fund.specs.Answer.{Answer, refused, accepted, answer_of, answer_to, answer}
use Rattle.laws.specs.Accepted.{All, all_map}
use Rattle.laws.specs.InForce.{Below, Rising, held_above, in_force_none}
use Rattle.laws.specs.Ranges.{RateOk, MemberOk, read_ranges}
use Rattle.equivalence.specs.SameRates.{alike_refl, point_at, AlikeFor, same_points, same_unmatched, verdict_for}

-- The first delivery's search: the row that has the age.
unfoldable pub own_row : List Rate → ℕ → Option Rate
own_row [] age = None
own_row (r ∷ rs) age = if eqb r.age age then Some r else own_row rs age

-- The answer of a call as the definitions give it, with the search of a member's rate left open: all that asks for a rate is here.
module _ (search : List Rate → ℕ → Option Rate) where
  abbrev pub points_by : FundFile → List ModelPoint
  points_by file = map (λ (m : Member). point_at (search file.rates m.age) m) file.members

  abbrev pub lives_by : FundFile → List Life
  lives_by file = copies (points_by file)

  abbrev pub unmatched_by : List Rate → Member → Bool
  unmatched_by rates m = elim (search rates m.age) [ None ↦ true | Some r ↦ false ]

  abbrev pub verdict_by : FundFile → Lengths → Verdict
  verdict_by file n =
      verdict_for file.header n (first (unmatched_by file.rates) (first_member file) file.members) (first half_line (first_member file) (points_by file)) (lives_by file)

  abbrev pub fund_answer_by : List ℕ → Lengths → FundFile → Verdict → Answer
  fund_answer_by file n fund (Ok tt) = accepted fund.header (lives_by fund) n
  fund_answer_by file n fund (Err stop) = refused file n (Err stop)

  abbrev pub answer_by : List ℕ → Lengths → Reading → Answer
  answer_by file n (read fund) = fund_answer_by file n fund (verdict_by fund n)
  answer_by file n (stopped why place) = refused file n (refused_at why place)

-- With the rate in force it is today's answer.
fund_answer_is : (file : List ℕ) (n : Lengths) (fund : FundFile) (v : Verdict) → answer_of file n fund v ≡ fund_answer_by rate_in_force file n fund v
unfolding answer_of lives points point life
fund_answer_is file n fund (Ok tt) = refl
fund_answer_is file n fund (Err stop) = refl

answer_by_lem : (file : List ℕ) (n : Lengths) (r : Reading) → answer_to file n r ≡ answer_by rate_in_force file n r
unfolding answer_to verdict matched unmatched lives points point life
answer_by_lem file n (read fund) = fund_answer_is file n fund _
answer_by_lem file n (stopped why place) = refl

pub answer_is : (file : List ℕ) (n : Lengths) → answer file n ≡ answer_by rate_in_force file n (reading file)
answer_is file n = answer_by_lem file n (reading file)

-- ---- one search and the other
-- the age has a row of its own, or every row is above it
abbrev pub OwnOrBelow : List Rate → ℕ → Type 0
OwnOrBelow rates age = own_row rates age ≡ None → Below age rates

own_all : (P : Rate → Type 0) (rates : List Rate) (age : ℕ) (r : Rate) → All P rates → own_row rates age ≡ Some r → P r × (r.age ≡ age)
unfolding own_row
own_all P [] age r k e = let z : ◌≡◌ {A = ℕ} 0 1 = cc in absurd (omega arith)
own_all P (s ∷ rs) age r k e = go (eqb s.age age) refl e (own_all P rs age r k.1)
  where
    go : (b : Bool) → eqb s.age age ≡ b → (if b then Some s else own_row rs age) ≡ Some r → (own_row rs age ≡ Some r → P r × (r.age ≡ age)) → P r × (r.age ≡ age)
    go true t h later = let z : s ≡ r = cc in subst (λ u. P u × (u.age ≡ age)) z (k.0, eqb-true s.age age t)
    go false t h later = later h

own_held : (held : Option Rate) (rates : List Rate) (age : ℕ) (r : Rate) → Rising rates → own_row rates age ≡ Some r → held_until held rates age ≡ Some r
unfolding own_row held_until
own_held held [] age r k e = let z : ◌≡◌ {A = ℕ} 0 1 = cc in absurd (omega arith)
own_held held (s ∷ rs) age r k e = go (eqb s.age age) refl e (own_held (Some s) rs age r k.1)
  where
    go : (b : Bool) → eqb s.age age ≡ b → (if b then Some s else own_row rs age) ≡ Some r → (own_row rs age ≡ Some r → held_until (Some s) rs age ≡ Some r) → held_until held (s ∷ rs) age ≡ Some r
    go true t h later =
        let same : s.age ≡ age = eqb-true s.age age t in
        let above : Below age rs = all_map (λ u g. omega arith) rs k.0 in
        rw (le-leb s.age age (omega arith)) (held_above (Some s) [] rs age above ∙ h)
    go false t h later =
        let own = own_all (λ (u : Rate). s.age < u.age) rs age r k.0 h in
        rw (le-leb s.age age (omega (arith, own.0, own.1))) (later h)

pub own_in_force : (rates : List Rate) (age : ℕ) (r : Rate) → Rising rates → own_row rates age ≡ Some r → rate_in_force rates age ≡ Some r
unfolding rate_in_force
own_in_force rates age r k e = own_held None rates age r k e

same_rate : (rates : List Rate) (age : ℕ) → Rising rates → OwnOrBelow rates age → rate_in_force rates age ≡ own_row rates age
same_rate rates age k h = go (own_row rates age) refl
  where
    go : (o : Option Rate) → own_row rates age ≡ o → rate_in_force rates age ≡ own_row rates age
    go None e = in_force_none rates age (h e) ∙ sym e
    go (Some r) e = own_in_force rates age r k e ∙ sym e

-- ---- as many rows as ages
abbrev Aged : ℕ → Rate → Type 0
Aged least r = (least ≤ r.age) × (r.age ≤ most_age)

aged_behind : (least age : ℕ) (rs : List Rate) → Below age rs → All (Aged least) rs → All (Aged (suc age)) rs
aged_behind least age [] k h = tt
aged_behind least age (r ∷ rs) k h = ((k.0, h.0.1), aged_behind least age rs k.1 h.1)

-- rows whose ages rise, from a least age to 120, are at most as many as these ages
few_rows : (rates : List Rate) (least : ℕ) → Rising rates → All (Aged least) rates → least ≤ suc most_age → length rates + least ≤ suc most_age
few_rows [] least k h l = omega arith
few_rows (r ∷ rs) least k h l = let rest = few_rows rs (suc r.age) k.1 (aged_behind least r.age rs k.0 h.1) (omega (arith, h.0.1)) in omega (arith, rest, h.0.0)

-- and where they are as many, each of these ages has a row
own_each : (rates : List Rate) (least : ℕ) → Rising rates → All (Aged least) rates → length rates + least ≡ suc most_age → (age : ℕ) → least ≤ age → age ≤ most_age → own_row rates age ≡ None → ⊥
unfolding own_row
own_each [] least k h full age l m e = omega arith
own_each (r ∷ rs) least k h full age l m e = go (eqb r.age age) refl e (λ later f. own_each rs (suc r.age) k.1 behind (omega (arith, full, here)) age later m f)
  where
    behind : All (Aged (suc r.age)) rs
    behind = aged_behind least r.age rs k.0 h.1

    here : r.age ≡ least
    here = let few = few_rows rs (suc r.age) k.1 behind (omega (arith, h.0.1)) in omega (arith, few, full, h.0.0)

    above : eqb r.age age ≡ false → (b : Bool) → leb age r.age ≡ b → suc r.age ≤ age
    above t true u = absurd (eqb-false r.age age t (omega (arith, leb-true age r.age u, here, l)))
    above t false u = leb-false age r.age u

    go : (b : Bool) → eqb r.age age ≡ b → (if b then Some r else own_row rs age) ≡ None → (suc r.age ≤ age → own_row rs age ≡ None → ⊥) → ⊥
    go true t f rest = let z : ◌≡◌ {A = ℕ} 0 1 = cc in omega arith
    go false t f rest = rest (above t (leb age r.age) refl) f

-- ---- the answer
module _ (file : List ℕ) (fund : FundFile) (is : reading file ≡ read fund) where
  rise : Rising fund.rates
  rise = (read_ranges file fund is).rows.rates_rise

  module _ (own : All (λ (m : Member). OwnOrBelow fund.rates m.age) fund.members) where
    alike : AlikeFor (rate_in_force fund.rates) (own_row fund.rates) fund.members
    alike = go fund.members own
      where
        go : (ms : List Member) → All (λ (m : Member). OwnOrBelow fund.rates m.age) ms → AlikeFor (rate_in_force fund.rates) (own_row fund.rates) ms
        go [] k = tt
        go (m ∷ ms) k = (rw (same_rate fund.rates m.age rise k.0) (alike_refl (own_row fund.rates m.age)), go ms k.1)

    points_as_before : points fund ≡ points_by own_row fund
    unfolding points point life
    points_as_before = same_points (rate_in_force fund.rates) (own_row fund.rates) fund.members alike

    pub lives_as_before : lives fund ≡ lives_by own_row fund
    unfolding lives
    lives_as_before = ap copies points_as_before

    verdict_as_before : (n : Lengths) → verdict_by rate_in_force fund n ≡ verdict_by own_row fund n
    unfolding points point life
    verdict_as_before n =
        ap (λ o. verdict_for fund.header n o (first half_line (first_member fund) (points fund)) (copies (points fund)))
        (same_unmatched (rate_in_force fund.rates) (own_row fund.rates) fund.members alike (first_member fund))
        ∙ ap (λ ps. verdict_for fund.header n (first (unmatched_by own_row fund.rates) (first_member fund) fund.members) (first half_line (first_member fund) ps) (copies ps)) points_as_before

    by_verdict : (n : Lengths) (v : Verdict) → fund_answer_by rate_in_force file n fund v ≡ fund_answer_by own_row file n fund v
    unfolding lives points point life
    by_verdict n (Ok tt) = ap (λ ms. accepted fund.header ms n) lives_as_before
    by_verdict n (Err stop) = refl

    pub as_before : (n : Lengths) → answer file n ≡ answer_by own_row file n (reading file)
    as_before n =
        answer_is file n
        ∙ ap (answer_by rate_in_force file n) is
        ∙ by_verdict n (verdict_by rate_in_force fund n)
        ∙ ap (fund_answer_by own_row file n fund) (verdict_as_before n)
        ∙ ap (answer_by own_row file n) (sym is)

  -- a table with a row for each age from its first to 120
  pub every_age : ((age : ℕ) → age ≤ most_age → OwnOrBelow fund.rates age) → (n : Lengths) → answer file n ≡ answer_by own_row file n (reading file)
  every_age own n = as_before (all_map (λ (m : Member) (ok : MemberOk m). own m.age ok.age) fund.members (read_ranges file fund is).rows.members) n

  -- a table of 121 rows has one for each age
  pub all_rows : length fund.rates ≡ most_rates → (n : Lengths) → answer file n ≡ answer_by own_row file n (reading file)
  all_rows full n = every_age (λ age l e. absurd (own_each fund.rates 0 rise aged (omega (arith, full)) age (omega arith) l e)) n
    where
      aged : All (Aged 0) fund.rates
      aged = all_map (λ (r : Rate) (ok : RateOk r). (omega arith, ok.age)) fund.rates (read_ranges file fund is).rows.rates
