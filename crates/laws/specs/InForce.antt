-- The rate in force: it is one of the rows (in_force_all); behind rows that are not above the age a row holds from its age until the next
-- row's (row_holds), so that where ages rise the last row that is not above the age is in force (last_holds); there is none, and a member is
-- unmatched, just in an empty table and for an age below the first row (unmatched_just).
use Rattle.std.specs.Prelude.{◌≡◌, refl, Bool, true, false, List, [], ◌∷◌, ◌++◌, ℕ, ◌≤◌, ◌<◌, leb, if◌then◌else◌, None, Option, Some}
use Rattle.std.proofs.Common.{◌∙◌, ap, subst, arith, le-leb, leb-false}
use Rattle.std.proofs.lemmas.Bool.{lt-leb}
use Rattle.fund.specs.declared.Rate.{Rate}
use Rattle.fund.specs.declared.Member.{Member}
use Rattle.fund.specs.Folding.{held_until, rate_in_force}
use Rattle.fund.specs.Refusals.{unmatched}
use Rattle.laws.specs.Accepted.{All, all_map}
use Rattle.laws.specs.Tells.{Tells}

-- an age is below every row's, or not below any
abbrev pub Below : ℕ → List Rate → Type 0
Below age rs = All (λ (r : Rate). age < r.age) rs

abbrev pub NotAbove : List Rate → ℕ → Type 0
NotAbove rs age = All (λ (r : Rate). r.age ≤ age) rs

-- each age is below those of all later rows
abbrev pub Rising : List Rate → Type 0
Rising [] = Unit {0}
Rising (r ∷ rs) = Below r.age rs × Rising rs

-- ---- one of the rows
held_all : (P : Rate → Type 0) (held : Option Rate) (rs : List Rate) (age : ℕ) (r : Rate) → (held ≡ Some r → P r) → All P rs → held_until held rs age ≡ Some r → P r
unfolding held_until
held_all P held [] age r h k e = h e
held_all P held (s ∷ rs) age r h k e = go (leb s.age age) e (held_all P (Some s) rs age r here k.1)
  where
    here : Some s ≡ Some r → P r
    here q = let z : s ≡ r = cc in subst P z k.0

    go : (b : Bool) → (if b then held_until (Some s) rs age else held) ≡ Some r → (held_until (Some s) rs age ≡ Some r → P r) → P r
    go true w later = later w
    go false w later = h w

pub in_force_all : (P : Rate → Type 0) (rs : List Rate) (age : ℕ) (r : Rate) → All P rs → rate_in_force rs age ≡ Some r → P r
unfolding rate_in_force
in_force_all P rs age r k e = held_all P None rs age r (λ q. let z : ◌≡◌ {A = ℕ} 0 1 = cc in absurd (omega arith)) k e

-- ---- rows above the age, and rows that are not
pub held_above : (held : Option Rate) (before after : List Rate) (age : ℕ) → Below age after → held_until held (before ++ after) age ≡ held_until held before age
unfolding held_until
held_above held [] [] age k = refl
held_above held [] (r ∷ after) age k = rw (lt-leb r.age age k.0)
held_above held (r ∷ before) after age k = ap (λ o. if leb r.age age then o else held) (held_above (Some r) before after age k)

abbrev pub last_or : Option Rate → List Rate → Option Rate
last_or held [] = held
last_or held (r ∷ rs) = last_or (Some r) rs

pub held_through : (held : Option Rate) (before after : List Rate) (age : ℕ) → NotAbove before age → held_until held (before ++ after) age ≡ held_until (last_or held before) after age
unfolding held_until
held_through held [] after age k = refl
held_through held (r ∷ before) after age k = rw (le-leb r.age age k.0) (held_through (Some r) before after age k.1)

-- ---- a row holds from its age until the next row's
pub row_holds : (before after : List Rate) (r : Rate) (age : ℕ) → NotAbove before age → r.age ≤ age → Below age after → rate_in_force (before ++ (r ∷ after)) age ≡ Some r
unfolding rate_in_force held_until
row_holds before after r age b h k =
    held_through None before (r ∷ after) age b ∙ rw (le-leb r.age age h) (held_above (Some r) [] after age k)

all_middle : (P : Rate → Type 0) (before after : List Rate) (r : Rate) → All P (before ++ (r ∷ after)) → P r
all_middle P [] after r k = k.0
all_middle P (s ∷ before) after r k = all_middle P before after r k.1

-- where ages rise, the rows before a row are below it
pub before_below : (before after : List Rate) (r : Rate) → Rising (before ++ (r ∷ after)) → All (λ (s : Rate). s.age < r.age) before
before_below [] after r k = tt
before_below (s ∷ before) after r k = (all_middle (λ (t : Rate). s.age < t.age) before after r k.0, before_below before after r k.1)

-- so in a file the last row that is not above an age is in force
pub last_holds : (before after : List Rate) (r : Rate) (age : ℕ) → Rising (before ++ (r ∷ after)) → r.age ≤ age → Below age after → rate_in_force (before ++ (r ∷ after)) age ≡ Some r
last_holds before after r age k h above = row_holds before after r age (all_map (λ s below. omega arith) before (before_below before after r k)) h above

-- ---- none
pub in_force_none : (rs : List Rate) (age : ℕ) → Below age rs → rate_in_force rs age ≡ None
unfolding rate_in_force held_until
in_force_none rs age k = held_above None [] rs age k

-- 5: the table is empty, or the age is below the first row
abbrev pub BelowFirst : ℕ → List Rate → Type 0
BelowFirst age [] = Unit {0}
BelowFirst age (r ∷ rs) = age < r.age

some_held : (r : Rate) (rs : List Rate) (age : ℕ) → held_until (Some r) rs age ≡ None → ⊥
unfolding held_until
some_held r [] age e = let z : ◌≡◌ {A = ℕ} 0 1 = cc in omega arith
some_held r (s ∷ rs) age e = go (leb s.age age) e (some_held s rs age)
  where
    go : (b : Bool) → (if b then held_until (Some s) rs age else Some r) ≡ None → (held_until (Some s) rs age ≡ None → ⊥) → ⊥
    go true w later = later w
    go false w later = let z : ◌≡◌ {A = ℕ} 0 1 = cc in omega arith

none_below_first : (rs : List Rate) (age : ℕ) → rate_in_force rs age ≡ None → BelowFirst age rs
unfolding rate_in_force held_until
none_below_first [] age e = tt
none_below_first (r ∷ rs) age e = go (leb r.age age) refl e
  where
    go : (b : Bool) → leb r.age age ≡ b → (if b then held_until (Some r) rs age else None) ≡ None → age < r.age
    go true h w = absurd (some_held r rs age w)
    go false h w = leb-false r.age age h

below_first_none : (rs : List Rate) (age : ℕ) → BelowFirst age rs → rate_in_force rs age ≡ None
unfolding rate_in_force held_until
below_first_none [] age k = refl
below_first_none (r ∷ rs) age k = rw (lt-leb r.age age k)

pub unmatched_just : (rs : List Rate) (m : Member) → Tells (unmatched rs m) (BelowFirst m.age rs)
unfolding unmatched
unmatched_just rs m = record { yes = λ e. go (rate_in_force rs m.age) refl e; no = λ k. rw (below_first_none rs m.age k, unmatched) }
  where
    go : (o : Option Rate) → rate_in_force rs m.age ≡ o → elim o [ None ↦ true | Some r ↦ false ] ≡ true → BelowFirst m.age rs
    go None h w = none_below_first rs m.age h
    go (Some r) h w = let z : ◌≡◌ {A = ℕ} 0 1 = cc in absurd (omega arith)
