-- The range of a row by the counts of the rows before, the least age and the lives so far: the tests are the definition's.
use mathlib.Core.Path.{◌≡◌, refl, sym, ◌∙◌}
use mathlib.Core.Bool.{Bool, true, false}
use Rattle.std.specs.Prelude.{Ok, Err}
use Rattle.fund.specs.declared.Refused.{Refused}
use Rattle.fund.specs.declared.Refusal.TheVariants.{Range}
use mathlib.Core.List.{List, [], ◌∷◌, ◌++◌}
use Prim.Native.Nat.{ℕ, suc}
use native.Mathlib.Omega.{arith}
use borrow.Author.Tests.{le-leb}
use lib.Dec.{leb}
use lib.ListN.{length}
use Rattle.fund.specs.declared.Rate.{Rate}
use Rattle.fund.specs.declared.Member.{Member}
use Rattle.fund.specs.Reading.{rising, rate_in_range, lives_in_all, member_in_range}
use Rattle.rows.specs.Rows.{least_age, rate_fits, member_fits, in_range_or, rates_with, members_with}

-- The age before is the last row's.
rising_least : (rs : List Rate) (age : ℕ) → rising rs age ≡ leb (least_age rs) age
unfolding rising least_age
rising_least [] age = sym (le-leb 0 age (omega arith))
rising_least (r ∷ []) age = refl
rising_least (r ∷ s ∷ rs) age = rising_least (s ∷ rs) age

pub least_last : (rs : List Rate) (r : Rate) → least_age (rs ++ (r ∷ [])) ≡ suc r.age
unfolding least_age
least_last [] r = refl
least_last (x ∷ []) r = refl
least_last (x ∷ y ∷ rs) r = least_last (y ∷ rs) r

pub rate_fits_lem : (rs : List Rate) (r : Rate) → rate_fits (length rs) (least_age rs) r ≡ rate_in_range rs r
unfolding rate_in_range rate_fits
rate_fits_lem rs r = rw (rising_least rs r.age)

pub member_fits_lem : (ms : List Member) (m : Member) → member_fits (length ms) (lives_in_all ms) m ≡ member_in_range ms m
unfolding member_in_range member_fits
member_fits_lem ms m = refl

-- The test of the counts is the definition's.
pub rate_tested : (rs : List Rate) (r : Rate) {n least : ℕ} {b : Bool} → n ≡ length rs → least_age rs ≡ least → b ≡ rate_fits n least r → rate_in_range rs r ≡ b
rate_tested rs r n least e = sym (rate_fits_lem rs r) ∙ rw (sym n, least) (sym e)

pub member_tested : (ms : List Member) (m : Member) {n lives : ℕ} {b : Bool} → n ≡ length ms → lives_in_all ms ≡ lives → b ≡ member_fits n lives m → member_in_range ms m ≡ b
member_tested ms m n lives e = sym (member_fits_lem ms m) ∙ rw (sym n, lives) (sym e)

-- ---- what an answer says of the test
pub out_of_range : (b : Bool) (line : ℕ) {stop : Refused} → in_range_or b line ≡ Err stop → (b ≡ false) × (stop ≡ record { why = Range; place = line })
out_of_range true line e = cc
out_of_range false line e = (refl, cc)

pub is_in_range : (b : Bool) (line : ℕ) {u : Unit {0}} → in_range_or b line ≡ Ok u → b ≡ true
is_in_range true line e = refl
is_in_range false line e = cc

pub rates_more : (rs : List Rate) (r : Rate) → rate_in_range rs r ≡ true → rates_with rs r ≡ rs ++ (r ∷ [])
rates_more rs r e = rw e

pub members_more : (ms : List Member) (m : Member) → member_in_range ms m ≡ true → members_with ms m ≡ ms ++ (m ∷ [])
members_more ms m e = rw e
