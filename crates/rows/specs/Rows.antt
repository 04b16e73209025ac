-- What holds of a row behind others: its line's place, whether it is in range, and the rows with it.
use Rattle.std.specs.Prelude.{Bool, true, false, ◌&&◌, List, [], ◌∷◌, ◌++◌, ℕ, suc, ◌+◌, leb, ltb, length, Ok, if◌then◌else◌}
use Rattle.fund.specs.declared.Rate.{Rate}
use Rattle.fund.specs.declared.Member.{Member}
use Rattle.fund.specs.Limits.{most_rates, most_age, most_rate, most_members, least_group, most_group, most_amount, least_lives, most_lives}
use Rattle.fund.specs.declared.Refusal.TheVariants.{Range}
use Rattle.fund.specs.Verdict.{Verdict, refused_at}
use Rattle.fund.specs.Reading.{between, header_lines, rate_in_range, member_in_range}

-- The place of the line behind the header and so many rows.
abbrev pub line_place : ℕ → ℕ → ℕ
line_place rated enrolled = suc (length header_lines + rated + enrolled)

-- "strictly rising": the least age that a row behind these may have.
unfoldable pub least_age : List Rate → ℕ
least_age [] = 0
least_age (r ∷ []) = suc r.age
least_age (r ∷ s ∷ rs) = least_age (s ∷ rs)

-- `rate_in_range` and `member_in_range`, from the number of the rows before, the least age and the lives so far.
unfoldable pub rate_fits : ℕ → ℕ → Rate → Bool
rate_fits rated least r =
    ltb rated most_rates
    && leb r.age most_age
    && leb least r.age
    && leb r.q most_rate
    && leb r.i most_rate
    && leb (r.q + r.i) most_rate

unfoldable pub member_fits : ℕ → ℕ → Member → Bool
member_fits enrolled lives m =
    ltb enrolled most_members
    && leb m.age most_age
    && between least_group most_group m.group
    && leb m.d most_amount
    && leb m.e most_amount
    && between least_lives most_lives m.lives
    && leb (lives + m.lives) most_lives

-- Where a row behind others is in range, it is added to them; else range stops at its line.
abbrev pub in_range_or : Bool → ℕ → Verdict
in_range_or true line = Ok tt
in_range_or false line = refused_at Range line

abbrev pub rates_with : List Rate → Rate → List Rate
rates_with rs r = if rate_in_range rs r then rs ++ (r ∷ []) else rs

abbrev pub members_with : List Member → Member → List Member
members_with ms m = if member_in_range ms m then ms ++ (m ∷ []) else ms
