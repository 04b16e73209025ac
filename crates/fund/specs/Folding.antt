-- METHOD 3: from member rows to lives: the rate in force at an age, folding, and the copies of a line.
use Rattle.std.specs.Prelude.{Bool, List, [], ◌∷◌, ◌++◌, map, ℕ, ◌+◌, ◌-◌, eqb, leb, replicate, if◌then◌else◌, None, Option, Some}
use Rattle.fund.specs.declared.Rate.{Rate}
use Rattle.fund.specs.declared.Member.{Member}
use Rattle.fund.specs.declared.Life.{Life}
use Rattle.fund.specs.declared.ModelPoint.{ModelPoint}
use Rattle.fund.specs.Limits.{most_rate, least_group}
use Rattle.fund.specs.Reading.{FundFile}

-- METHOD 3 (§2): "A rate row now holds from its age until the next row's age." The rows are gone through in their order: the row that is
-- held, if any, until a row is above the age.
unfoldable pub held_until : Option Rate → List Rate → ℕ → Option Rate
held_until held [] age = held
held_until held (r ∷ rs) age = if leb r.age age then held_until (Some r) rs age else held

-- The rate in force at an age: none below the first row, and none in an empty table.
unfoldable pub rate_in_force : List Rate → ℕ → Option Rate
rate_in_force rates age = held_until None rates age

-- "If d = 0, q counts as 0; if e = 0, i counts as 0." Where no rate is in force, both are 0.
unfoldable pub folded : Option Rate → Member → Life
folded None m = record { group = m.group; q = 0; i = 0; d = m.d; e = m.e }
folded (Some r) m =
    record {
      group = m.group;
      q = if eqb m.d 0 then 0 else r.q;
      i = if eqb m.e 0 then 0 else r.i;
      d = m.d;
      e = m.e;
    }

unfoldable pub life : List Rate → Member → Life
life rates m = folded (rate_in_force rates m.age) m

-- A member line: what each of its lives is, and how many there are.
unfoldable pub point : List Rate → Member → ModelPoint
point rates m = record { life = life rates m; lives = m.lives }

unfoldable pub points : FundFile → List ModelPoint
points file = map (point file.rates) file.members

-- METHOD 3 (§8): "A line is priced exactly as that many copies of itself in that spot, and the exact values count it so."
unfoldable pub copies : List ModelPoint → List Life
copies [] = []
copies (p ∷ ps) = replicate p.lives p.life ++ copies ps

unfoldable pub lives : FundFile → List Life
lives file = copies (points file)

-- q + i, and "p = 1,000,000 - q - i", in millionths.
abbrev pub claim : Life → ℕ
claim m = m.q + m.i

abbrev pub stay : Life → ℕ
stay m = most_rate - claim m

-- Group 1 is taken one by one, group 2 replaced on leaving.
abbrev pub single : Life → Bool
single m = eqb m.group least_group
