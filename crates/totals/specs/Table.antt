-- What the walks over a table of member lines ask and tell, and what that says of the lives (members_of_lem).
use Rattle.std.specs.Prelude.{List, ℕ, ◌*◌, ◌^◌, ◌≤◌, length}
use Rattle.std.proofs.Common.{arith}
use Rattle.fund.specs.declared.Life.{Life}
use Rattle.fund.specs.declared.ModelPoint.{ModelPoint}
use Rattle.fund.specs.Folding.{copies}
use Rattle.fund.specs.Limits.{most_amount, most_load, most_lives}
use Rattle.laws.specs.Accepted.{All, all_map, all_copies}
use Rattle.laws.specs.Copies.{lives_of, length_copies}
use Rattle.laws.specs.Weights.{most_weight}
use Rattle.widths.specs.Lives.{InRange}

-- a member line in its ranges
pub record PointIn (p : ModelPoint) : Type 0 where
  pub life_in : InRange p.life
  pub lives_most : p.lives ≤ most_lives

-- member lines, whose lives in all are in range too
pub record Points (ps : List ModelPoint) : Type 0 where
  pub few : lives_of ps ≤ most_lives
  pub in_range : All PointIn ps

-- lives
pub record Members (ms : List Life) : Type 0 where
  pub few : length ms ≤ most_lives
  pub in_range : All InRange ms

pub members_of_lem : (ps : List ModelPoint) → Points ps → Members (copies ps)
members_of_lem ps k = record { few = omega (arith, length_copies ps, k.few); in_range = all_copies InRange ps (all_map (λ p h. h.life_in) ps k.in_range) }

-- what lambda of a table in range cannot exceed
abbrev pub most_lambda : ℕ
most_lambda = most_lives * most_weight

-- what its lives of group 1 cannot add more than
abbrev pub most_singles : ℕ
most_singles = most_lives * 10 ^ 12

-- the largest amount times the largest load: what the mean of a fund that passes 7 cannot exceed
abbrev pub most_mean : ℕ
most_mean = most_amount * most_load
