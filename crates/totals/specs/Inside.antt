-- The ranges that reading and refusal 6 leave: of a header, of a life, of a member line, and of a table with its count.
use Rattle.std.specs.Prelude.{Bool, true, not, ◌&&◌, ◌||◌, List, [], ◌∷◌, ℕ, suc, ◌≤◌, leb, ltb, eqb}
use Rattle.fund.specs.declared.Frequencies.{Frequencies}
use Rattle.fund.specs.declared.Fund.{Fund}
use Rattle.fund.specs.declared.Life.{Life}
use Rattle.fund.specs.declared.ModelPoint.{ModelPoint}
use Rattle.fund.specs.Folding.{claim, single}
use Rattle.fund.specs.Limits.{most_horizon, most_order, most_frequency, least_worth, most_worth, most_members, most_lives, least_group, most_group, most_rate, half_rate, most_amount}
use Rattle.laws.specs.Copies.{lives_of}
use Rattle.laws.specs.Ranges.{FrequenciesOk}

-- The header's figures that the valuation uses are in their ranges.
pub record HeaderIn (fund : Fund) : Type 0 where
  pub horizon : fund.horizon ≤ most_horizon
  pub order : fund.order ≤ most_order
  pub frequency : FrequenciesOk fund.frequency
  pub deductible : fund.deductible ≤ suc fund.horizon
  pub worth_least : least_worth ≤ fund.worth
  pub worth_most : fund.worth ≤ most_worth

-- The same as tests.
unfoldable pub frequencies_inside : Frequencies → Bool
frequencies_inside ab = leb ab.death most_frequency && leb ab.disability most_frequency

unfoldable pub header_inside : Fund → Bool
header_inside fund =
    leb fund.horizon most_horizon && (leb fund.order most_order && (frequencies_inside fund.frequency && (leb fund.deductible (suc fund.horizon)
    && (leb least_worth fund.worth && leb fund.worth most_worth))))

-- A rate with amount 0 is 0.
unfoldable pub folded_rate : ℕ → ℕ → Bool
folded_rate rate amount = not (eqb amount 0) || eqb rate 0

unfoldable pub life_inside : Life → Bool
life_inside m =
    leb least_group m.group && (leb m.group most_group && (leb (claim m) most_rate && ((not (single m) || ltb (claim m) half_rate)
    && (leb m.d most_amount && (leb m.e most_amount && (folded_rate m.q m.d && folded_rate m.i m.e))))))

unfoldable pub point_inside : ModelPoint → Bool
point_inside p = life_inside p.life && leb p.lives most_lives

unfoldable pub all_inside : List ModelPoint → Bool
all_inside [] = true
all_inside (p ∷ ps) = point_inside p && all_inside ps

-- A header, and member lines that are `count` of a table.
unfoldable pub inside : Fund → ℕ → List ModelPoint → Bool
inside fund count ps = leb count most_members && (header_inside fund && (leb (lives_of ps) most_lives && all_inside ps))
