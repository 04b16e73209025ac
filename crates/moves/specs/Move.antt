-- METHOD 11: the move of the premium from an old fund to a new one, and the most that arithmetic can have to do with it.
use Rattle.std.specs.Prelude.{Bool, ◌&&◌, ℕ, suc, ◌+◌, ◌*◌, ◌^◌, ◌≤◌, leb, pos, nat_abs, ◌+ℤ◌, ◌-ℤ◌, if◌then◌else◌, Option, Some, None}
use Rattle.rounding.specs.Rounding.{up}
use Rattle.fund.specs.declared.Fund.{Fund}
use Rattle.fund.specs.declared.Figures.{Figures}
use Rattle.fund.specs.Limits.{least_worth, most_worth}
use Rattle.fund.specs.Reading.{between}
use Rattle.fund.specs.Tariff.{loading}
use Rattle.moves.specs.declared.Move.{Move}

-- What a gross premium is above the exact premium's loaded worth at most, in centimes: the bound, which is in the gross premium and may be in the
-- premium too, loaded and taken up; and less than one centime that the gross premium was taken up by.
unfoldable pub excess : Fund → ℕ → ℕ
excess fund within = suc (up (2 * within * fund.worth * loading fund.deductible) (10 ^ 15))

-- The premium's move is the new premium less the old one. The most that arithmetic can have to do with it is the sum of the two bounds: so the exact
-- move lies between the move less this sum and the move with it. The move of the exact premium's loaded worth lies between the move of the gross
-- premium less the new one's excess and that move with the old one's excess.
unfoldable pub move_of : Fund → Figures → Fund → Figures → Move
move_of old before new after =
    let premium = after.premium -ℤ before.premium in
    let arithmetic = before.within + after.within in
    let gross = pos after.gross -ℤ pos before.gross in
    record {
      premium = premium;
      arithmetic = arithmetic;
      least = premium -ℤ pos arithmetic;
      most = premium +ℤ pos arithmetic;
      gross = gross;
      gross_least = gross -ℤ pos (excess new after.within);
      gross_most = gross +ℤ pos (excess old before.within);
    }

-- Figures that no accepted fund is above.
abbrev pub most_premium : ℕ
most_premium = 1000000000000000000

abbrev pub most_within : ℕ
most_within = 1000000000000000

abbrev pub most_gross : ℕ
most_gross = 100000000000000000

pub record FiguresIn (fund : Fund) (a : Figures) : Type 0 where
  pub worth_least : least_worth ≤ fund.worth
  pub worth_most : fund.worth ≤ most_worth
  pub premium : nat_abs a.premium ≤ most_premium
  pub within : a.within ≤ most_within
  pub gross : a.gross ≤ most_gross

unfoldable pub figures_in : Fund → Figures → Bool
figures_in fund a =
    between least_worth most_worth fund.worth && (leb (nat_abs a.premium) most_premium && (leb a.within most_within && leb a.gross most_gross))

-- The move of figures that are in their ranges; of others none.
unfoldable pub moved_of : Fund → Figures → Fund → Figures → Option Move
moved_of old before new after =
    if figures_in old before && figures_in new after then Some (move_of old before new after) else None
