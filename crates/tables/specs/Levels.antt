-- Funds with a level: the running sums that METHOD 6 (§1) defines for the file, and the answer at the level. A row for each limit of
-- the level and for each wrong turn.
use Rattle.std.specs.Prelude.{List, [], ◌∷◌, ℕ, ℤ, pos, None, Option, Some}
use Rattle.fund.specs.Starred.{file, one_member, eight}

pub record LevelRow : Type 0 where
  pub file : List ℕ
  pub sums : List ℤ
  pub level : ℕ
  pub quantile : Option ℕ

-- The first fund at a level.
abbrev pub first_fund : ℕ → Option ℕ → LevelRow
first_fund level answer =
    record {
      file = file "horizon=2" "order=3" "deductible=2" one_member;
      sums = pos 900000000000 ∷ pos 1000000000000 ∷ pos 1000000000000 ∷ [];
      level = level;
      quantile = answer;
    }

-- Two members of group 1 whose f add to 2 units above 10^12.
abbrev pub passing_fund : ℕ → Option ℕ → LevelRow
passing_fund level answer =
    record {
      file = file "horizon=2" "order=12" "deductible=0" ("rate=40,120,0" ∷ "member=40,1,1,0,1" ∷ "member=40,1,1,0,1" ∷ "end=2" ∷ []);
      sums = pos 999760014400 ∷ pos 999999985601 ∷ pos 1000000000002 ∷ [];
      level = level;
      quantile = answer;
    }

-- One member of group 1 whose f(6) is -1, so that F falls behind 5.
abbrev pub falling_fund : ℕ → Option ℕ → LevelRow
falling_fund level answer =
    record {
      file = file "horizon=6" "order=12" "deductible=2" ("rate=40,1530,1421" ∷ "member=40,1,2,3,1" ∷ "end=1" ∷ []);
      sums =
          pos 997049000000
          ∷ pos 997049000000
          ∷ pos 998579000000
          ∷ pos 1000000000000
          ∷ pos 1000000000000
          ∷ pos 1000000000000
          ∷ pos 999999999999
          ∷ [];
      level = level;
      quantile = answer;
    }

unfoldable pub levels : List LevelRow
levels =
    -- A level that is just reached, and one unit more. Level 0 and 10^12.
    first_fund 900000000000 (Some 0)
    ∷ first_fund 900000000001 (Some 1)
    ∷ first_fund 0 (Some 0)
    ∷ first_fund 1000000000000 (Some 1)
    -- A level above 10^12 has none, whether a sum reaches it or not.
    ∷ first_fund 1000000000001 None
    ∷ passing_fund 1000000000000 (Some 2)
    ∷ passing_fund 1000000000001 None
    -- The first x, not the last, nor the one that a bisection meets, where F falls.
    ∷ falling_fund 1000000000000 (Some 3)
    ∷ falling_fund 997049000001 (Some 2)
    -- None up to the horizon.
    ∷ record {
      file = file "horizon=1" "order=3" "deductible=2" ("rate=40,1000000,0" ∷ eight ("end=8" ∷ []));
      sums = pos 335462628 ∷ pos 3019163652 ∷ [];
      level = 3019163653;
      quantile = None;
    }
    -- A refused fund: zeros, and none.
    ∷ record {
      file = file "horizon=2" "order=2" "deductible=2" one_member;
      sums = pos 0 ∷ pos 0 ∷ pos 0 ∷ [];
      level = 0;
      quantile = None;
    }
    ∷ []
