-- Funds whose lines show what METHOD 8 (§7) adds: F and the bound of the distribution function. Of the funds of `Starred` the first tells the cut counted at each
-- cell, the bound of the last cell alone and F of another place apart, and the one with f(6) = -1 an F that only rises.
use Rattle.std.specs.Prelude.{List, [], ◌∷◌, ℕ}
use Prim.Native.String.{String}
use Rattle.fund.specs.Starred.{StarredRow, text, file}

unfoldable pub listed_at : String → String → List String → List String → List ℕ → StarredRow
listed_at horizon deductible rows listed bounds = record { file = file horizon "order=12" deductible rows; listing = text listed; bounds = bounds }

unfoldable pub distributions : List StarredRow
distributions =
    -- F ends 2 units above 10^12.
    listed_at "horizon=2" "deductible=0" ("rate=40,120,0" ∷ "member=40,1,1,0,1" ∷ "member=40,1,1,0,1" ∷ "end=2" ∷ [])
    ("truncation=2" ∷ "mean=240000000" ∷ "cell=0,999760014400,6,999760014400,6" ∷ "cell=1,239971201,8,999999985601,10" ∷ "cell=2,14401,9,1000000000002,15" ∷ "premium=240000000" ∷ "within=0" ∷ "gross=1" ∷ [])
    (2 ∷ 4 ∷ 5 ∷ [])
    -- One cell.
    ∷ listed_at "horizon=0" "deductible=1" ("rate=40,100000,100000" ∷ "member=40,1,5,1,1" ∷ "end=1" ∷ [])
    ("truncation=1529" ∷ "mean=600000000000" ∷ "cell=0,800000000000,3059,800000000000,3059" ∷ "premium=400000000000" ∷ "within=3059" ∷ "gross=61" ∷ [])
    (1 ∷ [])
    -- E is 10^8, the most that is accepted.
    ∷ listed_at "horizon=2" "deductible=0" ("rate=40,211124,0" ∷ "rate=60,360123,0" ∷ "member=60,1,65535,0,1" ∷ "member=40,1,65535,0,1" ∷ "end=2" ∷ [])
    ("truncation=100000000" ∷ "mean=37436672145000000" ∷ "cell=0,504783608252,200000002,504783608252,200000002" ∷ "cell=1,0,200000001,504783608252,200000003" ∷ "cell=2,0,200000001,504783608252,200000004" ∷ "premium=37436672145000000" ∷ "within=0" ∷ "gross=5615501" ∷ [])
    (2 ∷ 1 ∷ 1 ∷ [])
    ∷ []
