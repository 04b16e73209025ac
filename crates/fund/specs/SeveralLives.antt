-- METHOD 3 (§8): funds whose member lines stand for several lives, each with what its lines written out would give. Then the limits of lives, and
-- what counts lines.
use Rattle.std.specs.Prelude.{List, [], ◌∷◌, ℕ}
use Prim.Native.String.{String}
use Rattle.fund.specs.Starred.{StarredRow, text, file, eight_listed, eight_wide, eight_and_one}

unfoldable pub lives_listed : String → String → List String → List String → List ℕ → StarredRow
lives_listed horizon order rows listed bounds = record { file = file horizon order "deductible=1" rows; listing = text listed; bounds = bounds }

-- Three lives of group 1, on whatever lines they stand.
unfoldable pub three_listed : List String → StarredRow
three_listed rows =
    lives_listed "horizon=3" "order=2" ("rate=40,9000,3000" ∷ rows)
    ("truncation=1813764" ∷ "mean=45000000000" ∷ "cell=0,964430272000,3627531,964430272000,3627531" ∷ "cell=1,26355888000,3627533,990786160000,3627536" ∷ "cell=2,9025380001,3627537,999811540001,3627545" ∷ "cell=3,160055999,3627534,999971596000,3627551" ∷ "premium=9430272000" ∷ "within=3627531" ∷ "gross=2" ∷ [])
    (3 ∷ 5 ∷ 9 ∷ 6 ∷ [])

-- Two lives of group 2, and of group 1 two with q = 10,000 and two with q = 5,000, on lines whose order shows in f(0), and so in F and the premium.
unfoldable pub in_order : List String → String → String → String → StarredRow
in_order rows cell0 cell1 premium =
    lives_listed "horizon=1" "order=2" ("rate=30,10000,0" ∷ "rate=40,5000,0" ∷ "rate=50,100000,0" ∷ "member=50,2,1,0,2" ∷ rows)
    ("truncation=779110" ∷ "mean=230000000000" ∷ cell0 ∷ cell1 ∷ premium ∷ "within=1558349" ∷ "gross=4" ∷ [])
    (129 ∷ 35 ∷ [])

-- Lives of group 1 beside a lambda of 7.875×10^12.
abbrev pub beside_lambda : List String → List String
beside_lambda rows = "rate=30,40000,0" ∷ "rate=40,875000,0" ∷ "member=40,2,1,0,9" ∷ rows

-- The first fund with two lives.
abbrev pub two_lives_listing : List String
two_lives_listing = "truncation=85733884" ∷ "mean=200000000000" ∷ "cell=0,810000000000,171467770,810000000000,171467770" ∷ "cell=1,180000000000,171467772,990000000000,171467774" ∷ "cell=2,10000000001,171467773,1000000000001,171467779" ∷ "premium=0" ∷ "within=342935544" ∷ "gross=1" ∷ []

-- Rows behind one rate row, on line 8, that is half in group 1 where the death amount is not 0.
unfoldable pub behind_rate : List String → List String → List ℕ → StarredRow
behind_rate rows listed bounds = lives_listed "horizon=0" "order=1" ("rate=40,500000,0" ∷ rows) listed bounds

unfoldable pub several_lives : List StarredRow
several_lives =
    -- The same figures from one line, two and three. D(3) has nearest(3×v(2,1)/2) three times, and E what is taken up for a life three times: one
    -- rounding for all lives would give others. `end=` counts lines.
    three_listed ("member=40,1,1,2,3" ∷ "end=1" ∷ [])
    ∷ three_listed ("member=40,1,1,2,1" ∷ "member=40,1,1,2,2" ∷ "end=2" ∷ [])
    ∷ three_listed ("member=40,1,1,2,1" ∷ "member=40,1,1,2,1" ∷ "member=40,1,1,2,1" ∷ "end=3" ∷ [])
    -- f(0) is rounded at each life: p^4 rounded once would give 999780018149.
    ∷ lives_listed "horizon=0" "order=1" ("rate=40,55,0" ∷ "member=40,1,1,0,4" ∷ "end=1" ∷ [])
    ("truncation=6056" ∷ "mean=220000000" ∷ "cell=0,999780018150,12116,999780018150,12116" ∷ "premium=18150" ∷ "within=12116" ∷ "gross=1" ∷ [])
    (4 ∷ [])
    -- f(0) takes the lives of a line in its spot: it is another where the lines are exchanged, and where the lives of one stand on two lines apart.
    ∷ in_order ("member=30,1,1,0,2" ∷ "member=40,1,1,0,2" ∷ "end=3" ∷ []) "cell=0,794433691933,1558349,794433691933,1558349" "cell=1,182920162090,1558255,977353854023,1558384" "premium=24433691933"
    ∷ in_order ("member=40,1,1,0,2" ∷ "member=30,1,1,0,2" ∷ "end=3" ∷ []) "cell=0,794433691932,1558349,794433691932,1558349" "cell=1,182920162090,1558255,977353854022,1558384" "premium=24433691932"
    ∷ in_order ("member=30,1,1,0,1" ∷ "member=40,1,1,0,2" ∷ "member=30,1,1,0,1" ∷ "end=4" ∷ []) "cell=0,794433691931,1558349,794433691931,1558349" "cell=1,182920162090,1558255,977353854021,1558384" "premium=24433691931"
    -- Group 2: lambda, D at both places and the mean count the lives. R(0) counts none of them.
    ∷ lives_listed "horizon=3" "order=1" ("rate=40,30000,10000" ∷ "member=40,2,1,3,4" ∷ "end=1" ∷ [])
    ("truncation=0" ∷ "mean=240000000000" ∷ "cell=0,852143788967,125,852143788967,125" ∷ "cell=1,102257254676,16,954401043643,141" ∷ "cell=2,6135435281,2,960536478924,143" ∷ "cell=3,34331168970,7,994867647894,150" ∷ "premium=92143788967" ∷ "within=125" ∷ "gross=14" ∷ [])
    (125 ∷ 16 ∷ 2 ∷ 7 ∷ [])
    -- The first delivery's eight members on one line: the load is the most that passes, X = 6 is refused 10 at 6, and a ninth with q = 1 is refused 7.
    ∷ eight_listed ("member=40,2,1,0,8" ∷ "end=1" ∷ [])
    ∷ eight_wide ("member=40,2,1,0,8" ∷ "end=1" ∷ [])
    ∷ eight_and_one ("member=40,2,1,0,8" ∷ "member=41,2,1,0,1" ∷ "end=2" ∷ [])
    -- The load is taken up for each life of group 1: two lives pass, and three times up(10^12/24) is one unit too much.
    ∷ lives_listed "horizon=0" "order=2" (beside_lambda ("member=30,1,1,0,2" ∷ "end=2" ∷ []))
    ("truncation=50322062" ∷ "mean=7955000000000" ∷ "cell=0,350326851,100644791,350326851,100644791" ∷ "premium=6955350326851" ∷ "within=100644791" ∷ "gross=1044" ∷ [])
    (667 ∷ [])
    ∷ lives_listed "horizon=0" "order=2" (beside_lambda ("member=30,1,1,0,3" ∷ "end=2" ∷ [])) ("refused=7,0" ∷ []) []
    -- The truncation figure counts the lives: the first fund passes 8 with two lives and not with three.
    ∷ record {
      file = file "horizon=2" "order=3" "deductible=2" ("rate=40,100000,0" ∷ "member=40,1,1,0,2" ∷ "end=1" ∷ []);
      listing = text two_lives_listing;
      bounds = 2 ∷ 4 ∷ 5 ∷ [];
    }
    ∷ record {
      file = file "horizon=2" "order=3" "deductible=2" ("rate=40,100000,0" ∷ "member=40,1,1,0,3" ∷ "end=1" ∷ []);
      listing = text ("refused=8,0" ∷ []);
      bounds = [];
    }
    -- 1,000 lives in all, whose rates fold to 0: R(0) counts each.
    ∷ behind_rate ("member=40,1,0,0,999" ∷ "member=40,1,0,0,1" ∷ "end=2" ∷ [])
    ("truncation=0" ∷ "mean=0" ∷ "cell=0,1000000000000,1000,1000000000000,1000" ∷ "premium=0" ∷ "within=1000" ∷ "gross=1" ∷ [])
    (1000 ∷ [])
    -- Range at the line that passes 1,000 lives, of whatever group; of a line, 1 to 1,000.
    ∷ behind_rate ("member=40,1,0,0,999" ∷ "member=40,2,0,0,2" ∷ "end=2" ∷ []) ("refused=2,10" ∷ []) []
    ∷ behind_rate ("member=40,1,0,0,1000" ∷ "member=40,1,0,0,1" ∷ "end=2" ∷ []) ("refused=2,10" ∷ []) []
    ∷ behind_rate ("member=40,1,0,0,1001" ∷ "end=1" ∷ []) ("refused=2,9" ∷ []) []
    ∷ behind_rate ("member=40,1,0,0,0" ∷ "end=1" ∷ []) ("refused=2,9" ∷ []) []
    -- Form, before range: four numbers, and six.
    ∷ behind_rate ("member=121,1,0,0" ∷ "end=1" ∷ []) ("refused=1,9" ∷ []) []
    ∷ behind_rate ("member=40,1,0,0,1001,1" ∷ "end=1" ∷ []) ("refused=1,9" ∷ []) []
    -- Lines are counted, not lives: at `end=`, and in the place of 5 and of 6.
    ∷ behind_rate ("member=40,1,0,0,3" ∷ "end=3" ∷ []) ("refused=2,10" ∷ []) []
    ∷ behind_rate ("member=40,2,1,0,3" ∷ "member=39,1,1,0,2" ∷ "end=2" ∷ []) ("refused=5,10" ∷ []) []
    ∷ behind_rate ("member=40,2,1,0,3" ∷ "member=40,1,1,0,2" ∷ "end=2" ∷ []) ("refused=6,10" ∷ []) []
    ∷ []
