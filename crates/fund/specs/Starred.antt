-- The first delivery's funds: each file with what the program prints for it, and the bounds R(0), R(1), .. that the
-- document states, whether or not the fund is accepted. Then rows for wrong turns that these funds would not show, rows for rates that are
-- printed for some ages only, rows for the line of the worth, and rows for the line of the frequencies.
use Rattle.std.specs.Prelude.{List, [], ◌∷◌, ◌++◌, map, ℕ}
use Prim.Native.String.{String}
use Rattle.fund.specs.Base.{bytes}

pub record StarredRow : Type 0 where
  pub file : List ℕ
  pub listing : List ℕ
  pub bounds : List ℕ

-- Lines, each with its line feed.
unfoldable pub text : List String → List ℕ
text [] = []
text (l ∷ ls) = bytes l ++ (10 ∷ text ls)

-- A file of edition 2030. §3, §5 and §8: the first delivery's funds "take `worth=100`", "repeat" their frequency "as `frequency=1000,1000`",
-- and "take lives 1 on each member line".
unfoldable pub file : String → String → String → List String → List ℕ
file horizon order deductible rows = text ("rates=2030" ∷ "members=2030" ∷ horizon ∷ order ∷ "frequency=1000,1000" ∷ deductible ∷ "worth=100" ∷ rows)

abbrev pub one_member : List String
one_member = "rate=40,100000,0" ∷ "member=40,1,1,0,1" ∷ "end=1" ∷ []

abbrev pub one_member_with : String → List String
one_member_with gross =
    "truncation=42866942"
    ∷ "mean=100000000000"
    ∷ "cell=0,900000000000,85733885,900000000000,85733885"
    ∷ "cell=1,100000000000,85733887,1000000000000,85733888"
    ∷ "cell=2,0,85733888,1000000000000,85733892"
    ∷ "premium=0"
    ∷ "within=171467773"
    ∷ gross
    ∷ []

abbrev pub one_member_listing : List String
one_member_listing = one_member_with "gross=1"

-- Eight group 2 members with q = 1,000,000, i = 0, d = 1, and what follows them.
unfoldable pub eight : List String → List String
eight rows =
    "member=40,2,1,0,1"
    ∷ "member=40,2,1,0,1"
    ∷ "member=40,2,1,0,1"
    ∷ "member=40,2,1,0,1"
    ∷ "member=40,2,1,0,1"
    ∷ "member=40,2,1,0,1"
    ∷ "member=40,2,1,0,1"
    ∷ "member=40,2,1,0,1"
    ∷ rows

-- The funds of these members, whatever lines they stand on: X = 5, X = 6, and with a ninth.
unfoldable pub eight_listed : List String → StarredRow
eight_listed rows =
    record {
      file = file "horizon=5" "order=3" "deductible=2" ("rate=40,1000000,0" ∷ rows);
      listing =
          text
          ("truncation=0"
          ∷ "mean=8000000000000"
          ∷ "cell=0,335462628,691,335462628,691"
          ∷ "cell=1,2683701024,5529,3019163652,6220"
          ∷ "cell=2,10734804096,22117,13753967748,28337"
          ∷ "cell=3,28626144256,58980,42380112004,87317"
          ∷ "cell=4,57252288512,117961,99632400516,205278"
          ∷ "cell=5,91603661619,188739,191236062135,394017"
          ∷ "premium=6003354626280"
          ∷ "within=6911"
          ∷ "gross=901"
          ∷ []);
      bounds = 691 ∷ 5529 ∷ 22117 ∷ 58980 ∷ 117961 ∷ 188739 ∷ [];
    }

unfoldable pub eight_wide : List String → StarredRow
eight_wide rows =
    record {
      file = file "horizon=6" "order=3" "deductible=2" ("rate=40,1000000,0" ∷ rows);
      listing = text ("refused=10,6" ∷ []);
      bounds = 691 ∷ 5529 ∷ 22117 ∷ 58980 ∷ 117961 ∷ 188739 ∷ 251653 ∷ [];
    }

unfoldable pub eight_and_one : List String → StarredRow
eight_and_one rows =
    record {
      file = file "horizon=5" "order=3" "deductible=2" ("rate=40,1000000,0" ∷ "rate=41,1,0" ∷ rows);
      listing = text ("refused=7,0" ∷ []);
      bounds = [];
    }

-- Group 1, q = i = 400,000, d = 0, e = 1, at an order: passes 6, then refused 8.
unfoldable pub at_order : String → StarredRow
at_order order =
    record {
      file = file "horizon=2" order "deductible=2" ("rate=40,400000,400000" ∷ "member=40,1,0,1,1" ∷ "end=1" ∷ []);
      listing = text ("refused=8,0" ∷ []);
      bounds = [];
    }

unfoldable pub starred : List StarredRow
starred =
    -- The fund of the listing; order 2: refused 8.
    record {
      file = file "horizon=2" "order=3" "deductible=2" one_member;
      listing = text one_member_listing;
      bounds = 1 ∷ 3 ∷ 4 ∷ [];
    }
    ∷ record { file = file "horizon=2" "order=2" "deductible=2" one_member; listing = text ("refused=8,0" ∷ []); bounds = [] }
    -- No rates, no members, X = 1, M = 2.
    ∷ record {
      file = file "horizon=1" "order=3" "deductible=2" ("end=0" ∷ []);
      listing = text ("truncation=0" ∷ "mean=0" ∷ "cell=0,1000000000000,0,1000000000000,0" ∷ "cell=1,0,1,1000000000000,1" ∷ "premium=0" ∷ "within=1" ∷ "gross=1" ∷ []);
      bounds = 0 ∷ 1 ∷ [];
    }
    -- Eight group 2 members: X = 5 accepted; X = 6 refused 10 at 6; a ninth with q = 1: refused 7.
    ∷ eight_listed (eight ("end=8" ∷ []))
    ∷ eight_wide (eight ("end=8" ∷ []))
    ∷ eight_and_one (eight ("member=41,2,1,0,1" ∷ "end=9" ∷ []))
    -- Group 1, q = 500,000, d = 1: refused 6. The same with d = 0, i = 0: passes 6, accepted.
    ∷ record {
      file = file "horizon=2" "order=3" "deductible=2" ("rate=40,500000,0" ∷ "member=40,1,1,0,1" ∷ "end=1" ∷ []);
      listing = text ("refused=6,9" ∷ []);
      bounds = [];
    }
    ∷ record {
      file = file "horizon=2" "order=3" "deductible=2" ("rate=40,500000,0" ∷ "member=40,1,0,0,1" ∷ "end=1" ∷ []);
      listing =
          text ("truncation=0" ∷ "mean=0" ∷ "cell=0,1000000000000,1,1000000000000,1" ∷ "cell=1,0,1,1000000000000,2" ∷ "cell=2,0,1,1000000000000,3" ∷ "premium=0" ∷ "within=3" ∷ "gross=1" ∷ []);
      bounds = 1 ∷ 1 ∷ 1 ∷ [];
    }
    -- Editions 2030 and 2031: refused 3. M = 4 with X = 2: refused 4; M = 3 accepted.
    ∷ record {
      file = text ("rates=2030" ∷ "members=2031" ∷ "horizon=2" ∷ "order=3" ∷ "frequency=1000,1000" ∷ "deductible=2" ∷ "worth=100" ∷ one_member);
      listing = text ("refused=3,0" ∷ []);
      bounds = [];
    }
    ∷ record { file = file "horizon=2" "order=3" "deductible=4" one_member; listing = text ("refused=4,0" ∷ []); bounds = [] }
    ∷ record {
      file = file "horizon=2" "order=3" "deductible=3" one_member;
      listing =
          text
          ("truncation=42866942"
          ∷ "mean=100000000000"
          ∷ "cell=0,900000000000,85733885,900000000000,85733885"
          ∷ "cell=1,100000000000,85733887,1000000000000,85733888"
          ∷ "cell=2,0,85733888,1000000000000,85733892"
          ∷ "premium=0"
          ∷ "within=257201665"
          ∷ "gross=1"
          ∷ []);
      bounds = 1 ∷ 3 ∷ 4 ∷ [];
    }
    -- Group 1, q = i = 400,000, d = 0, e = 1: refused 8 at any order.
    ∷ map at_order ("order=1" ∷ "order=2" ∷ "order=3" ∷ "order=4" ∷ "order=5" ∷ "order=6" ∷ "order=7" ∷ "order=8" ∷ "order=9" ∷ "order=10" ∷ "order=11" ∷ "order=12" ∷ [])

-- Rows that the document does not print, one for each wrong turn that its own funds would not show.
unfoldable pub wrong_turns : List StarredRow
wrong_turns =
    -- An amount beyond X counts in p and in the mean: group 1, d = 5 and X = 3.
    record {
      file = file "horizon=3" "order=12" "deductible=2" ("rate=40,100000,100000" ∷ "member=40,1,5,1,1" ∷ "end=1" ∷ []);
      listing = text ("truncation=1529" ∷ "mean=600000000000" ∷ "cell=0,800000000000,3059,800000000000,3059" ∷ "cell=1,100000000000,3061,900000000000,3062" ∷ "cell=2,0,3062,900000000000,3066" ∷ "cell=3,0,3062,900000000000,3070" ∷ "premium=300000000000" ∷ "within=6121" ∷ "gross=46" ∷ []);
      bounds = 1 ∷ 3 ∷ 4 ∷ 4 ∷ [];
    }
    -- d = e: both terms of an equal pair land on one place and add.
    ∷ record {
      file = file "horizon=4" "order=12" "deductible=2" ("rate=40,100000,100000" ∷ "member=40,1,2,2,1" ∷ "end=1" ∷ []);
      listing = text ("truncation=1529" ∷ "mean=400000000000" ∷ "cell=0,800000000000,3059,800000000000,3059" ∷ "cell=1,0,3059,800000000000,3060" ∷ "cell=2,200000000000,3062,1000000000000,3064" ∷ "cell=3,0,3060,1000000000000,3066" ∷ "cell=4,0,3063,1000000000000,3071" ∷ "premium=0" ∷ "within=6119" ∷ "gross=1" ∷ []);
      bounds = 1 ∷ 1 ∷ 4 ∷ 2 ∷ 5 ∷ [];
    }
    -- A negative half away from zero: f(6) = -1.
    ∷ record {
      file = file "horizon=6" "order=12" "deductible=3" ("rate=40,1530,1421" ∷ "member=40,1,2,3,1" ∷ "end=1" ∷ []);
      listing = text ("truncation=1" ∷ "mean=7323000000" ∷ "cell=0,997049000000,3,997049000000,3" ∷ "cell=1,0,3,997049000000,4" ∷ "cell=2,1530000000,5,998579000000,7" ∷ "cell=3,1421000000,5,1000000000000,10" ∷ "cell=4,0,6,1000000000000,14" ∷ "cell=5,0,6,1000000000000,18" ∷ "cell=6,-1,7,999999999999,23" ∷ "premium=0" ∷ "within=14" ∷ "gross=1" ∷ []);
      bounds = 1 ∷ 1 ∷ 3 ∷ 3 ∷ 4 ∷ 4 ∷ 5 ∷ [];
    }
    -- A product's error is not multiplied by k again: group 2 at place 2.
    ∷ record {
      file = file "horizon=4" "order=1" "deductible=1" ("rate=40,1000000,0" ∷ "member=40,2,2,0,1" ∷ "member=40,2,2,0,1" ∷ "member=40,2,2,0,1" ∷ "end=3" ∷ []);
      listing = text ("truncation=0" ∷ "mean=6000000000000" ∷ "cell=0,49787068368,135,49787068368,135" ∷ "cell=1,0,1,49787068368,136" ∷ "cell=2,149361205104,406,199148273472,542" ∷ "cell=3,0,3,199148273472,545" ∷ "cell=4,224041807656,610,423190081128,1155" ∷ "premium=5049787068368" ∷ "within=135" ∷ "gross=758" ∷ []);
      bounds = 135 ∷ 1 ∷ 406 ∷ 3 ∷ 610 ∷ [];
    }
    -- A v is one sum, divided and rounded once: its two products rounded apart would give f(3) = 1.
    ∷ record {
      file = file "horizon=3" "order=12" "deductible=2" ("rate=40,100000,100004" ∷ "member=40,1,1,2,1" ∷ "end=1" ∷ []);
      listing = text ("truncation=1529" ∷ "mean=300008000000" ∷ "cell=0,799996000000,3059,799996000000,3059" ∷ "cell=1,100000000000,3061,899996000000,3062" ∷ "cell=2,100004000000,3063,1000000000000,3067" ∷ "cell=3,0,3063,1000000000000,3072" ∷ "premium=0" ∷ "within=6121" ∷ "gross=1" ∷ []);
      bounds = 1 ∷ 3 ∷ 5 ∷ 5 ∷ [];
    }
    ∷ []

-- METHOD 3 (§2): the first fund with other rate rows, and a member of some age whose rate in force is that of the first fund.
unfoldable pub in_force : List String → StarredRow
in_force rows = record { file = file "horizon=2" "order=3" "deductible=2" rows; listing = text one_member_listing; bounds = 1 ∷ 3 ∷ 4 ∷ [] }

unfoldable pub some_ages : List StarredRow
some_ages =
    -- A row holds from its age, and no longer the row before it; until the next row's age; the last row to 120, also where it stands at 120.
    in_force ("rate=30,0,0" ∷ "rate=40,100000,0" ∷ "rate=50,0,0" ∷ "member=40,1,1,0,1" ∷ "end=1" ∷ [])
    ∷ in_force ("rate=30,0,0" ∷ "rate=40,100000,0" ∷ "rate=50,0,0" ∷ "member=49,1,1,0,1" ∷ "end=1" ∷ [])
    ∷ in_force ("rate=30,0,0" ∷ "rate=40,100000,0" ∷ "member=120,1,1,0,1" ∷ "end=1" ∷ [])
    ∷ in_force ("rate=119,0,0" ∷ "rate=120,100000,0" ∷ "member=120,1,1,0,1" ∷ "end=1" ∷ [])
    ∷ in_force ("rate=0,100000,0" ∷ "rate=120,0,0" ∷ "member=119,1,1,0,1" ∷ "end=1" ∷ [])
    -- Unmatched: an age below the first row, an empty table.
    ∷ record {
      file = file "horizon=2" "order=3" "deductible=2" ("rate=40,100000,0" ∷ "member=40,1,1,0,1" ∷ "member=39,1,1,0,1" ∷ "end=2" ∷ []);
      listing = text ("refused=5,10" ∷ []);
      bounds = [];
    }
    ∷ record {
      file = file "horizon=2" "order=3" "deductible=2" ("member=120,1,1,0,1" ∷ "end=1" ∷ []);
      listing = text ("refused=5,8" ∷ []);
      bounds = [];
    }
    -- Half by the rate in force.
    ∷ record {
      file = file "horizon=2" "order=3" "deductible=2" ("rate=30,500000,0" ∷ "rate=50,100000,0" ∷ "member=49,1,1,0,1" ∷ "end=1" ∷ []);
      listing = text ("refused=6,10" ∷ []);
      bounds = [];
    }
    ∷ []

-- METHOD 1 (§3): the first fund with other lines where the worth should stand.
unfoldable pub with_lines : List String → List String → StarredRow
with_lines lines listed =
    record {
      file = text ("rates=2030" ∷ "members=2030" ∷ "horizon=2" ∷ "order=3" ∷ "frequency=1000,1000" ∷ "deductible=2" ∷ lines);
      listing = text listed;
      bounds = [];
    }

unfoldable pub worths : List StarredRow
worths =
    -- Its limits, and range at line 7.
    with_lines ("worth=1" ∷ one_member) (one_member_with "gross=1")
    ∷ with_lines ("worth=9999999" ∷ one_member) (one_member_with "gross=2573")
    ∷ with_lines ("worth=0" ∷ one_member) ("refused=2,7" ∷ [])
    -- Form at line 7: a number of eight digits, two numbers, no line of the worth, one that stands elsewhere, the file's end.
    ∷ with_lines ("worth=10000000" ∷ one_member) ("refused=1,7" ∷ [])
    ∷ with_lines ("worth=100,100" ∷ one_member) ("refused=1,7" ∷ [])
    ∷ with_lines one_member ("refused=1,7" ∷ [])
    ∷ with_lines ("rate=40,100000,0" ∷ "worth=100" ∷ "member=40,1,1,0,1" ∷ "end=1" ∷ []) ("refused=1,7" ∷ [])
    ∷ with_lines [] ("refused=1,7" ∷ [])
    -- Rows begin at line 8.
    ∷ with_lines ("worth=100" ∷ "rate=121,0,0" ∷ []) ("refused=2,8" ∷ [])
    ∷ with_lines ("worth=100" ∷ []) ("refused=1,8" ∷ [])
    ∷ []

-- METHOD 4 (§5): a fund with one member of group 2 and a line of frequencies.
unfoldable pub replaced_at : String → String → String → List String → List ℕ → StarredRow
replaced_at frequency rate member listed bounds =
    record {
      file = text ("rates=2030" ∷ "members=2030" ∷ "horizon=4" ∷ "order=3" ∷ frequency ∷ "deductible=2" ∷ "worth=100" ∷ rate ∷ member ∷ "end=1" ∷ []);
      listing = text listed;
      bounds = bounds;
    }

-- The same for a line that is refused.
unfoldable pub refused_at : String → String → StarredRow
refused_at frequency refused = replaced_at frequency "rate=40,30000,10000" "member=40,2,1,3,1" (refused ∷ []) []

unfoldable pub frequencies : List StarredRow
frequencies =
    -- a with q and b with i. In lambda: amounts beyond X, and q×d = i×e, so that the mean does not tell a from b. In the mean: amounts beyond X, and q = i.
    -- In D: q×d = i×e again, D(1) = 30,000,000,000 and D(3) = 15,000,000,000.
    replaced_at "frequency=1000,500" "rate=40,20000,30000" "member=40,2,9,6,1"
    ("truncation=0" ∷ "mean=270000000000" ∷ "cell=0,965605416258,125,965605416258,125" ∷ "cell=1,0,1,965605416258,126" ∷ "cell=2,0,1,965605416258,127" ∷ "cell=3,0,1,965605416258,128" ∷ "cell=4,0,1,965605416258,129" ∷ "premium=201210832516" ∷ "within=251" ∷ "gross=31" ∷ [])
    (125 ∷ 1 ∷ 1 ∷ 1 ∷ 1 ∷ [])
    ∷ replaced_at "frequency=1000,500" "rate=40,20000,20000" "member=40,2,6,9,1"
    ("truncation=0" ∷ "mean=210000000000" ∷ "cell=0,970445533548,125,970445533548,125" ∷ "cell=1,0,1,970445533548,126" ∷ "cell=2,0,1,970445533548,127" ∷ "cell=3,0,1,970445533548,128" ∷ "cell=4,0,1,970445533548,129" ∷ "premium=150891067096" ∷ "within=251" ∷ "gross=23" ∷ [])
    (125 ∷ 1 ∷ 1 ∷ 1 ∷ 1 ∷ [])
    ∷ replaced_at "frequency=1000,500" "rate=40,30000,10000" "member=40,2,1,3,1"
    ("truncation=0" ∷ "mean=45000000000" ∷ "cell=0,965605416258,125,965605416258,125" ∷ "cell=1,28968162488,5,994573578746,130" ∷ "cell=2,434522438,2,995008101184,132" ∷ "cell=3,4832372306,2,999840473490,134" ∷ "cell=4,144873402,2,999985346892,136" ∷ "premium=5178995004" ∷ "within=255" ∷ "gross=1" ∷ [])
    (125 ∷ 5 ∷ 2 ∷ 2 ∷ 2 ∷ [])
    -- Only a disabled member's place is filled, only a deceased member's.
    ∷ replaced_at "frequency=0,1000" "rate=40,30000,10000" "member=40,2,1,3,1"
    ("truncation=0" ∷ "mean=30000000000" ∷ "cell=0,990049833749,125,990049833749,125" ∷ "cell=1,0,1,990049833749,126" ∷ "cell=2,0,1,990049833749,127" ∷ "cell=3,9900498337,3,999950332086,130" ∷ "cell=4,0,2,999950332086,132" ∷ "premium=10099667498" ∷ "within=251" ∷ "gross=2" ∷ [])
    (125 ∷ 1 ∷ 1 ∷ 3 ∷ 2 ∷ [])
    ∷ replaced_at "frequency=1000,0" "rate=40,30000,10000" "member=40,2,1,3,1"
    ("truncation=0" ∷ "mean=30000000000" ∷ "cell=0,970445533548,125,970445533548,125" ∷ "cell=1,29113366006,5,999558899554,130" ∷ "cell=2,436700490,2,999995600044,132" ∷ "cell=3,4367005,2,999999967049,134" ∷ "cell=4,32753,2,999999999802,136" ∷ "premium=4433102" ∷ "within=255" ∷ "gross=1" ∷ [])
    (125 ∷ 5 ∷ 2 ∷ 2 ∷ 2 ∷ [])
    -- Lambda 0: a = 0, and no disability.
    ∷ replaced_at "frequency=0,5000" "rate=40,30000,10000" "member=40,2,1,0,1"
    ("truncation=0" ∷ "mean=0" ∷ "cell=0,1000000000000,0,1000000000000,0" ∷ "cell=1,0,1,1000000000000,1" ∷ "cell=2,0,1,1000000000000,2" ∷ "cell=3,0,1,1000000000000,3" ∷ "cell=4,0,1,1000000000000,4" ∷ "premium=0" ∷ "within=1" ∷ "gross=1" ∷ [])
    (0 ∷ 1 ∷ 1 ∷ 1 ∷ 1 ∷ [])
    -- The limits, and range at line 5.
    ∷ replaced_at "frequency=5000,5000" "rate=40,30000,10000" "member=40,2,1,3,1"
    ("truncation=0" ∷ "mean=300000000000" ∷ "cell=0,818730753079,125,818730753079,125" ∷ "cell=1,122809612962,20,941540366041,145" ∷ "cell=2,9210720972,3,950751087013,148" ∷ "cell=3,41397073703,8,992148160716,156" ∷ "cell=4,6157750750,3,998305911466,159" ∷ "premium=60271119120" ∷ "within=270" ∷ "gross=10" ∷ [])
    (125 ∷ 20 ∷ 3 ∷ 8 ∷ 3 ∷ [])
    ∷ refused_at "frequency=5001,0" "refused=2,5"
    ∷ refused_at "frequency=0,5001" "refused=2,5"
    -- Form at line 5, before range: a single number, three, a second one without digits or with eight.
    ∷ refused_at "frequency=1000" "refused=1,5"
    ∷ refused_at "frequency=5001" "refused=1,5"
    ∷ refused_at "frequency=1000,1000,1000" "refused=1,5"
    ∷ refused_at "frequency=1000," "refused=1,5"
    ∷ refused_at "frequency=5001,10000000" "refused=1,5"
    ∷ []
