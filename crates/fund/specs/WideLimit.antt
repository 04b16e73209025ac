-- Funds at the limit of refusal 10.
use Rattle.std.specs.Prelude.{List, [], ◌∷◌, ℕ}
use Prim.Native.String.{String}
use Rattle.fund.specs.Starred.{StarredRow, text, file}

-- X = 6, a lambda just below 8×10^12, and three members of group 1 whose amounts are 0.
unfoldable pub nearly_wide : String → List String → List ℕ → StarredRow
nearly_wide rate listed bounds =
    record {
      file = file "horizon=6" "order=1" "deductible=3" ("rate=30,1000000,0" ∷ rate ∷ "member=30,2,1,0,7" ∷ "member=40,2,1,0,1" ∷ "member=30,1,0,0,3" ∷ "end=3" ∷ []);
      listing = text listed;
      bounds = bounds;
    }

-- R(6) = 250,000 is accepted, and 250,001 is not.
unfoldable pub wide_limit : List StarredRow
wide_limit =
    nearly_wide "rate=40,985360,0"
    ("truncation=0" ∷ "mean=7985360000000" ∷ "cell=0,340409927,694,340409927,694" ∷ "cell=1,2718295815,5543,3058705742,6237" ∷ "cell=2,10853285335,22133,13911991077,28370" ∷ "cell=3,28889130194,58915,42801121271,87285" ∷ "cell=4,57672526172,117616,100473647443,204901" ∷ "cell=5,92107176719,187843,192580824162,392744" ∷ "cell=6,122584827448,250000,315165651610,642744" ∷ "premium=5002671106746" ∷ "within=35301" ∷ "gross=751" ∷ [])
    (694 ∷ 5543 ∷ 22133 ∷ 58915 ∷ 117616 ∷ 187843 ∷ 250000 ∷ [])
    ∷ nearly_wide "rate=40,985361,0" ("refused=10,6" ∷ []) (694 ∷ 5543 ∷ 22133 ∷ 58915 ∷ 117616 ∷ 187843 ∷ 250001 ∷ [])
    ∷ []
