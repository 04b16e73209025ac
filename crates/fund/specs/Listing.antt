-- METHOD 8: the listing, the text that the program prints for a fund file.
use Rattle.std.specs.Prelude.{true, false, List, [], ◌∷◌, ◌++◌, ℕ, zero, suc, ◌+◌, ◌/◌, ◌%◌, ltb, ℤ, pos, negsuc, get_or, Err, Ok}
use Rattle.fund.specs.declared.Refusal.{Refusal}
use Rattle.fund.specs.Verdict.{Verdict}
use Rattle.fund.specs.Limits.{most_horizon}
use Rattle.fund.specs.Base.{bytes}
use Rattle.fund.specs.Reading.{Reading, read, stopped, reading}
use Rattle.fund.specs.Premium.{printed_bound}
use Rattle.fund.specs.Refusals.{Lengths, number_of}
use Rattle.fund.specs.Distribution.{distribution_bound}
use Rattle.fund.specs.Answer.{Answer, answer_to}

-- A number in decimal. A number has no more digits than the number itself and one.
unfoldable pub digits_within : ℕ → ℕ → List ℕ → List ℕ
digits_within zero n after = (48 + n % 10) ∷ after
digits_within (suc most) n after =
    elim (ltb n 10) [ true ↦ (48 + n) ∷ after | false ↦ digits_within most (n / 10) ((48 + n % 10) ∷ after) ]

unfoldable pub decimal : ℕ → List ℕ
decimal n = digits_within n n []

-- "a negative figure starts with `-`"
unfoldable pub signed_decimal : ℤ → List ℕ
signed_decimal (pos n) = decimal n
signed_decimal (negsuc n) = 45 ∷ decimal (suc n)

-- A key, numbers between commas, and the line feed.
unfoldable pub joined : List ℕ → List (List ℕ) → List ℕ
joined text [] = text ++ (10 ∷ [])
joined text (next ∷ more) = text ++ (44 ∷ joined next more)

-- "A cell line is x, f(x), R(x) + 2×E." METHOD 8 (§7): "F(x) and the bound are added, in this order, at the end of each cell line".
unfoldable pub cell_line : ℕ → List ℤ → List ℕ → List ℤ → ℕ → List ℕ
cell_line E f R F x =
    bytes "cell="
    ++ joined (decimal x)
    (signed_decimal (get_or f x (pos 0)) ∷ decimal (printed_bound E (get_or R x 0)) ∷ signed_decimal (get_or F x (pos 0)) ∷ decimal (distribution_bound E R x) ∷ [])

-- The lines of n cells, from that of x on.
unfoldable pub cell_lines : ℕ → List ℤ → List ℕ → List ℤ → ℕ → ℕ → List ℕ
cell_lines E f R F x zero = []
cell_lines E f R F x (suc n) = cell_line E f R F x ++ cell_lines E f R F (suc x) n

-- The lines of an accepted fund with horizon X; §3: "The listing gains a last line `gross=`". And "A refusal prints only `refused=number,place`."
unfoldable pub listed : ℕ → Answer → List ℕ
listed X a =
    bytes "truncation=" ++ (joined (decimal a.figures.truncation) []
    ++ (bytes "mean=" ++ (joined (decimal a.figures.mean) []
    ++ (cell_lines a.figures.truncation a.f a.R a.F 0 (suc X)
    ++ (bytes "premium=" ++ (joined (signed_decimal a.figures.premium) []
    ++ (bytes "within=" ++ (joined (decimal a.figures.within) []
    ++ (bytes "gross=" ++ joined (decimal a.figures.gross) [])))))))))

unfoldable pub refused_line : Refusal → ℕ → List ℕ
refused_line why place = bytes "refused=" ++ joined (decimal (number_of why)) (decimal place ∷ [])

unfoldable pub printed : Answer → ℕ → Verdict → List ℕ
printed a X (Ok tt) = listed X a
printed a X (Err stop) = refused_line stop.why stop.place

-- The horizon of a file that can be read.
unfoldable pub horizon_in : Reading → ℕ
horizon_in (read fund) = fund.header.horizon
horizon_in (stopped why place) = 0

-- The program lends result slices that are long enough for every horizon.
abbrev pub enough : Lengths
enough = record { D = suc most_horizon; H = suc most_horizon; f = suc most_horizon; R = suc most_horizon; F = suc most_horizon }

-- The listing of what was read of a text.
unfoldable pub listing_to : List ℕ → Reading → List ℕ
listing_to text r =
    let a = answer_to text enough r in
    printed a (horizon_in r) a.verdict

abbrev pub listing : List ℕ → List ℕ
listing file = listing_to file (reading file)
