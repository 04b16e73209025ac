-- A whole number of small units, as of hundredths, written with a point.
use Rattle.std.specs.Prelude.{List, [], ◌∷◌, ◌++◌, ℕ, zero, suc, ◌+◌, ◌/◌, ◌%◌, ◌^◌, ℤ, pos, negsuc}
use Rattle.fund.specs.Listing.{decimal}

-- The last k digits of a number, with leading zeros.
unfoldable pub padded : ℕ → ℕ → List ℕ
padded zero n = []
padded (suc k) n = padded k (n / 10) ++ ((48 + n % 10) ∷ [])

-- n units of 10^-k: the digits before the point, the point, and k digits behind it.
unfoldable pub pointed : ℕ → ℕ → List ℕ
pointed k n = decimal (n / 10 ^ k) ++ (46 ∷ padded k n)

-- A negative number starts with `-`.
unfoldable pub signed_pointed : ℕ → ℤ → List ℕ
signed_pointed k (pos n) = pointed k n
signed_pointed k (negsuc n) = 45 ∷ pointed k (suc n)
