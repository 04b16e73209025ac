-- METHOD 9 (§6): the cells of a sheet, which numbers are taken in them, and as what.
use Rattle.std.specs.Prelude.{Bool, true, false, List, [], ◌∷◌, ℕ, zero, suc, ◌+◌, ◌*◌, eqb, ltb, pos, Float, length, take, drop, if◌then◌else◌, None, Option, Some}
use Rattle.std.specs.Float.{nan, inf, fin, binary64}
use Rattle.std.specs.Float.Ieee.{of_bits, of_int, div, eq}
use Rattle.fund.specs.declared.RateFloats.{RateFloats}
use Rattle.fund.specs.declared.MemberFloats.{MemberFloats}
use Rattle.fund.specs.declared.Rate.{Rate}
use Rattle.fund.specs.declared.Member.{Member}
use Rattle.fund.specs.Limits.{most_age, most_rate, least_group, most_group, most_amount, least_lives, most_lives}

-- "eight bytes each, least byte first"
unfoldable pub least_first : List ℕ → ℕ
least_first [] = 0
least_first (b ∷ s) = least_first s * 256 + b

-- The binary64 of the eight bytes from a place on. Of its 64 bits, `of_bits` takes the highest as the sign, the next eleven as the exponent and
-- the other fifty-two as the fraction: a NaN is any pattern whose exponent's bits are all 1 and whose fraction is not 0.
abbrev pub float_at : List ℕ → ℕ → Float
float_at row at = of_bits binary64 (least_first (take 8 (drop at row)))

-- "A cell is either a number or a blank, and a blank is any NaN."
unfoldable pub cell_of : Float → Option Float
cell_of nan = None
cell_of (inf s) = Some (inf s)
cell_of (fin s m e) = Some (fin s m e)

-- The binary64 of k, and the binary64 quotient of k by d: one division, rounded once.
abbrev pub of_whole : ℕ → Float
of_whole k = of_int binary64 (pos k)

unfoldable pub quotient : ℕ → ℕ → Float
quotient k d = div binary64 (of_whole k) (of_whole d)

-- The number below n that passes a test, where there is one.
unfoldable pub or_else : Bool → ℕ → Option ℕ → Option ℕ
or_else true k after = Some k
or_else false k after = after

unfoldable pub seek : (ℕ → Bool) → ℕ → Option ℕ
seek p zero = None
seek p (suc n) = or_else (p n) n (seek p n)

-- The whole number up to `most` that x equals. `eq` is the standard's comparison: minus zero equals 0, and a NaN equals nothing.
unfoldable pub whole_of : Float → ℕ → Option ℕ
whole_of x most = seek (λ (k : ℕ). eq x (of_whole k)) (suc most)

-- "a rate is taken if it equals the binary64 quotient of some k by 1,000,000, k from 0 to 1,000,000, and k is the rate"
unfoldable pub rate_of : Float → Option ℕ
rate_of x = seek (λ (k : ℕ). eq x (quotient k 1000000)) (suc most_rate)

-- "A number is taken only if it is a whole number inside" METHOD 1's "range for that field"
unfoldable pub at_least : ℕ → Option ℕ → Option ℕ
at_least least None = None
at_least least (Some n) = if ltb n least then None else Some n

unfoldable pub whole_in : ℕ → ℕ → Option Float → Option ℕ
whole_in least most None = None
whole_in least most (Some x) = at_least least (whole_of x most)

-- "A blank is allowed only in an amount and is 0 there."
unfoldable pub amount_of : Option Float → Option ℕ
amount_of None = Some 0
amount_of (Some x) = whole_of x most_amount

unfoldable pub rate_in : Option Float → Option ℕ
rate_in None = None
rate_in (Some x) = rate_of x

-- A row is taken where all its cells are.
unfoldable pub rate_joined : Option ℕ → Option ℕ → Option ℕ → Option Rate
rate_joined (Some age) (Some q) (Some i) = Some (record { age = age; q = q; i = i })
rate_joined (Some age) (Some q) None = None
rate_joined (Some age) None i = None
rate_joined None q i = None

unfoldable pub member_joined : Option ℕ → Option ℕ → Option ℕ → Option ℕ → Option ℕ → Option Member
member_joined (Some age) (Some group) (Some d) (Some e) (Some lives) = Some (record { age = age; group = group; d = d; e = e; lives = lives })
member_joined (Some age) (Some group) (Some d) (Some e) None = None
member_joined (Some age) (Some group) (Some d) None lives = None
member_joined (Some age) (Some group) None e lives = None
member_joined (Some age) None d e lives = None
member_joined None group d e lives = None

-- "The rates come as rows of three (age, q, i), the age as above"
abbrev pub rate_taken : RateFloats → Option Rate
rate_taken r = rate_joined (whole_in 0 most_age (cell_of r.age)) (rate_in (cell_of r.q)) (rate_in (cell_of r.i))

-- METHOD 9 (§8), of the lives: "as a fifth cell that may not be blank".
abbrev pub member_taken : MemberFloats → Option Member
member_taken r =
    member_joined
    (whole_in 0 most_age (cell_of r.age))
    (whole_in least_group most_group (cell_of r.group))
    (amount_of (cell_of r.d))
    (amount_of (cell_of r.e))
    (whole_in least_lives most_lives (cell_of r.lives))

-- "Each row is read as a record of [..] such floats before it is turned into a member": of five since §8.
abbrev pub rate_floats : List ℕ → RateFloats
rate_floats row = record { age = float_at row 0; q = float_at row 8; i = float_at row 16 }

abbrev pub member_floats : List ℕ → MemberFloats
member_floats row = record { age = float_at row 0; group = float_at row 8; d = float_at row 16; e = float_at row 24; lives = float_at row 32 }

-- The bytes of a row: three cells and five. A row of fewer is cut short.
abbrev pub rate_width : ℕ
rate_width = 24

abbrev pub member_width : ℕ
member_width = 40

unfoldable pub rate_row_of : List ℕ → Option Rate
rate_row_of row = if eqb (length row) rate_width then rate_taken (rate_floats row) else None

unfoldable pub member_row_of : List ℕ → Option Member
member_row_of row = if eqb (length row) member_width then member_taken (member_floats row) else None
