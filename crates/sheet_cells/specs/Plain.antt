-- The numbers that float operations are done on: neither a NaN nor a subnormal, by their bits (`Plain`). A host may have its processor take a
-- subnormal as 0, and a comparison would then say that it equals 0; it is never taken (`subnormal_never`).
use Rattle.std.specs.Prelude.{◌≡◌, Bool, true, false, not, ◌&&◌, ℕ, ◌%◌, ◌^◌, ◌<◌, T, ltb, Float, Option, Some}
use Rattle.std.proofs.Common.{sym, subst, ⊎_elim, arith, ltb→lt}
use Rattle.std.specs.Float.{nan, inf, fin, binary64}
use Rattle.std.specs.Float.Ieee.{fits, is_nan, of_bits, to_bits}
use Rattle.std.specs.Float.Ieee.Bits.{of_bits-to_bits, to_bits-lt}
use Rattle.std.specs.Float.Ieee.Fits.{and_l, and_r}
use Rattle.fund.specs.SheetCells.{cell_of}
use Rattle.sheet_cells.specs.Taken.{NeverTaken}
use Rattle.sheet_cells.specs.Patterns.{negative_bits, subnormal_bits, full_or_not}

-- ---- subnormals
-- the exponent's bits are 0 and the fraction's are not, whatever the sign
abbrev pub subnormal : Float → Bool
subnormal x = ltb 0 (to_bits binary64 x % 2 ^ 63) && ltb (to_bits binary64 x % 2 ^ 63) (2 ^ 52)

abbrev pub Plain : Float → Type 0
Plain x = T (not (is_nan x)) × (subnormal x ≡ false)

never_by_bits : (b : ℕ) → b < 2 ^ 64 → 0 < b % 2 ^ 63 → b % 2 ^ 63 < 2 ^ 52 → NeverTaken (of_bits binary64 b)
never_by_bits b w h k = ⊎_elim (λ l. subnormal_bits b (omega arith) (omega arith)) (λ l. negative_bits b (omega arith) w) (full_or_not b (2 ^ 63))

pub subnormal_never : (x : Float) → T (fits binary64 x) → subnormal x ≡ true → NeverTaken x
subnormal_never x h e =
    let b = to_bits binary64 x in
    let t : T (subnormal x) = subst T (sym e) tt in
    let low = ltb→lt 0 (b % 2 ^ 63) (and_l (ltb 0 (b % 2 ^ 63)) (ltb (b % 2 ^ 63) (2 ^ 52)) t) in
    let high = ltb→lt (b % 2 ^ 63) (2 ^ 52) (and_r (ltb 0 (b % 2 ^ 63)) (ltb (b % 2 ^ 63) (2 ^ 52)) t) in
    subst NeverTaken (of_bits-to_bits binary64 x h) (never_by_bits b (to_bits-lt binary64 x h) low high)

-- ---- a cell's number is no NaN
abbrev pub NoNan : Option Float → Type 0
NoNan cell = cell ≡ Some nan → ⊥

pub cell_no_nan : (x : Float) → NoNan (cell_of x)
unfolding cell_of
cell_no_nan nan e = let z : ◌≡◌ {A = ℕ} 0 1 = cc in omega arith
cell_no_nan (inf s) e = let z : ◌≡◌ {A = ℕ} 0 1 = cc in omega arith
cell_no_nan (fin s m p) e = let z : ◌≡◌ {A = ℕ} 0 1 = cc in omega arith

pub number_no_nan : {cell : (Option Float)} (x : Float) → cell ≡ Some x → NoNan cell → T (not (is_nan x))
unfolding is_nan
number_no_nan nan e h = absurd (h e)
number_no_nan (inf s) e h = tt
number_no_nan (fin s m p) e h = tt
