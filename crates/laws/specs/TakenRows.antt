-- The numbers of a row that is taken from a sheet have at most seven digits (taken_short), and it is of the sheet's kind (rate_row_lem, member_row_lem).
use Rattle.std.specs.Prelude.{◌≡◌, Bool, true, false, List, [], ◌∷◌, ◌++◌, map, ℕ, zero, suc, ◌≤◌, ◌<◌, eqb, ltb, length, if◌then◌else◌, Float, None, Option, Some, option_map}
use Rattle.std.proofs.Common.{subst, arith}
use Rattle.fund.specs.declared.Rate.{Rate}
use Rattle.fund.specs.declared.Member.{Member}
use Rattle.fund.specs.declared.SheetRow.{SheetRow}
use Rattle.fund.specs.declared.SheetRow.TheVariants.{Rate as RateRow, Member as MemberRow}
use Rattle.fund.specs.Limits.{most_age, most_rate, least_group, most_group, most_amount, least_lives, most_lives}
use Rattle.fund.specs.SheetCells.{or_else, seek, whole_of, rate_of, at_least, whole_in, amount_of, rate_in, rate_joined, member_joined, rate_taken, member_taken, rate_floats, member_floats, rate_width, member_width, rate_row_of, member_row_of}
use Rattle.fund.specs.Sheets.{rows_of, sheet_rows, rate_row_in, member_row_in, rate_rows, member_rows}
use Rattle.laws.specs.Accepted.{All, all_append, all_of}
use Rattle.laws.specs.Decimals.{seven_digits}
use Rattle.laws.specs.RowTexts.{ShortRate, ShortMember}

-- ---- cells
-- a cell is taken as a number below n, or not taken
abbrev Below : ℕ → Option ℕ → Type 0
Below n (Some k) = k < n
Below n None = Unit {0}

below_more : (m n : ℕ) (t : Option ℕ) → m ≤ n → Below m t → Below n t
below_more m n (Some k) h b = omega arith
below_more m n None h b = tt

seek_below : (p : ℕ → Bool) (n : ℕ) → Below n (seek p n)
unfolding seek or_else
seek_below p zero = tt
seek_below p (suc n) = go (p n) (below_more n (suc n) (seek p n) (omega arith) (seek_below p n))
  where
    go : (b : Bool) → Below (suc n) (seek p n) → Below (suc n) (or_else b n (seek p n))
    go true h = omega arith
    go false h = h

at_least_below : (least n : ℕ) (t : Option ℕ) → Below n t → Below n (at_least least t)
unfolding at_least
at_least_below least n None h = tt
at_least_below least n (Some k) h = go (ltb k least)
  where
    go : (b : Bool) → Below n (if b then None else Some k)
    go true = tt
    go false = h

abbrev ShortCell : Option ℕ → Type 0
ShortCell t = Below seven_digits t

number_short : (least most : ℕ) (c : Option Float) → suc most ≤ seven_digits → ShortCell (whole_in least most c)
unfolding whole_in whole_of
number_short least most None h = tt
number_short least most (Some x) h = at_least_below least seven_digits (whole_of x most) (below_more (suc most) seven_digits (whole_of x most) h (seek_below _ (suc most)))

amount_short : (c : Option Float) → ShortCell (amount_of c)
unfolding amount_of whole_of
amount_short None = omega arith
amount_short (Some x) = below_more (suc most_amount) seven_digits (whole_of x most_amount) (omega arith) (seek_below _ (suc most_amount))

rate_short : (c : Option Float) → ShortCell (rate_in c)
unfolding rate_in rate_of
rate_short None = tt
rate_short (Some x) = below_more (suc most_rate) seven_digits (rate_of x) (omega arith) (seek_below _ (suc most_rate))

-- ---- rows
abbrev ShortRow : Option SheetRow → Type 0
ShortRow (Some (RateRow r)) = ShortRate r
ShortRow (Some (MemberRow m)) = ShortMember m
ShortRow None = Unit {0}

rate_joined_lem : (age q i : Option ℕ) → ShortCell age → ShortCell q → ShortCell i → ShortRow (option_map RateRow (rate_joined age q i))
unfolding rate_joined
rate_joined_lem (Some age) (Some q) (Some i) a b c = (a, (b, (c, tt)))
rate_joined_lem (Some age) (Some q) None a b c = tt
rate_joined_lem (Some age) None i a b c = tt
rate_joined_lem None q i a b c = tt

member_joined_lem : (age group d e lives : Option ℕ) → ShortCell age → ShortCell group → ShortCell d → ShortCell e → ShortCell lives → ShortRow (option_map MemberRow (member_joined age group d e lives))
unfolding member_joined
member_joined_lem (Some age) (Some group) (Some d) (Some e) (Some lives) a b c f g = (a, (b, (c, (f, (g, tt)))))
member_joined_lem (Some age) (Some group) (Some d) (Some e) None a b c f g = tt
member_joined_lem (Some age) (Some group) (Some d) None lives a b c f g = tt
member_joined_lem (Some age) (Some group) None e lives a b c f g = tt
member_joined_lem (Some age) None d e lives a b c f g = tt
member_joined_lem None group d e lives a b c f g = tt

rate_row_short : (row : List ℕ) → ShortRow (rate_row_in row)
unfolding rate_row_in rate_row_of
rate_row_short row = go (eqb (length row) rate_width)
  where
    go : (b : Bool) → ShortRow (option_map RateRow (if b then rate_taken (rate_floats row) else None))
    go true = rate_joined_lem _ _ _ (number_short 0 most_age _ (omega arith)) (rate_short _) (rate_short _)
    go false = tt

member_row_short : (row : List ℕ) → ShortRow (member_row_in row)
unfolding member_row_in member_row_of
member_row_short row = go (eqb (length row) member_width)
  where
    go : (b : Bool) → ShortRow (option_map MemberRow (if b then member_taken (member_floats row) else None))
    go true =
        member_joined_lem _ _ _ _ _ (number_short 0 most_age _ (omega arith)) (number_short least_group most_group _ (omega arith)) (amount_short _) (amount_short _)
        (number_short least_lives most_lives _ (omega arith))
    go false = tt

-- A rate sheet's row is taken as no member, and a member sheet's as no rate.
abbrev pub NoMember : Option SheetRow → Type 0
NoMember (Some (RateRow r)) = Unit {0}
NoMember (Some (MemberRow m)) = ⊥
NoMember None = Unit {0}

abbrev pub NoRate : Option SheetRow → Type 0
NoRate (Some (RateRow r)) = ⊥
NoRate (Some (MemberRow m)) = Unit {0}
NoRate None = Unit {0}

joined_rate : (age q i : Option ℕ) → NoMember (option_map RateRow (rate_joined age q i))
unfolding rate_joined
joined_rate (Some age) (Some q) (Some i) = tt
joined_rate (Some age) (Some q) None = tt
joined_rate (Some age) None i = tt
joined_rate None q i = tt

joined_member : (age group d e lives : Option ℕ) → NoRate (option_map MemberRow (member_joined age group d e lives))
unfolding member_joined
joined_member (Some age) (Some group) (Some d) (Some e) (Some lives) = tt
joined_member (Some age) (Some group) (Some d) (Some e) None = tt
joined_member (Some age) (Some group) (Some d) None lives = tt
joined_member (Some age) (Some group) None e lives = tt
joined_member (Some age) None d e lives = tt
joined_member None group d e lives = tt

pub rate_row_lem : (row : List ℕ) → NoMember (rate_row_in row)
unfolding rate_row_in rate_row_of
rate_row_lem row = go (eqb (length row) rate_width)
  where
    go : (b : Bool) → NoMember (option_map RateRow (if b then rate_taken (rate_floats row) else None))
    go true = joined_rate _ _ _
    go false = tt

pub member_row_lem : (row : List ℕ) → NoRate (member_row_in row)
unfolding member_row_in member_row_of
member_row_lem row = go (eqb (length row) member_width)
  where
    go : (b : Bool) → NoRate (option_map MemberRow (if b then member_taken (member_floats row) else None))
    go true = joined_member _ _ _ _ _
    go false = tt

-- ---- sheets
members_short : (ms : List Member) → All ShortRow (member_rows ms) → All ShortMember ms
members_short [] h = tt
members_short (m ∷ ms) h = (h.0, members_short ms h.1)

rows_short : (rs : List Rate) (ms : List Member) → All ShortRow (rate_rows rs ++ member_rows ms) → (All ShortRate rs) × (All ShortMember ms)
rows_short [] ms h = (tt, members_short ms h)
rows_short (r ∷ rs) ms h = let k = rows_short rs ms h.1 in ((h.0, k.0), k.1)

pub taken_short : (rates members : List ℕ) (rs : List Rate) (ms : List Member) → sheet_rows rates members ≡ rate_rows rs ++ member_rows ms → (All ShortRate rs) × (All ShortMember ms)
unfolding sheet_rows
taken_short rates members rs ms e =
    rows_short rs ms
    (subst (λ rows. All ShortRow rows) e
    (all_append ShortRow (map rate_row_in (rows_of rate_width rates)) (map member_row_in (rows_of member_width members))
    (all_of ShortRow rate_row_in rate_row_short (rows_of rate_width rates)) (all_of ShortRow member_row_in member_row_short (rows_of member_width members))))
