-- Where pricing stops: METHOD 2's numbers, and the refusals 3 to 10 in their order, each over all members before the next.
use Rattle.std.specs.Prelude.{Bool, true, false, not, ◌&&◌, ◌||◌, List, [], ◌∷◌, ℕ, suc, ◌+◌, eqb, leb, ltb, length, if◌then◌else◌, Err, None, Ok, Option, Some}
use Rattle.fund.specs.declared.Fund.{Fund}
use Rattle.fund.specs.declared.Rate.{Rate}
use Rattle.fund.specs.declared.Member.{Member}
use Rattle.fund.specs.declared.Life.{Life}
use Rattle.fund.specs.declared.ModelPoint.{ModelPoint}
use Rattle.fund.specs.declared.Refusal.{Refusal}
use Rattle.fund.specs.declared.Refusal.TheVariants.{Form, Range, Edition, Deductible, Unmatched, Half, Load, Order, Short, Wide, Cell as CellRefusal}
use Rattle.fund.specs.Verdict.{Verdict, refused_at}
use Rattle.fund.specs.Limits.{half_rate, most_load, most_truncation, most_bound}
use Rattle.fund.specs.Reading.{FundFile, header_lines}
use Rattle.fund.specs.Folding.{rate_in_force, points, lives, claim, single}
use Rattle.fund.specs.Transform.{load, truncation}
use Rattle.fund.specs.Recursion.{Cell}

abbrev pub number_of : Refusal → ℕ
number_of Form = 1
number_of Range = 2
number_of Edition = 3
number_of Deductible = 4
number_of Unmatched = 5
number_of Half = 6
number_of Load = 7
number_of Order = 8
number_of Short = 9
number_of Wide = 10
number_of CellRefusal = 11

-- "number and place are 0" for a fund that is accepted.
abbrev pub number_in : Verdict → ℕ
number_in (Ok tt) = 0
number_in (Err stop) = number_of stop.why

abbrev pub place_in : Verdict → ℕ
place_in (Ok tt) = 0
place_in (Err stop) = stop.place

-- The place, counted from `at`, of the first of a list that meets a condition.
unfoldable pub first : {A : Type 0} → (A → Bool) → ℕ → List A → Option ℕ
first met at [] = None
first met at (a ∷ rest) =
    let after = first met (suc at) rest in
    if met a then Some at else after

-- 5 (§2): "left only for an age below the first row, or an empty rate table", where no rate is in force.
unfoldable pub unmatched : List Rate → Member → Bool
unmatched rates m = elim (rate_in_force rates m.age) [ None ↦ true | Some r ↦ false ]

-- 6: "group 1, q + i at least 500,000 after folding"
unfoldable pub half : Life → Bool
half m = single m && leb half_rate (claim m)

-- The lives of a line are alike, and the place is the line's.
unfoldable pub half_line : ModelPoint → Bool
half_line p = half p.life

-- 10: "some R(x) above 250,000 units"
unfoldable pub wide : Cell → Bool
wide y = ltb most_bound y.R

-- The lengths of the five result slices.
pub record Lengths : Type 0 where
  pub D : ℕ
  pub H : ℕ
  pub f : ℕ
  pub R : ℕ
  pub F : ℕ

-- 9: "one of the four result slices has fewer than X + 1 cells"; §1, of the running sums: "their slice counts under
-- short (9)".
unfoldable pub any_short : List ℕ → ℕ → Bool
any_short [] X = false
any_short (n ∷ rest) X = leb n X || any_short rest X

unfoldable pub short : Lengths → ℕ → Bool
short n X = any_short (n.D ∷ n.H ∷ n.f ∷ n.R ∷ n.F ∷ []) X

-- A refusal where the condition holds at a place, else what follows.
unfoldable pub refuse : Refusal → Option ℕ → Verdict → Verdict
refuse why None after = after
refuse why (Some place) after = refused_at why place

-- The condition of a refusal whose place is 0.
unfoldable pub at0 : Bool → Option ℕ
at0 holds = if holds then Some 0 else None

-- The line of the first member: the header lines and the rate lines stand before it.
unfoldable pub first_member : FundFile → ℕ
first_member file = suc (length header_lines) + length file.rates

-- 7 to 10, of the header's figures, the lives and the cells of 0, 1, .. to X.
unfoldable pub valued : Fund → List Life → Lengths → List Cell → Verdict
valued fund ms n cells =
    refuse Load (at0 (ltb most_load (load fund.frequency ms)))
    (refuse Order (at0 (ltb most_truncation (truncation fund.order ms)))
    (refuse Short (at0 (short n fund.horizon))
    (refuse Wide (first wide 0 cells) (Ok tt))))

-- 3 to 6, and what follows them.
unfoldable pub matched : FundFile → Verdict → Verdict
matched file after =
    let fund = file.header in
    refuse Edition (at0 (not (eqb fund.rates fund.members)))
    (refuse Deductible (at0 (ltb (suc fund.horizon) fund.deductible))
    (refuse Unmatched (first (unmatched file.rates) (first_member file) file.members)
    (refuse Half (first half_line (first_member file) (points file)) after)))

-- 3 to 10.
unfoldable pub verdict : FundFile → Lengths → List Cell → Verdict
verdict file n cells = matched file (valued file.header (lives file) n cells)
