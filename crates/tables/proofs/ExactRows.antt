-- The definitions' exact values are those of the independent calculation, for every row: each numerator over METHOD 10's
-- denominator equals the row's fraction, multiplied out. By computing both sides.
use mathlib.Core.Path.{◌≡◌, refl}
use mathlib.Core.List.{List, [], ◌∷◌, ◌++◌, map}
use Prim.Native.Nat.{ℕ, suc, ◌*◌, ◌^◌}
use lib.IntN.{ℤ, pos, ◌*ℤ◌}
use Rattle.fund.specs.Base.{bytes, total, sum, sumℤ, table}
use Rattle.fund.specs.Lines.{begun, lines_from, lines}
use Rattle.fund.specs.Spelling.{digits, is_number, value_from, value, in_first, fields, all_numbers, numbers, behind, spelled}
use Rattle.fund.specs.Reading.{FundFile, Reading, read, stopped, between, in_ranges, header_lines, header_of, row_of, rising, rate_in_range, lives_in_all, member_in_range, no_member, at_end, read_rows, read_header, reading}
use Rattle.fund.specs.Folding.{held_until, rate_in_force, folded, life, point, points, copies, lives}
use Rattle.fund.specs.Transform.{death_weight, disability_weight, lambda, mean}
use Rattle.fund.specs.Exact.{factorial, singles, denominator, shifted, one, single_part, weight_at, convolved, fold, series, replaced_part, power, exponential, exact, exact_premium, after, outcomes, excess}
use Rattle.fund.specs.Starred.{text}
use Rattle.tables.specs.ExactRows.{Fraction, ExactRow, exact_rows}

-- The exact values from x on, the exact premium and the average excess, each times the row's denominator.
abbrev values_from : FundFile → ℕ → List Fraction → List ℤ
values_from file x [] = []
values_from file x (v ∷ vs) =
    (exact file.header.horizon file.header.frequency (lives file) x *ℤ pos v.den) ∷ values_from file (suc x) vs

abbrev computed : Reading → ExactRow → List ℤ
computed (stopped why place) r = []
computed (read file) r =
    let X = file.header.horizon in
    let M = file.header.deductible in
    let a = file.header.frequency in
    let ms = lives file in
    values_from file 0 r.values
    ++ ((exact_premium X M (mean a ms) a ms *ℤ pos r.premium.den)
    ∷ map (λ (v : Fraction). pos (10 ^ 12 * excess M (outcomes ms) * v.den)) r.average)

-- The row's numerators, each times METHOD 10's denominator.
abbrev stated : Reading → ExactRow → List ℤ
stated (stopped why place) r = pos 0 ∷ []
stated (read file) r =
    let D = denominator file.header.horizon (lives file) in
    map (λ (v : Fraction). pos (v.num * D)) r.values
    ++ (pos (r.premium.num * D)
    ∷ map (λ (v : Fraction). pos (v.num * 10 ^ (6 * singles (lives file)))) r.average)

pub every_exact_row : map (λ (r : ExactRow). computed (reading r.file) r) exact_rows ≡ map (λ (r : ExactRow). stated (reading r.file) r) exact_rows
unfolding bytes total sum sumℤ table begun lines_from lines digits is_number value_from value in_first fields all_numbers numbers behind spelled between in_ranges header_lines header_of row_of rising rate_in_range lives_in_all member_in_range no_member at_end read_rows read_header reading held_until rate_in_force folded life point points copies lives death_weight disability_weight lambda mean factorial singles denominator shifted one single_part weight_at convolved fold series replaced_part power exponential exact exact_premium after outcomes excess text exact_rows
every_exact_row = refl
