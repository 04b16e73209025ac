-- METHOD 11: what differs between two fund files beside the editions and the rate lines.
use Rattle.std.specs.Prelude.{Bool, not, ◌&&◌, List, [], ◌∷◌, ℕ, zero, suc, ◌+◌, eqb, take, if◌then◌else◌, Option, Some, None, option_map}
use Rattle.fund.specs.declared.Fund.{Fund}
use Rattle.fund.specs.declared.Member.{Member}
use Rattle.fund.specs.Limits.{most_rates, most_members}
use Rattle.fund.specs.Reading.{FundFile}
use Rattle.fund.specs.Refusals.{first_member}
use Rattle.rows.specs.declared.Rows.{Rows}
use Rattle.moves.specs.declared.files.MemberLine.{MemberLine}
use Rattle.moves.specs.declared.files.Differences.{Differences}

-- The line of the first header line behind the editions' in which two headers differ: `horizon=` stands in line 3, `worth=` in line 7; or none.
unfoldable pub first_header_line : Fund → Fund → Option ℕ
first_header_line old new =
    if not (eqb old.horizon new.horizon) then Some 3 else
    if not (eqb old.order new.order) then Some 4 else
    if not (eqb old.frequency.death new.frequency.death) then Some 5 else
    if not (eqb old.frequency.disability new.frequency.disability) then Some 5 else
    if not (eqb old.deductible new.deductible) then Some 6 else
    if not (eqb old.worth new.worth) then Some 7 else None

unfoldable pub same_member : Member → Member → Bool
same_member m n =
    eqb m.age n.age && (eqb m.group n.group && (eqb m.d n.d && (eqb m.e n.e && eqb m.lives n.lives)))

-- The first member line that differs, or that only one of the files has, counted from `at`; or none.
unfoldable pub first_member_line : ℕ → List Member → List Member → Option ℕ
first_member_line at [] [] = None
first_member_line at [] (n ∷ ns) = Some at
first_member_line at (m ∷ ms) [] = Some at
first_member_line at (m ∷ ms) (n ∷ ns) =
    let after = first_member_line (suc at) ms ns in
    if same_member m n then after else Some at

-- The line of a file in which its member line k stands, counted from 1; the line behind its last member line is that of `end=`.
unfoldable pub member_line : FundFile → ℕ → ℕ
member_line file zero = 0
member_line file (suc k) = first_member file + k

-- A member line with its line in either file.
abbrev pub in_both : FundFile → FundFile → ℕ → MemberLine
in_both old new k = record { member = k; old_line = member_line old k; new_line = member_line new k }

unfoldable pub member_difference : FundFile → FundFile → Option MemberLine
member_difference old new = option_map (in_both old new) (first_member_line 1 old.members new.members)

unfoldable pub differences : FundFile → FundFile → Differences
differences old new = record { header = first_header_line old.header new.header; member = member_difference old new }

-- The file of rows that were read: a file has no more.
unfoldable pub file_in : Rows → FundFile
file_in r = record { header = r.fund; rates = take most_rates r.rates.now; members = take most_members r.members.now }
