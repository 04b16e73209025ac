-- What a line is that reading passes: a rate row or a member row in its range, or the last line (passed_line); and how reading goes on behind it
-- (on_rate, on_member, on_end).
use Rattle.std.specs.Prelude.{◌≡◌, Bool, true, false, ℕ, suc, eqb, length}
use Rattle.std.proofs.Math.Path.{refl}
use mathlib.Core.List.{List, [], ◌∷◌, ◌++◌}
use Rattle.std.proofs.Common.{arith}
use Rattle.fund.specs.declared.Fund.{Fund}
use Rattle.fund.specs.declared.Rate.{Rate}
use Rattle.fund.specs.declared.Member.{Member}
use Rattle.fund.specs.declared.Refusal.{Refusal}
use Rattle.fund.specs.declared.Refusal.TheVariants.{Form, Range}
use Rattle.fund.specs.Lines.{Line}
use Rattle.fund.specs.Reading.{FundFile, Reading, read, stopped, Row, rate_row, member_row, end_row, other_row, row_of, rate_in_range, member_in_range, no_member, at_end, read_rows}

pub never : (why : Refusal) (n : ℕ) (fund : FundFile) → stopped why n ≡ read fund → ⊥
never why n fund e = let z : ◌≡◌ {A = ℕ} 0 1 = cc in omega arith

-- reading stops unless a test passes
pub pass : (b : Bool) (why : Refusal) (n : ℕ) (next : Reading) (fund : FundFile) → elim b [ false ↦ stopped why n | true ↦ next ] ≡ read fund → (b ≡ true) × (next ≡ read fund)
pass true why n next fund e = (refl, e)
pass false why n next fund e = absurd (never why n fund e)

-- what follows a test that reading must pass
pub on_pass : (t : Bool) (stop x y : Reading) → (t ≡ true → x ≡ y) → ◌≡◌ {A = Reading} (elim t [ false ↦ stop | true ↦ x ]) (elim t [ false ↦ stop | true ↦ y ])
on_pass true stop x y h = h refl
on_pass false stop x y h = refl

-- what holds of both ways
pub on_either : (P : Reading → Type 0) (t : Bool) (stop next : Reading) → P stop → P next → P (elim t [ false ↦ stop | true ↦ next ])
on_either P true stop next h k = k
on_either P false stop next h k = h

module _ (n : ℕ) (header : Fund) (rates : List Rate) (members : List Member) where
  abbrev pub fund_so_far : FundFile
  fund_so_far = record { header = header; rates = rates; members = members }

  pub data PassedLine (l : Line) (ls : List Line) (fund : FundFile) : Type 0 where
    rate_line : (r : Rate) → row_of l ≡ rate_row r → no_member members ≡ true → rate_in_range rates r ≡ true → read_rows (suc n) header (rates ++ (r ∷ [])) members ls ≡ read fund → PassedLine l ls fund
    member_line : (m : Member) → row_of l ≡ member_row m → member_in_range members m ≡ true → read_rows (suc n) header rates (members ++ (m ∷ [])) ls ≡ read fund → PassedLine l ls fund
    end_line : (k : ℕ) → row_of l ≡ end_row k → eqb k (length members) ≡ true → ls ≡ [] → fund_so_far ≡ fund → PassedLine l ls fund

  ended : (ls : List Line) (fund : FundFile) → at_end (suc n) fund_so_far ls ≡ read fund → (ls ≡ []) × (fund_so_far ≡ fund)
  unfolding at_end
  ended [] fund e = (refl, cc)
  ended (l ∷ ls) fund e = absurd (never Form (suc n) fund e)

  pub passed_line : (l : Line) (ls : List Line) (fund : FundFile) → read_rows n header rates members (l ∷ ls) ≡ read fund → PassedLine l ls fund
  unfolding read_rows
  passed_line l ls fund e = go (row_of l) refl e
    where
      go : (row : Row) → row_of l ≡ row → read_rows n header rates members (l ∷ ls) ≡ read fund → PassedLine l ls fund
      go (rate_row r) s h =
          let h1 = pass (no_member members) Form n _ fund (rw (s, read_rows) at h) in
          let h2 = pass (rate_in_range rates r) Range n _ fund h1.1 in
          rate_line r s h1.0 h2.0 h2.1
      go (member_row m) s h = let h2 = pass (member_in_range members m) Range n _ fund (rw (s, read_rows) at h) in member_line m s h2.0 h2.1
      go (end_row k) s h =
          let h2 = pass (eqb k (length members)) Range n _ fund (rw (s, read_rows) at h) in
          let z = ended ls fund h2.1 in
          end_line k s h2.0 z.0 z.1
      go other_row s h = absurd (never Form n fund (rw (s, read_rows) at h))

  module _ (l : Line) (ls : List Line) where
    pub on_rate : (r : Rate) → row_of l ≡ rate_row r → no_member members ≡ true → rate_in_range rates r ≡ true → read_rows n header rates members (l ∷ ls) ≡ read_rows (suc n) header (rates ++ (r ∷ [])) members ls
    unfolding read_rows
    on_rate r s a b = rw (s, read_rows) (rw (a, b))

    pub on_member : (m : Member) → row_of l ≡ member_row m → member_in_range members m ≡ true → read_rows n header rates members (l ∷ ls) ≡ read_rows (suc n) header rates (members ++ (m ∷ [])) ls
    unfolding read_rows
    on_member m s b = rw (s, read_rows) (rw b)

    pub on_end : (k : ℕ) → row_of l ≡ end_row k → eqb k (length members) ≡ true → ls ≡ [] → read_rows n header rates members (l ∷ ls) ≡ read fund_so_far
    unfolding read_rows at_end
    on_end k s b z = rw (s, read_rows) (rw (b, z))
