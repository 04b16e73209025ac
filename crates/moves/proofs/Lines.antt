-- Two lists of member lines from line `at` on: alike lines, lines that differ, and a list that ends. And the line in which a member line stands (line_is).
use Rattle.std.specs.Prelude.{◌≡◌, refl, Bool, true, false, List, [], ◌∷◌, ℕ, zero, suc, ◌+◌, ◌<◌, ◌≤◌, length, if◌then◌else◌, Some, None}
use Rattle.std.proofs.Common.{arith}
use Rattle.fund.specs.declared.Member.{Member}
use Rattle.fund.specs.Reading.{FundFile, header_lines}
use Rattle.fund.specs.Refusals.{first_member}
use Rattle.moves.specs.Differences.{same_member, first_member_line, member_line}

module _ (at : ℕ) {old new : List Member} {m n : Member} {ms ns : List Member} (o : old ≡ m ∷ ms) (p : new ≡ n ∷ ns) where
  pub alike : same_member m n ≡ true → first_member_line at old new ≡ first_member_line (suc at) ms ns
  unfolding first_member_line
  alike e = rw (o, p, e) refl

  pub unlike : same_member m n ≡ false → first_member_line at old new ≡ Some at
  unfolding first_member_line
  unlike e = rw (o, p, e) refl

pub both_ended : (at : ℕ) (old new : List Member) → length old ≡ 0 → length new ≡ 0 → first_member_line at old new ≡ None
unfolding first_member_line
both_ended at [] [] e f = refl
both_ended at [] (n ∷ ns) e f = absurd (omega arith)
both_ended at (m ∷ ms) new e f = absurd (omega arith)

pub one_ended : (at : ℕ) (old new : List Member) → (length old ≡ 0) × (0 < length new) → first_member_line at old new ≡ Some at
unfolding first_member_line
one_ended at [] [] e = absurd (omega arith)
one_ended at [] (n ∷ ns) e = refl
one_ended at (m ∷ ms) new e = absurd (omega arith)

pub other_ended : (at : ℕ) (old new : List Member) → (0 < length old) × (length new ≡ 0) → first_member_line at old new ≡ Some at
unfolding first_member_line
other_ended at [] new e = absurd (omega arith)
other_ended at (m ∷ ms) [] e = refl
other_ended at (m ∷ ms) (n ∷ ns) e = absurd (omega arith)

-- how large a line is
pub first_between : (at : ℕ) (old new : List Member) (k : ℕ) → first_member_line at old new ≡ Some k → (at ≤ k) × (k ≤ at + length old + length new)
unfolding first_member_line
first_between at [] [] k e = let z : ◌≡◌ {A = ℕ} 0 1 = cc e in absurd (omega arith)
first_between at [] (n ∷ ns) k e = let z : at ≡ k = cc e in (omega arith, omega arith)
first_between at (m ∷ ms) [] k e = let z : at ≡ k = cc e in (omega arith, omega arith)
first_between at (m ∷ ms) (n ∷ ns) k e = go (same_member m n) e (first_between (suc at) ms ns k)
  where
    go : (b : Bool) → (if b then first_member_line (suc at) ms ns else Some at) ≡ Some k →
        (first_member_line (suc at) ms ns ≡ Some k → (suc at ≤ k) × (k ≤ suc at + length ms + length ns)) → (at ≤ k) × (k ≤ at + suc (length ms) + suc (length ns))
    go true e h = (omega (arith, h e), omega (arith, h e))
    go false e h = let z : at ≡ k = cc e in (omega arith, omega arith)

-- the line of a member line behind so many rates
pub line_is : (file : FundFile) (k : ℕ) → 0 < k → length header_lines + length file.rates + k ≡ member_line file k
unfolding member_line first_member header_lines
line_is file zero h = absurd (omega arith)
line_is file (suc k) h = omega arith
