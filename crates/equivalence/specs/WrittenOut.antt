-- METHOD 3 (§8): "A line is priced exactly as that many copies of itself in that spot". The fund whose member lines are written out as copies
-- with lives 1 has the same lives (lives_out), so the same exact values (exact_out, premium_out), and the same answer but for the places of 5
-- and 6, which are those of the first copy (out_answers).
use Rattle.std.specs.Prelude.{◌≡◌, Bool, true, false, replicate, take, Err, None, Ok, Option, Some}
use Rattle.std.proofs.Math.Path.{refl, ap}
use Rattle.std.proofs.Common.{sym, ◌∙◌, ap₂}
use mathlib.Core.List.{List, [], ◌∷◌, ◌++◌, map, map-append}
use Prim.Native.Nat.{ℕ, zero, suc, ◌+◌, ◌-◌, ◌≤◌}
use native.Mathlib.Omega.{arith}
use Rattle.fund.specs.declared.Rate.{Rate}
use Rattle.fund.specs.declared.Member.{Member}
use Rattle.fund.specs.Verdict.{Verdict}
use Rattle.fund.specs.Base.{total}
use Rattle.fund.specs.Limits.{least_lives}
use Rattle.fund.specs.Reading.{FundFile, read, lives_in_all}
use Rattle.fund.specs.Folding.{rate_in_force, folded, life, point, points, copies, lives}
use Rattle.fund.specs.Refusals.{first, unmatched, half, half_line, Lengths, first_member, matched, verdict}
use Rattle.fund.specs.Answer.{fund_cells, refused, accepted, answer_of, answer_to}
use Rattle.fund.specs.Distance.{file_denominator, exact_at, exact_premium_of}
use Rattle.laws.specs.Accepted.{All}
use Rattle.laws.specs.Copies.{copies_append}
use Rattle.equivalence.specs.SameRates.{verdict_for, moved, first_moved, later, verdict_later, SameButPlaces}

-- A member line of one life, and a line as so many of these.
unfoldable pub one_life : Member → Member
one_life m = record { age = m.age; group = m.group; d = m.d; e = m.e; lives = 1 }

unfoldable pub written_out : List Member → List Member
written_out [] = []
written_out (m ∷ ms) = replicate m.lives (one_life m) ++ written_out ms

abbrev pub out_file : FundFile → FundFile
out_file file = record { header = file.header; rates = file.rates; members = written_out file.members }

-- The line of the first copy of the member line at a place: behind all copies of the lines before it.
unfoldable pub out_place : FundFile → ℕ → ℕ
out_place file place = first_member file + lives_in_all (take (place - first_member file) file.members)

-- ---- the lives
one_folded : (o : Option Rate) (m : Member) → folded o (one_life m) ≡ folded o m
unfolding folded one_life
one_folded None m = refl
one_folded (Some r) m = refl

one_life_lem : (rates : List Rate) (m : Member) → life rates (one_life m) ≡ life rates m
unfolding life one_life
one_life_lem rates m = one_folded (rate_in_force rates m.age) m

copies_one : (rates : List Rate) (m : Member) (n : ℕ) → copies (map (point rates) (replicate n (one_life m))) ≡ replicate n (life rates m)
unfolding copies point one_life
copies_one rates m zero = refl
copies_one rates m (suc n) = ap₂ (λ l ls. l ∷ ls) (one_life_lem rates m) (copies_one rates m n)

copies_out : (rates : List Rate) (ms : List Member) → copies (map (point rates) (written_out ms)) ≡ copies (map (point rates) ms)
unfolding written_out copies point
copies_out rates [] = refl
copies_out rates (m ∷ ms) =
    ap copies (map-append (point rates) (replicate m.lives (one_life m)) (written_out ms))
    ∙ copies_append (map (point rates) (replicate m.lives (one_life m))) (map (point rates) (written_out ms))
    ∙ ap₂ ◌++◌ (copies_one rates m m.lives) (copies_out rates ms)

pub lives_out : (file : FundFile) → lives (out_file file) ≡ lives file
unfolding lives points
lives_out file = copies_out file.rates file.members

-- ---- the exact values
pub exact_out : (file : FundFile) (x : ℕ) → exact_at (out_file file) x ≡ exact_at file x
unfolding exact_at
exact_out file x = rw (lives_out file)

pub premium_out : (file : FundFile) → exact_premium_of (out_file file) ≡ exact_premium_of file
unfolding exact_premium_of
premium_out file = rw (lives_out file)

pub denominator_out : (file : FundFile) → file_denominator (out_file file) ≡ file_denominator file
unfolding file_denominator
denominator_out file = rw (lives_out file)

-- ---- the first line that meets a condition, which a line's copies meet where it does
moved_twice : (f g : ℕ → ℕ) (o : Option ℕ) → moved f (moved g o) ≡ moved (λ place. f (g place)) o
moved_twice f g None = refl
moved_twice f g (Some place) = refl

moved_same : (f g : ℕ → ℕ) → ((place : ℕ) → f place ≡ g place) → (o : Option ℕ) → moved f o ≡ moved g o
moved_same f g h None = refl
moved_same f g h (Some place) = ap Some (h place)

first_now : {A : Type 0} (met : A → Bool) (a : A) → met a ≡ true → (at : ℕ) (rest : List A) → first met at (a ∷ rest) ≡ Some at
unfolding first
first_now met a e at rest = rw e

first_skips : {A : Type 0} (met : A → Bool) (a : A) → met a ≡ false → (n at : ℕ) (rest : List A) → first met at (replicate n a ++ rest) ≡ first met (n + at) rest
unfolding first
first_skips met a e zero at rest = let z : at ≡ 0 + at = omega arith in ap (λ k. first met k rest) z
first_skips met a e (suc n) at rest = let z : n + suc at ≡ suc n + at = omega arith in rw e (first_skips met a e n (suc at) rest ∙ ap (λ k. first met k rest) z)

module _ (met : Member → Bool) (same : (m : Member) → met (one_life m) ≡ met m) where
  index_out : (ms : List Member) → All (λ (m : Member). least_lives ≤ m.lives) ms → first met 0 (written_out ms) ≡ moved (λ j. lives_in_all (take j ms)) (first met 0 ms)
  unfolding written_out first lives_in_all total
  index_out [] h = refl
  index_out (m ∷ ms) h = go (met m) refl m.lives refl (index_out ms h.1)
    where
      one_more : (j : ℕ) → m.lives + lives_in_all (take j ms) ≡ lives_in_all (take (1 + j) (m ∷ ms))
      one_more j = let z : suc j ≡ 1 + j = omega arith in ap (λ k. lives_in_all (take k (m ∷ ms))) z

      go : (b : Bool) → met m ≡ b → (n : ℕ) → m.lives ≡ n → first met 0 (written_out ms) ≡ moved (λ j. lives_in_all (take j ms)) (first met 0 ms) →
          first met 0 (replicate m.lives (one_life m) ++ written_out ms) ≡ moved (λ j. lives_in_all (take j (m ∷ ms))) (first met 0 (m ∷ ms))
      go b e zero z later_ones = absurd (omega (arith, h.0, z))
      go true e (suc n) z later_ones =
          ap (λ k. first met 0 (replicate k (one_life m) ++ written_out ms)) z
          ∙ first_now met (one_life m) (same m ∙ e) 0 (replicate n (one_life m) ++ written_out ms)
          ∙ sym (ap (moved (λ j. lives_in_all (take j (m ∷ ms)))) (first_now met m e 0 ms))
      go false e (suc n) z later_ones =
          let passed : first met 0 (m ∷ ms) ≡ first met 1 ms = rw e in
          first_skips met (one_life m) (same m ∙ e) m.lives 0 (written_out ms)
          ∙ first_moved met m.lives 0 (written_out ms)
          ∙ ap (moved (λ place. m.lives + place)) later_ones
          ∙ moved_twice (λ place. m.lives + place) (λ j. lives_in_all (take j ms)) (first met 0 ms)
          ∙ moved_same _ _ one_more (first met 0 ms)
          ∙ sym (moved_twice (λ j. lives_in_all (take j (m ∷ ms))) (λ j. 1 + j) (first met 0 ms))
          ∙ ap (moved (λ j. lives_in_all (take j (m ∷ ms)))) (sym (first_moved met 1 0 ms) ∙ sym passed)

  first_out : (at : ℕ) (ms : List Member) → All (λ (m : Member). least_lives ≤ m.lives) ms →
      first met at (written_out ms) ≡ moved (λ place. at + lives_in_all (take (place - at) ms)) (first met at ms)
  first_out at ms h =
      let z : at ≡ at + 0 = omega arith in
      let back : (j : ℕ) → j ≡ at + j - at = λ j. omega arith in
      ap (λ k. first met k (written_out ms)) z
      ∙ first_moved met at 0 (written_out ms)
      ∙ ap (moved (λ place. at + place)) (index_out ms h)
      ∙ moved_twice (λ place. at + place) (λ j. lives_in_all (take j ms)) (first met 0 ms)
      ∙ moved_same _ _ (λ j. ap (λ k. at + lives_in_all (take k ms)) (back j)) (first met 0 ms)
      ∙ sym (moved_twice (λ place. at + lives_in_all (take (place - at) ms)) (λ place. at + place) (first met 0 ms))
      ∙ ap (moved (λ place. at + lives_in_all (take (place - at) ms))) (sym (first_moved met at 0 ms) ∙ ap (λ k. first met k ms) (sym z))

first_map : {A B : Type 0} (met : B → Bool) (f : A → B) (at : ℕ) (l : List A) → first met at (map f l) ≡ first (λ a. met (f a)) at l
unfolding first
first_map met f at [] = refl
first_map met f at (a ∷ l) = rw (first_map met f (suc at) l)

-- ---- the answer
module _ (file : FundFile) (some-lives : All (λ (m : Member). least_lives ≤ m.lives) file.members) where
  five_out : first (unmatched file.rates) (first_member (out_file file)) (written_out file.members) ≡ moved (out_place file) (first (unmatched file.rates) (first_member file) file.members)
  unfolding first_member out_place unmatched one_life
  five_out = first_out (unmatched file.rates) (λ m. refl) (first_member file) file.members some-lives

  abbrev half_line_of : Member → Bool
  half_line_of m = half_line (point file.rates m)

  six_out : first half_line (first_member (out_file file)) (points (out_file file)) ≡ moved (out_place file) (first half_line (first_member file) (points file))
  unfolding first_member out_place points point half_line
  six_out =
      first_map half_line (point file.rates) (first_member file) (written_out file.members)
      ∙ first_out half_line_of same (first_member file) file.members some-lives
      ∙ ap (moved (out_place file)) (sym (first_map half_line (point file.rates) (first_member file) file.members))
    where
      same : (m : Member) → half_line_of (one_life m) ≡ half_line_of m
      same m = ap half (one_life_lem file.rates m)

  verdict_out : (n : Lengths) → verdict (out_file file) n (fund_cells file.header (lives (out_file file))) ≡ later (out_place file) (verdict file n (fund_cells file.header (lives file)))
  unfolding verdict matched
  verdict_out n =
      let five = first (unmatched file.rates) (first_member file) file.members in
      let six = first half_line (first_member file) (points file) in
      ap (λ o. verdict_for file.header n o (first half_line (first_member (out_file file)) (points (out_file file))) (lives (out_file file))) five_out
      ∙ ap (λ o. verdict_for file.header n (moved (out_place file) five) o (lives (out_file file))) six_out
      ∙ ap (verdict_for file.header n (moved (out_place file) five) (moved (out_place file) six)) (lives_out file)
      ∙ verdict_later (out_place file) file.header n five six (lives file)

  -- whatever the two texts are, of which the line that is handed back is a part
  pub out_answers : (text text' : List ℕ) (n : Lengths) → SameButPlaces (out_place file) (answer_to text' n (read (out_file file))) (answer_to text n (read file))
  unfolding answer_to answer_of refused accepted
  out_answers text text' n = rw (verdict_out n) (go (verdict file n (fund_cells file.header (lives file))))
    where
      go : (v : Verdict) → SameButPlaces (out_place file) (answer_of text' n (out_file file) (later (out_place file) v)) (answer_of text n file v)
      go (Ok tt) = rw (lives_out file) (record { verdict = refl; figures = refl; D = refl; H = refl; f = refl; R = refl; F = refl })
      go (Err stop) = record { verdict = refl; figures = refl; D = refl; H = refl; f = refl; R = refl; F = refl }
