-- METHOD 3 (§2): the new edition "leaves out ages whose rates equal those of the age before". A rate row that is equal, but for its age, to
-- the row in force before it can be left out: at every age the rates in force are alike (still_alike), and the answer is the same but for
-- places (row_left_out); the file without that line is such a file (line_left_out).
use Rattle.std.specs.Prelude.{◌≡◌, Bool, true, false, List, [], ◌∷◌, ◌++◌, ℕ, ◌+◌, ◌≤◌, ◌<◌, leb, length, if◌then◌else◌, None, Option, Some}
use Rattle.std.proofs.Math.Path.{refl}
use Rattle.std.proofs.Common.{sym, ◌∙◌, ap, append-nil, arith, leb-true, leb-false, length-append}
use Rattle.fund.specs.declared.Fund.{Fund}
use Rattle.fund.specs.declared.Rate.{Rate}
use Rattle.fund.specs.declared.Member.{Member}
use Rattle.fund.specs.Reading.{FundFile, header_lines, read, reading}
use Rattle.fund.specs.Folding.{held_until, rate_in_force, lives}
use Rattle.fund.specs.Refusals.{Lengths}
use Rattle.fund.specs.Answer.{answer}
use Rattle.laws.specs.Accepted.{all_map}
use Rattle.laws.specs.InForce.{Below, NotAbove, Rising, held_above, last_or, held_through, before_below}
use Rattle.laws.specs.Ranges.{read_ranges}
use Rattle.equivalence.specs.Texts.{without_line}
use Rattle.equivalence.specs.FewerRows.{drop_middle, read_without}
use Rattle.equivalence.specs.SameRates.{Alike, alike_refl, AlikeFor, SameButPlaces, same_answers, lives_same}

after_above : (before after : List Rate) (r : Rate) → Rising (before ++ (r ∷ after)) → Below r.age after
after_above [] after r k = k.0
after_above (s ∷ before) after r k = after_above before after r k.1

-- a row that comes in force hides what was held
alike_held : (o p : Option Rate) (rs : List Rate) (age : ℕ) → Alike o p → Alike (held_until o rs age) (held_until p rs age)
unfolding held_until
alike_held o p [] age k = k
alike_held o p (r ∷ rs) age k = go (leb r.age age)
  where
    go : (b : Bool) → Alike (if b then held_until (Some r) rs age else o) (if b then held_until (Some r) rs age else p)
    go true = alike_refl (held_until (Some r) rs age)
    go false = k

module _ (before after : List Rate) (r : Rate) (rise : Rising (before ++ (r ∷ after))) (equal : Alike (Some r) (rate_in_force before r.age)) where
  pub still_alike : (age : ℕ) → Alike (rate_in_force (before ++ (r ∷ after)) age) (rate_in_force (before ++ after) age)
  unfolding rate_in_force held_until
  still_alike age = go (leb r.age age) refl
    where
      not_above : (older : ℕ) → r.age ≤ older → NotAbove before older
      not_above older le = all_map (λ s h. omega arith) before (before_below before after r rise)

      last : Alike (Some r) (last_or None before)
      last = rw (sym (held_through None before [] r.age (not_above r.age (omega arith))), append-nil before) equal

      go : (b : Bool) → leb r.age age ≡ b → Alike (held_until None (before ++ (r ∷ after)) age) (held_until None (before ++ after) age)
      go true e =
          let le : r.age ≤ age = leb-true r.age age e in
          rw (held_through None before (r ∷ after) age (not_above age le), held_through None before after age (not_above age le), e)
          (alike_held (Some r) (last_or None before) after age last)
      go false e =
          let above : age < r.age = leb-false r.age age e in
          let later : Below age after = all_map (λ s h. omega arith) after (after_above before after r rise) in
          rw (held_above None before (r ∷ after) age (above, later), held_above None before after age later) (alike_refl (held_until None before age))

-- The file with the row, and the file without it.
module _ (header : Fund) (before after : List Rate) (r : Rate) (members : List Member) where
  abbrev pub whole : FundFile
  whole = record { header = header; rates = before ++ (r ∷ after); members = members }

  abbrev pub without : FundFile
  without = record { header = header; rates = before ++ after; members = members }

  module _ (file : List ℕ) (is : reading file ≡ read whole) (equal : Alike (Some r) (rate_in_force before r.age)) where
    alike : AlikeFor (rate_in_force (before ++ (r ∷ after))) (rate_in_force (before ++ after)) members
    alike = go members
      where
        go : (ms : List Member) → AlikeFor (rate_in_force (before ++ (r ∷ after))) (rate_in_force (before ++ after)) ms
        go [] = tt
        go (m ∷ ms) = (still_alike before after r (read_ranges file whole is).rows.rates_rise equal m.age, go ms)

    one_more : length (before ++ (r ∷ after)) ≡ 1 + length (before ++ after)
    one_more = omega (arith, length-append before (r ∷ after), length-append before after)

    pub lives_left : lives whole ≡ lives without
    lives_left = lives_same header (before ++ (r ∷ after)) (before ++ after) members 1 one_more alike

    pub row_left_out : (file' : List ℕ) (n : Lengths) → reading file' ≡ read without → SameButPlaces (λ place. 1 + place) (answer file n) (answer file' n)
    row_left_out file' n is' = same_answers header (before ++ (r ∷ after)) (before ++ after) members 1 one_more alike file file' n is is'

    -- The line of the row is left out of the bytes: the header lines and the rows before stand in front of it.
    pub line_left_out : (n : Lengths) → SameButPlaces (λ place. 1 + place) (answer file n) (answer (without_line (length header_lines + length before) file) n)
    line_left_out n =
        row_left_out (without_line (length header_lines + length before) file) n
        (read_without file whole (length before) is (omega (arith, length-append before (r ∷ after)))
        ∙ ap (λ rs. read (record { header = header; rates = rs; members = members })) (drop_middle before after r))
