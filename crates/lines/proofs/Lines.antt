-- Laws of the lines of a file: the line at a place ends before the next line feed, and the lines behind it are the others;
-- the line that is handed back is the first that is left.
use mathlib.Core.Path.{◌≡◌, refl, sym, ap, ◌∙◌}
use mathlib.Core.Bool.{Bool, true, false}
use mathlib.Core.List.{List, [], ◌∷◌, map}
use Rattle.std.specs.Prelude.{Some, None}
use Prim.Native.Nat.{ℕ, zero, suc, ◌+◌, ◌-◌, ◌≤◌, ◌<◌}
use native.Mathlib.Omega.{arith}
use native.Mathlib.Numerals.{add-one}
use borrow.Author.Tests.{lt-ltb, le-ltb}
use lib.Dec.{eqb, ltb, leb-suc-suc}
use lib.ListN.{length, take, drop, get_or, length-drop, drop_of_length-le}
use lib.Seq.{drop-drop, length-take-le, take_all}
use Rattle.std.specs.Prelude.{if◌then◌else◌}
use Rattle.fund.specs.Lines.{Line as FundLine, begun, lines_from, lines}
use Rattle.fund.specs.Spelling.{behind, numbers, spelled}
use Rattle.fund.specs.Answer.{Part, empty, line_at}
use Rattle.spelling.specs.Text.{before}
use Rattle.spelling.proofs.Texts.{before_within}
use Rattle.lines.specs.Lines.{lines_at, LineTaken, Passed}

lines_first : (at m : ℕ) (s : List ℕ) → 0 < length s → m ≡ at + suc (before 10 s) → lines_from at s ≡ record { start = at; text = take (before 10 s) s; ended = ltb (before 10 s) (length s) } ∷ lines_from m (drop (suc (before 10 s)) s)
unfolding before lines_from begun
lines_first at m [] h e = absurd (omega arith)
lines_first at m (b ∷ []) h e = go (eqb b 10) e
  where
    go
        : (t : Bool)
        → m ≡ at + suc (if t then 0 else 1)
        → (if t then record { start = at; text = []; ended = true } ∷ [] else record { start = at; text = b ∷ []; ended = false } ∷ [])
        ≡ record { start = at; text = take (if t then 0 else 1) (b ∷ []); ended = ltb (if t then 0 else 1) 1 } ∷ lines_from m (drop (suc (if t then 0 else 1)) (b ∷ []))
    go true w = refl
    go false w = refl
lines_first at m (b ∷ x ∷ s) h e = go (eqb b 10) e (lines_first (suc at) m (x ∷ s) (omega arith))
  where
    go
        : (t : Bool)
        → m ≡ at + suc (if t then 0 else suc (before 10 (x ∷ s)))
        → (m ≡ suc at + suc (before 10 (x ∷ s)) → lines_from (suc at) (x ∷ s) ≡ record { start = suc at; text = take (before 10 (x ∷ s)) (x ∷ s); ended = ltb (before 10 (x ∷ s)) (suc (length s)) } ∷ lines_from m (drop (before 10 (x ∷ s)) s))
        → (if t then record { start = at; text = []; ended = true } ∷ lines_from (suc at) (x ∷ s) else begun at b (lines_from (suc at) (x ∷ s)))
        ≡ record { start = at; text = take (if t then 0 else suc (before 10 (x ∷ s))) (b ∷ x ∷ s); ended = ltb (if t then 0 else suc (before 10 (x ∷ s))) (suc (suc (length s))) } ∷ lines_from m (drop (suc (if t then 0 else suc (before 10 (x ∷ s)))) (b ∷ x ∷ s))
    go true w ih = let z : m ≡ suc at = omega arith in rw (lt-ltb 0 (suc (suc (length s))) (omega arith), z)
    go false w ih = rw (ih (omega arith), leb-suc-suc (suc (before 10 (x ∷ s))) (suc (length s)))

-- Where bytes are left there is a line.
pub line_left : (file : List ℕ) (at : ℕ) → at < length file → (l : FundLine) × ((ls : List FundLine) × (lines_at file at ≡ l ∷ ls))
line_left file at h = (_, (_, lines_first at (at + suc (before 10 (drop at file))) (drop at file) (omega (arith, length-drop at file)) refl))

-- The line at a place whose next line feed, or the file's end, is `end`.
module _ (file : List ℕ) (at end : ℕ) (e : end ≡ at + before 10 (drop at file)) (h : at < length file) where
  size : before 10 (drop at file) ≡ end - at
  size = omega arith

  behind_it : drop (suc (before 10 (drop at file))) (drop at file) ≡ drop (end + 1) file
  behind_it =
      let w : at + suc (before 10 (drop at file)) ≡ end + 1 = omega arith in
      drop-drop (suc (before 10 (drop at file))) at file ∙ ap (λ n. drop n file) w

  pub end_inside : end ≤ length file
  end_inside = omega (arith, before_within 10 (drop at file), length-drop at file)

  split : lines_at file at ≡ record { start = at; text = take (end - at) (drop at file); ended = ltb (before 10 (drop at file)) (length (drop at file)) } ∷ lines_from (end + 1) (drop (end + 1) file)
  split =
      lines_first at (end + 1) (drop at file) (omega (arith, length-drop at file)) (omega arith)
      ∙ rw (behind_it, size)

  short : end - at ≤ length (drop at file)
  short = omega (arith, end_inside, length-drop at file)

  pub line_ended : {b : Bool} → b ≡ true → end < length file → LineTaken file at (record { start = at; text = take (end - at) (drop at file); ended = b }) (end + 1)
  line_ended b g =
      let w : before 10 (drop at file) < length (drop at file) = omega (arith, length-drop at file) in
      record { first = split ∙ rw (lt-ltb (before 10 (drop at file)) (length (drop at file)) w, b); later = omega arith; ends = omega (arith, length-take-le (end - at) (drop at file) short); inside = omega arith }

  pub line_open : {b : Bool} → b ≡ false → length file ≤ end → LineTaken file at (record { start = at; text = take (end - at) (drop at file); ended = b }) end
  unfolding lines_from
  line_open b g =
      let w : length (drop at file) ≤ before 10 (drop at file) = omega (arith, length-drop at file) in
      record {
        first = split ∙ rw (le-ltb (before 10 (drop at file)) (length (drop at file)) w, drop_of_length-le file {i = end} g, drop_of_length-le file {i = end + 1} (omega arith), b);
        later = omega arith;
        ends = omega (arith, length-take-le (end - at) (drop at file) short);
        inside = end_inside;
      }

-- What is handed back: the line that is first of those left, or nothing.
get_or_first : {A B : Type 0} (f : A → B) (xs : List A) (n : ℕ) (l : A) (ls : List A) (d : B) → drop n xs ≡ l ∷ ls → get_or (map f xs) n d ≡ f l
get_or_first f [] zero l ls d e = let z : ◌≡◌ {A = ℕ} 0 1 = cc in absurd (omega arith)
get_or_first f [] (suc n) l ls d e = let z : ◌≡◌ {A = ℕ} 0 1 = cc in absurd (omega arith)
get_or_first f (x ∷ xs) zero l ls d e = let z : x ≡ l = cc in ap f z
get_or_first f (x ∷ xs) (suc n) l ls d e = get_or_first f xs n l ls d e

get_or_none : {A B : Type 0} (f : A → B) (xs : List A) (n : ℕ) (d : B) → drop n xs ≡ [] → get_or (map f xs) n d ≡ d
get_or_none f [] zero d e = refl
get_or_none f [] (suc n) d e = refl
get_or_none f (x ∷ xs) zero d e = let z : ◌≡◌ {A = ℕ} 0 1 = cc in absurd (omega arith)
get_or_none f (x ∷ xs) (suc n) d e = get_or_none f xs n d e

-- The part of a line.
abbrev pub part_in : FundLine → Part
part_in l = record { start = l.start; size = length l.text }

module _ (file : List ℕ) (passed at : ℕ) (p : Passed file passed at) where
  pub line_there : (l : FundLine) (next : ℕ) → LineTaken file at l next → part_in l ≡ line_at file (passed + 1)
  unfolding line_at
  line_there l next n = rw add-one (sym (get_or_first part_in (lines file) passed l (lines_at file next) empty (p.left ∙ n.first)))

  pub line_missing : (place : ℕ) → passed < place → length file ≤ at → empty ≡ line_at file place
  unfolding line_at lines_from
  line_missing zero more h = refl
  line_missing (suc before) more h =
      let e : passed + (before - passed) ≡ before = omega arith in
      let none_left : drop passed (lines file) ≡ [] = p.left ∙ rw (drop_of_length-le file h) in
      sym (get_or_none part_in (lines file) before empty (sym (drop-drop (before - passed) passed (lines file) ∙ ap (λ n. drop n (lines file)) e) ∙ ap (drop (before - passed)) none_left ∙ drop_of_length-le [] {i = before - passed} (omega arith)))

  pub passed_next : (l : FundLine) (next : ℕ) → LineTaken file at l next → Passed file (passed + 1) next
  passed_next l next n = record { left = sym (drop-drop 1 passed (lines file)) ∙ ap (drop 1) (p.left ∙ n.first) }

pub passed_none : (file : List ℕ) → Passed file 0 0
unfolding lines
passed_none file = record { left = refl }

pub rest_all : (k : ℕ) (s : List ℕ) → take (length s - k) (drop k s) ≡ drop k s
rest_all k s = take_all (length s - k) (drop k s) (omega (arith, length-drop k s))

-- A key that begins a text is not longer.
pub behind_length : (key text rest : List ℕ) → behind key text ≡ Some rest → length key ≤ length text
unfolding behind
behind_length [] text rest e = omega arith
behind_length (k ∷ key) [] rest e = let z : ◌≡◌ {A = ℕ} 0 1 = cc in absurd (omega arith)
behind_length (k ∷ key) (b ∷ text) rest e = go (eqb k b) e (behind_length key text rest)
  where
    go : (t : Bool) → (if t then behind key text else None) ≡ Some rest → (behind key text ≡ Some rest → length key ≤ length text) → suc (length key) ≤ suc (length text)
    go true w ih = omega (arith, ih w)
    go false w ih = let z : ◌≡◌ {A = ℕ} 0 1 = cc in absurd (omega arith)

-- How a line is spelled.
module _ (key : List ℕ) (count : ℕ) (l : FundLine) where
  pub spelled_open : l.ended ≡ false → spelled key count l ≡ None
  unfolding spelled
  spelled_open e = rw (e, spelled)

  module _ (e : l.ended ≡ true) where
    pub spelled_not : behind key l.text ≡ None → spelled key count l ≡ None
    unfolding spelled
    spelled_not f = rw (e, spelled) (rw (f, spelled))

    pub spelled_behind : (rest : List ℕ) → behind key l.text ≡ Some rest → spelled key count l ≡ numbers count rest
    unfolding spelled
    spelled_behind rest f = rw (e, spelled) (rw (f, spelled))
