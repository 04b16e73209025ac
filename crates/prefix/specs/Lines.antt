-- The lines of a file's first n bytes are the file's lines, up to the line in which the n bytes end (lines_cut).
use Rattle.std.specs.Prelude.{◌≡◌, refl, Bool, true, false, List, [], ◌∷◌, ℕ, zero, suc, ◌+◌, ◌≤◌, eqb, length, take, if◌then◌else◌}
use Rattle.std.proofs.Common.{arith}
use Rattle.fund.specs.Lines.{Line, begun, lines_from, lines}

-- The lines of the first n bytes, then those of all bytes. Both are none; n is 0; the first line is the same, and of the n bytes
-- at most m are behind it; or the n bytes end inside the first line, so that they hold it without its line feed.
pub data Cut : ℕ → List Line → List Line → Type 0 where
  over : {n : ℕ} → Cut n [] []
  spent : {n : ℕ} {ls : List Line} → n ≡ 0 → Cut n [] ls
  same : {n m : ℕ} {xs ys : List Line} (l : Line) → n ≤ m + suc (length l.text) → Cut m xs ys → Cut n (l ∷ xs) (l ∷ ys)
  inside : {n : ℕ} {x y : Line} {ys : List Line} → x.ended ≡ false → n ≤ length y.text → Cut n (x ∷ []) (y ∷ ys)

begun_spent : (at b : ℕ) (ls : List Line) → Cut 1 (begun at b []) (begun at b ls)
unfolding begun
begun_spent at b [] = same {n = 1} {m = 0} (record { start = at; text = b ∷ []; ended = false }) (omega arith) over
begun_spent at b (l ∷ ls) = let h : 1 ≤ suc (length l.text) = omega arith in inside refl h

begun_cut : (at b : ℕ) {n : ℕ} {xs ys : List Line} → Cut n xs ys → Cut (suc n) (begun at b xs) (begun at b ys)
unfolding begun
begun_cut at b (over {n}) = same {n = suc n} {m = n} (record { start = at; text = b ∷ []; ended = false }) (omega arith) over
begun_cut at b (spent {n} {ls} e) = rw e (begun_spent at b ls)
begun_cut at b (same {n} {m} l h c) = same {n = suc n} {m = m} (record { start = at; text = b ∷ l.text; ended = l.ended }) (omega arith) c
begun_cut at b (inside {n} {x} {y} e h) = let g : suc n ≤ suc (length y.text) = omega arith in inside e g

lines_from_cut : (n at : ℕ) (bytes : List ℕ) → Cut n (lines_from at (take n bytes)) (lines_from at bytes)
unfolding lines_from
lines_from_cut zero at bytes = spent refl
lines_from_cut (suc n) at [] = over
lines_from_cut (suc n) at (b ∷ bytes) = go (eqb b 10) (lines_from_cut n (suc at) bytes)
  where
    go
        : (t : Bool) {xs ys : List Line}
        → Cut n xs ys
        → Cut (suc n) (if t then record { start = at; text = []; ended = true } ∷ xs else begun at b xs) (if t then record { start = at; text = []; ended = true } ∷ ys else begun at b ys)
    go true c = same {n = suc n} {m = n} (record { start = at; text = []; ended = true }) (omega arith) c
    go false c = begun_cut at b c

pub lines_cut : (n : ℕ) (file : List ℕ) → Cut n (lines (take n file)) (lines file)
unfolding lines
lines_cut n file = lines_from_cut n 0 file
