-- METHOD 1: "Lines end in one line feed (byte 10)." A file's bytes as its lines, each with the place where it starts.
use Rattle.std.specs.Prelude.{Bool, true, false, List, [], ◌∷◌, ℕ, suc, eqb, if◌then◌else◌}

-- The bytes of a line without its line feed, and whether the line feed is there: only a last line can lack it.
pub record Line : Type 0 where
  pub start : ℕ
  pub text : List ℕ
  pub ended : Bool

-- A byte in front of lines is the first byte of their first line.
unfoldable pub begun : ℕ → ℕ → List Line → List Line
begun at b [] = record { start = at; text = b ∷ []; ended = false } ∷ []
begun at b (l ∷ ls) = record { start = at; text = b ∷ l.text; ended = l.ended } ∷ ls

unfoldable pub lines_from : ℕ → List ℕ → List Line
lines_from at [] = []
lines_from at (b ∷ bs) =
    let after = lines_from (suc at) bs in
    if eqb b 10 then record { start = at; text = []; ended = true } ∷ after else begun at b after

unfoldable pub lines : List ℕ → List Line
lines file = lines_from 0 file
