-- Laws of a text: the bytes before the first of a kind, place by place, and the text behind a key.
use Rattle.std.proofs.Common.{◌≡◌, ℕ, ◌+◌, ◌≤◌, ◌<◌, Bool, true, false, ◌&&◌, List, [], ◌∷◌, None, nat_eq, length, get_or, drop, refl, arith, eqb, if◌then◌else◌}
use borrow.Author.Tests.{eq-eqb, ne_eqb}
use native.Mathlib.Numerals.{add-one}
use lib.ListN.{drop_of_length-le}
use lib.Seq.{drop-cons}
use Prim.Native.Nat.{suc}
use Rattle.std.specs.List.{starts_with}
use Rattle.fund.specs.Spelling.{behind}
use Rattle.spelling.specs.Text.{before, behind_if}

pub before_here : (b : ℕ) (s : List ℕ) (i : ℕ) → i < length s → get_or s i 0 ≡ b → before b (drop i s) ≡ 0
unfolding before
before_here b s i h e = rw (drop-cons s i 0 h, eq-eqb (get_or s i 0) b e)

pub before_next : (b : ℕ) (s : List ℕ) (i : ℕ) → i < length s → (get_or s i 0 ≡ b → ⊥) → before b (drop i s) ≡ before b (drop (i + 1) s) + 1
unfolding before
before_next b s i h e = rw (add-one i, drop-cons s i 0 h, ne_eqb (get_or s i 0) b e) (omega arith)

pub before_end : (b : ℕ) (s : List ℕ) (i : ℕ) → length s ≤ i → before b (drop i s) ≡ 0
unfolding before
before_end b s i h = rw (drop_of_length-le s h)

pub before_within : (b : ℕ) (s : List ℕ) → before b s ≤ length s
unfolding before
before_within b [] = omega arith
before_within b (x ∷ s) = go (eqb x b) (before_within b s)
  where
    go : (t : Bool) → before b s ≤ length s → (if t then 0 else suc (before b s)) ≤ suc (length s)
    go true ih = omega arith
    go false ih = omega arith

-- A key begins a text just where something stands behind it.
pub behind_begun : (key s : List ℕ) → behind key s ≡ behind_if (starts_with nat_eq s key) (length key) s
unfolding behind
behind_begun [] s = refl
behind_begun (k ∷ key) [] = refl
behind_begun (k ∷ key) (b ∷ s) = go (eqb k b) (starts_with nat_eq s key) (behind_begun key s)
  where
    go : (t u : Bool) → behind key s ≡ behind_if u (length key) s → (if t then behind key s else None) ≡ behind_if (t && u) (suc (length key)) (b ∷ s)
    go true true ih = ih
    go true false ih = ih
    go false u ih = refl
