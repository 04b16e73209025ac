-- Laws of pieces in a text: two pieces one behind the other are one piece (puts_then), also where the text is too short for them. A piece
-- for which there is room is written from the text's start (puts_written).
use mathlib.Core.Path.{◌≡◌, refl, sym, ap, ◌∙◌}
use mathlib.Core.Logic.{◌⊎◌, inl, inr, ⊎_elim}
use mathlib.Core.Bool.{Bool, true, false}
use mathlib.Core.List.{List, [], ◌∷◌, ◌++◌}
use Prim.Native.Nat.{ℕ, suc, ◌+◌, ◌≤◌, ◌<◌}
use native.Mathlib.Nat.{add-zero, add-suc, suc-add, zero-add}
use native.Mathlib.Omega.{arith}
use borrow.Author.Tests.{ltb-true, ltb-false}
use lib.Dec.{ltb}
use lib.ListN.{length, take, drop, length-append}
use lib.Seq.{set_out, sets, length-sets, sets-eq, take_at, drop_at}
use Rattle.writing.specs.declared.Text.{Text}
use Rattle.writing.specs.Writing.{Puts, Written}

-- Bytes beyond the end change nothing.
sets_out : (text : List ℕ) (at : ℕ) (piece : List ℕ) → length text ≤ at → sets text at piece ≡ text
sets_out text at [] h = refl
sets_out text at (x ∷ piece) h = ap (λ t. sets t (suc at) piece) (set_out text at x h) ∙ sets_out text (suc at) piece (omega arith)

sets_append : (a b text : List ℕ) (at : ℕ) → sets (sets text at a) (at + length a) b ≡ sets text at (a ++ b)
sets_append [] b text at = rw add-zero
sets_append (x ∷ a) b text at = rw (add-suc, ← suc-add) (sets_append a b _ (suc at))

pub puts_none : (text : Text) → Puts text [] text
puts_none text = record { same = refl; stored = refl; behind = omega arith }

pub puts_as : {before : Text} {piece : List ℕ} {after : Text} (other : List ℕ) → piece ≡ other → Puts before other after → Puts before piece after
puts_as other e p = rw e p

pub puts_length : {before : Text} {piece : List ℕ} {after : Text} → Puts before piece after → length after.bytes.now ≡ length before.bytes.now
puts_length {before} {piece} p = ap length p.stored ∙ length-sets before.bytes.now before.next piece

fits_or_not : (m n : ℕ) → (m < n) ⊎ (n ≤ m)
fits_or_not m n = go (ltb m n) refl
  where
    go : (b : Bool) → ltb m n ≡ b → (m < n) ⊎ (n ≤ m)
    go true e = inl (ltb-true m n e)
    go false e = inr (ltb-false m n e)

pub puts_then : {before : Text} {a : List ℕ} {middle : Text} {b : List ℕ} {after : Text} → Puts before a middle → Puts middle b after → Puts before (a ++ b) after
puts_then {before} {a} {middle} {b} p q =
    let text = before.bytes.now in
    let at = before.next in
    record {
      same = q.same ∙ p.same;
      stored =
          q.stored
          ∙ ⊎_elim
          (λ h. let e : middle.next ≡ at + length a = omega (arith, p.behind) in rw (e, p.stored) (sets_append a b text at))
          (λ h.
          sets_out middle.bytes.now middle.next b (omega (arith, p.behind, puts_length p)) ∙ p.stored
          ∙ sym (sets_out (sets text at a) (at + length a) b (omega (arith, length-sets text at a))) ∙ sets_append a b text at)
          (fits_or_not (at + length a) (length text));
      behind = omega (arith, q.behind, p.behind, puts_length p, length-append a b);
    }

pub puts_written : {text : Text} {piece : List ℕ} {after : Text} → text.next ≡ 0 → length piece ≤ length text.bytes.now → Puts text piece after → Written piece text.bytes.now after.bytes.now after.next
puts_written {text} {piece} {after} z h p =
    let size = after.next in
    let e : size ≡ length piece = omega (arith, p.behind) in
    let s : after.bytes.now ≡ piece ++ drop size text.bytes.now = rw e (p.stored ∙ rw z (rw zero-add at (sets-eq piece text.bytes.now 0 (omega arith)))) in
    record { whole = e; start = ap (take size) s ∙ take_at piece _ size (sym e); beyond = ap (drop size) s ∙ drop_at piece _ size (sym e) }

-- Nothing at all is written, and a piece under another name.
pub written_none : (text : List ℕ) → Written [] text text 0
written_none text = record { whole = refl; start = refl; beyond = refl }

pub written_as : {piece text after : List ℕ} {size : ℕ} (other : List ℕ) → piece ≡ other → Written other text after size → Written piece text after size
written_as other e w = rw e w

-- .. and behind a reference that is let go.
pub written_to : {piece text after : List ℕ} {size : ℕ} (other : List ℕ) → other ≡ after → Written piece text other size → Written piece text after size
written_to other e w = rw e at w
