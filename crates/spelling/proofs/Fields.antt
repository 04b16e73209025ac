-- Laws of the numbers between commas: `split` gives the fields of a text one by one, and their numbers are collected.
use Rattle.std.proofs.Common.{◌≡◌, ℕ, suc, ◌≤◌, Bool, true, false, ◌&&◌, cond, List, [], ◌∷◌, ◌++◌, map, Option, Some, None, MatchOption, length, take, drop, replicate, refl, sym, ap, ◌∙◌, append_assoc, append-nil, arith, eqb, if◌then◌else◌}
use Rattle.std.specs.Bool.{MatchBool}
use Rattle.std.specs.Fn.{CalledAt, ComputesKey}
use Rattle.std.specs.List.{All, slice_split, onto_first, IsFirstMatchOrLen}
use Rattle.std.specs.Slice.Iter.{split_rest, split_done, split_callee, split_steps}
use Rattle.std.specs.declared.slice.Split.{Split}
use Rattle.std.proofs.lemmas.Fn.{always_returns_same}
use Rattle.std.proofs.lemmas.Grind.{common_steps}
use Rattle.std.proofs.lemmas.List.Splits.{slice_split_none, slice_split_at}
use denote.Param.Members.{Mut}
use denote.Ref.{Bor}
use mathlib.Core.Bool.{and-false}
use lib.Dec.{eqb-suc-suc}
use borrow.Author.Tests.{ne_eqb, le-leb}
use Rattle.fund.specs.Spelling.{is_number, value, in_first, fields, all_numbers, numbers}
use Rattle.spelling.specs.Text.{number_in, few_numbers, NumbersOf}

abbrev comma : ℕ → Bool
comma b = eqb b 44

fields_are : (s : List ℕ) → slice_split comma s ≡ fields s
unfolding fields in_first
fields_are [] = refl
fields_are (b ∷ s) = rw (fields_are s) (go (comma b) (fields s))
  where
    first : (fs : List (List ℕ)) → onto_first b fs ≡ in_first b fs
    first [] = refl
    first (f ∷ fs) = refl

    go : (t : Bool) (fs : List (List ℕ)) → cond t ([] ∷ fs) (onto_first b fs) ≡ (if t then [] ∷ fs else in_first b fs)
    go true fs = refl
    go false fs = first fs

-- The fields that a split has still to give.
abbrev pub fields_left : {F : Type 0} → Split ℕ F → List (List ℕ)
fields_left s = cond (split_done s) [] (fields (split_rest s))

field_first : (s x rest : List ℕ) (done : Bool) → MatchBool done (s ≡ x) ((y : ℕ) × (s ≡ x ++ (y ∷ rest))) → IsFirstMatchOrLen comma s (length x) → fields s ≡ x ∷ cond done [] (fields rest)
field_first s x rest true e h =
    let none : All (λ b. comma b ≡ false) x = λ k d l. let a = h.0 k d (omega arith) l in grind (arith, common_steps) in
    sym (fields_are s) ∙ ap (slice_split comma) e ∙ slice_split_none comma x none
field_first s x rest false e h =
    let before : All (λ b. comma b ≡ false) x = λ k d l. let a = h.0 k d (omega arith) l in let b = e.1 in grind (arith, common_steps) in
    let here : comma e.0 ≡ true = let b = e.1 in let a = h.1 (grind (arith, common_steps)) e.0 in grind (arith, common_steps) in
    sym (fields_are s) ∙ ap (slice_split comma) e.1 ∙ slice_split_at comma x e.0 rest before here ∙ ap (λ fs. x ∷ fs) (fields_are rest)

-- What a step of a split gives, which cuts where its closure answers that a byte is a comma.
pub field_next : {F : Type 0} (g : Mut F (Bor ℕ × Unit {0}) Bool) (s t : Split ℕ F) (r : Option (Bor (List ℕ))) → split_steps g s r t →
    ((x : ℕ) (b : Bool) (q : F) → CalledAt g (split_callee s) x b q → (q ≡ split_callee s) × (b ≡ comma x)) →
    MatchOption r (fields_left s ≡ []) (λ x. fields_left s ≡ x.now ∷ fields_left t)
field_next g s t None k tests = ap (λ b. cond b [] (fields (split_rest s))) k.0
field_next g s t (Some x) k tests =
    let computes : ComputesKey g comma (split_callee s) =
    always_returns_same g (λ a r. r ≡ comma a.0.now) (split_callee s) (λ a r q m. let n = tests a.0.now r q (record { shown = a.0; shows = refl; called = m }) in (n.1, n.0)) in
    ap (λ b. cond b [] (fields (split_rest s))) k.0 ∙ field_first (split_rest s) x.now (split_rest t) (split_done t) k.1 (k.2 comma computes).1

-- The numbers ns and then just `left` more from fields, or none.
unfoldable pub collected : List ℕ → ℕ → List (List ℕ) → Option (List ℕ)
collected ns left fs = if eqb (length fs) left && all_numbers fs then Some (ns ++ map value fs) else None

pub numbers_collected : (count : ℕ) (s : List ℕ) → numbers count s ≡ collected [] count (fields s)
unfolding numbers collected
numbers_collected count s = refl

pub collected_missing : (ns : List ℕ) (left : ℕ) → collected ns (suc left) [] ≡ None
unfolding collected
collected_missing ns left = rw (ne_eqb 0 (suc left) (λ e. omega arith))

pub collected_over : (ns t : List ℕ) (fs : List (List ℕ)) → collected ns 0 (t ∷ fs) ≡ None
unfolding collected
collected_over ns t fs = rw (ne_eqb (suc (length fs)) 0 (λ e. omega arith))

pub collected_all : (ns : List ℕ) → collected ns 0 [] ≡ Some ns
unfolding collected all_numbers
collected_all ns = simp append-nil

pub collected_ill : (ns : List ℕ) (left : ℕ) (t : List ℕ) (fs : List (List ℕ)) → number_in t ≡ None → collected ns left (t ∷ fs) ≡ None
unfolding collected all_numbers number_in
collected_ill ns left t fs e = go (is_number t) refl e
  where
    go : (b : Bool) → is_number t ≡ b → (if b then Some (value t) else None) ≡ None → collected ns left (t ∷ fs) ≡ None
    go true w h = cc
    go false w h = rw (w, and-false (eqb (suc (length fs)) left))

pub collected_more : (ns : List ℕ) (left : ℕ) (t : List ℕ) (fs : List (List ℕ)) (v : ℕ) → number_in t ≡ Some v → collected ns (suc left) (t ∷ fs) ≡ collected (ns ++ (v ∷ [])) left fs
unfolding collected all_numbers number_in
collected_more ns left t fs v e = go (is_number t) refl e
  where
    go : (b : Bool) → is_number t ≡ b → (if b then Some (value t) else None) ≡ Some v → collected ns (suc left) (t ∷ fs) ≡ collected (ns ++ (v ∷ [])) left fs
    go true w h = let z : value t ≡ v = cc in rw (w, z, eqb-suc-suc (length fs) left, append_assoc ns (v ∷ []) (map value fs))
    go false w h = cc

-- ---- what is answered
pub no_numbers : (count : ℕ) (text : List ℕ) (r : Option (List ℕ)) → count ≤ 5 → r ≡ None → numbers count text ≡ None → NumbersOf count text r
unfolding few_numbers
no_numbers count text r h e n = rw e (record { numbers_are = rw (le-leb count 5 h) (sym n); behind = tt })

pub all_numbers_lem : (count : ℕ) (text values : List ℕ) → count ≤ 5 → numbers count text ≡ Some (take count values) → drop count values ≡ drop count (replicate 5 0) → NumbersOf count text (Some values)
unfolding few_numbers
all_numbers_lem count text values h e z = record { numbers_are = rw (le-leb count 5 h) (sym e); behind = z }
