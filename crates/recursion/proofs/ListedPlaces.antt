-- The list of places grows with k: from none (listed_none), by a blank k (listed_blank) or by a place (listed_more); what `note` says of
-- k is one of the two (listed_noted, small_noted).
use mathlib.Core.Path.{◌≡◌, refl, sym, ap, ◌∙◌, subst}
use mathlib.Core.Logic.{⊎_elim}
use mathlib.Core.List.{List, [], ◌∷◌, ◌++◌}
use Prim.Native.Nat.{ℕ, zero, suc, ◌≤◌, ◌<◌}
use native.Mathlib.Nat.{eq-or-lt_of_le, le_of_suc-le-suc}
use native.Mathlib.Omega.{arith}
use lib.IntN.{ℤ, pos, nat_abs}
use lib.ListN.{length, get_or, get_or-append, length-append}
use mathlib.Core.Bool.{Bool, true}
use lib.Seq.{get_or-append_seam}
use Rattle.recursion.specs.Places.{Blank, from, Listed, Noted, SmallEntry, AllSmall}

from_more : (list : List ℕ) (k j : ℕ) → j ≤ length list → from (list ++ k ∷ []) j ≡ from list j
from_more list k zero h = refl
from_more list k (suc j) h = ap suc (get_or-append list (k ∷ []) 0 j h)

module _ (d : List ℤ) (h : List ℕ) where
  pub listed_none : Listed 0 d h []
  listed_none =
      record {
        few = omega arith;
        reach = omega arith;
        rising = λ j l. absurd (omega arith);
        within = λ j l. absurd (omega arith);
        before = λ j k l. absurd (omega arith);
        behind = λ k l m. absurd (omega arith);
      }

  module _ (X : ℕ) (list : List ℕ) (i : Listed X d h list) where
    pub listed_blank : Blank d h X → Listed (suc X) d h list
    listed_blank b =
        record {
          few = omega (arith, i.few);
          reach = omega (arith, i.reach);
          rising = i.rising;
          within = λ j l. omega (arith, i.within j l);
          before = i.before;
          behind = λ k l m. ⊎_elim (λ e. subst (λ n. Blank d h n) (sym e) b) (λ g. i.behind k l g) (eq-or-lt_of_le (le_of_suc-le-suc m));
        }

    pub listed_more : Listed (suc X) d h (list ++ X ∷ [])
    listed_more =
        record {
          few = omega (arith, i.few, one);
          reach = omega (arith, behind_last);
          rising = λ j l. at j l (λ n. from (list ++ X ∷ []) j ≤ n) (λ g. rw (from_more list X j (omega arith)) (i.rising j g)) (λ e. rw (e, from_more list X (length list) (omega arith)) i.reach);
          within = λ j l. at j l (λ n. n < suc X) (λ g. omega (arith, i.within j g)) (λ e. omega arith);
          before =
              λ j k l.
              at j l (λ n. from (list ++ X ∷ []) j ≤ k → k < n → Blank d h k)
              (λ g m. i.before j k g (omega (arith, from_more list X j (omega arith))))
              (λ e m. i.behind k (omega (arith, from_more list X j (omega arith), ap (from list) e)));
          behind = λ k l m. absurd (omega (arith, behind_last));
        }
      where
        one : length (list ++ X ∷ []) ≡ suc (length list)
        one = let e = length-append list (X ∷ []) in omega arith

        last : get_or (list ++ X ∷ []) (length list) 0 ≡ X
        last = get_or-append_seam list X [] 0

        behind_last : from (list ++ X ∷ []) (length (list ++ X ∷ [])) ≡ suc X
        behind_last = ap (from (list ++ X ∷ [])) one ∙ ap suc last

        at : (j : ℕ) → j < length (list ++ X ∷ []) → (P : ℕ → Type 0) → (j < length list → P (get_or list j 0)) → (j ≡ length list → P X) → P (get_or (list ++ X ∷ []) j 0)
        at j l P old new =
            ⊎_elim
            (λ e. subst P (sym (ap (λ n. get_or (list ++ X ∷ []) n 0) e ∙ last)) (new e))
            (λ g. subst P (sym (get_or-append list (X ∷ []) 0 j g)) (old g))
            (eq-or-lt_of_le (omega (arith, one)))

  pub small_more : (X : ℕ) → AllSmall X d h → SmallEntry (get_or d (suc X) (pos 0)) (get_or h (suc X) 0) → AllSmall (suc X) d h
  small_more X i b k l =
      ⊎_elim (λ e. subst (λ n. SmallEntry (get_or d (suc n) (pos 0)) (get_or h (suc n) 0)) (sym e) b) (λ g. i k g) (eq-or-lt_of_le (le_of_suc-le-suc l))

  -- what was noted of k is listed, and small where it is said to be
  module _ (X : ℕ) (list list' : List ℕ) (small small' : Bool) (i : Listed X d h list)
      (n : Noted (nat_abs (get_or d (suc X) (pos 0))) (get_or h (suc X) 0) X list small list' small') where
    pub listed_noted : Listed (suc X) d h list'
    listed_noted = ⊎_elim (λ b. rw b.2 (listed_blank X list i (b.0, b.1))) (λ m. rw m.0 (listed_more X list i)) n

    pub small_noted : (small ≡ true → AllSmall X d h) → small' ≡ true → AllSmall (suc X) d h
    small_noted known e =
        ⊎_elim
        (λ b. small_more X (known (sym b.3 ∙ e)) (omega (arith, b.0), omega (arith, b.1)))
        (λ m. let s = m.1 e in small_more X (known s.0) s.1)
        n
