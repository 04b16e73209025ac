-- The terms of equal lives, as the code adds them: the sign of row n, a number that is 0, the term of a row and column if it is
-- placed (`term_room`, `placed_d`, `placed_h`), and the terms of group 2, of which H gains nothing.
use Rattle.std.specs.Prelude.{◌≡◌, Bool, ◌&&◌, ◌||◌, ℕ, zero, suc, ◌+◌, ◌*◌, ◌%◌, ◌≤◌, ◌<◌, ltb, ℤ, nat_abs, neg_ℤ, ◌+ℤ◌, ◌*ℤ◌, if◌then◌else◌}
use Rattle.std.proofs.Math.Path.{refl, sym, ap}
use Rattle.std.proofs.Common.{◌∙◌, add-one, arith}
use Rattle.std.proofs.Math.Bool.{true, false}
use mathlib.Core.List.{List, [], ◌∷◌, ◌++◌}
use Rattle.std.proofs.Math.Nat as N
use borrow.Author.Tests.{leb-true, lt-ltb, le-leb, lt-leb}
use Rattle.std.proofs.Math.Dec.{eqb, leb}
use Rattle.std.proofs.Math.IntN.{pos, +ℤ_idr, *ℤ-zero, neg_ℤ-neg_ℤ}
use Rattle.std.proofs.Math.ListN.{get_or, set}
use Rattle.std.proofs.Math.Seq.{set-get_or}
use Rattle.rounding.specs.Rounding.{near}
use Rattle.rounding.proofs.Laws.{near_zero}
use Rattle.fund.specs.declared.Frequencies.{Frequencies}
use Rattle.fund.specs.declared.Life.{Life}
use Rattle.fund.specs.Base.{total, alternate}
use Rattle.fund.specs.Folding.{single}
use Rattle.fund.specs.Transform.{row, place_of, placed, term_of, row_terms, single_terms, death_weight, disability_weight, replaced_term, replaced_terms}
use Rattle.laws.specs.Triangle.{v_most}
use Rattle.widths.specs.AddedTerms.{add_d, add_h, size_d, size_h, Room, TermRoom, SingleRow, terms_at, times, life_terms}
use Rattle.whole.specs.Sign.{signed}
use Rattle.widths.specs.AddingLaws.{add_h_append}
use Rattle.widths.specs.Signed.{nat_abs_neg}
use Rattle.widths.specs.Times.{times_append, size_d_times, size_h_times}

-- ---- the sign of a row
pub alternate_signed : (n s : ℕ) → alternate (suc n) (pos s) ≡ signed (eqb (n % 2) 0) s
unfolding alternate
alternate_signed zero s = refl
alternate_signed (suc zero) s = neg_ℤ-neg_ℤ (pos s)
alternate_signed (suc (suc n)) s =
    let e : n % 2 ≡ suc (suc n) % 2 = omega arith in
    neg_ℤ-neg_ℤ (alternate (suc n) (pos s)) ∙ alternate_signed n s ∙ ap (λ r. signed (eqb r 0) s) e

pub alternate_size : (n : ℕ) (z : ℤ) → nat_abs (alternate n z) ≡ nat_abs z
unfolding alternate
alternate_size zero z = refl
alternate_size (suc n) z = nat_abs_neg (alternate n z) ∙ alternate_size n z

pub alternate_zero : (n : ℕ) → alternate n (pos 0) ≡ pos 0
unfolding alternate
alternate_zero zero = refl
alternate_zero (suc n) = ap neg_ℤ (alternate_zero n)

-- ---- a term that is 0
pub term_zero : (n x v : ℕ) → 0 < n → x * v ≡ 0 → alternate (suc n) (pos (near (x * v) n)) ≡ pos 0
term_zero n x v h e = ap (λ a. alternate (suc n) (pos (near a n))) e ∙ ap (λ a. alternate (suc n) (pos a)) (near_zero n h) ∙ alternate_zero (suc n)

pub add_nothing : (d : List ℤ) (x : ℕ) (z : ℤ) → z ≡ pos 0 → d ≡ set d x (get_or d x (pos 0) +ℤ z)
add_nothing d x z e = sym (ap (λ z. set d x (get_or d x (pos 0) +ℤ z)) e ∙ ap (set d x) (+ℤ_idr (get_or d x (pos 0))) ∙ set-get_or d x (pos 0))

-- ---- the term of row n and column l
module _ (X : ℕ) (m : Life) (n l : ℕ) where
  pub left_out : placed X m n l ≡ false → terms_at X m n l ≡ []
  left_out e = rw e

  pub placed_within : placed X m n l ≡ true → place_of m n l ≤ X
  unfolding placed
  placed_within e = leb-true (place_of m n l) X (first (leb (place_of m n l) X) (ltb 0 m.q || eqb l 0) (ltb 0 m.i || eqb l n) e)
    where
      first : (a b c : Bool) → a && b && c ≡ true → a ≡ true
      first true b c e = refl
      first false b c e = e

  pub placed_size_d : placed X m n l ≡ true → size_d (terms_at X m n l) ≡ near (place_of m n l * get_or (row m n) l 0) n
  unfolding size_d total term_of
  placed_size_d e = rw e (N.add-zero _ ∙ alternate_size (suc n) (pos (near (place_of m n l * get_or (row m n) l 0) n)))

  pub placed_size_h : placed X m n l ≡ true → size_h (terms_at X m n l) ≡ place_of m n l
  unfolding size_h total term_of
  placed_size_h e = rw e (N.add-zero _)

  -- of c lives
  module _ (c : ℕ) where
    pub left_out_d : placed X m n l ≡ false → (d : List ℤ) → d ≡ add_d d (times c (terms_at X m n l))
    unfolding add_d times
    left_out_d e d = rw (left_out e)

    pub left_out_h : placed X m n l ≡ false → (h : List ℕ) → h ≡ add_h h (times c (terms_at X m n l))
    unfolding add_h times
    left_out_h e h = rw (left_out e)

    pub placed_d : placed X m n l ≡ true → (d : List ℤ) →
        add_d d (times c (terms_at X m n l)) ≡ set d (place_of m n l) (get_or d (place_of m n l) (pos 0) +ℤ pos c *ℤ alternate (suc n) (pos (near (place_of m n l * get_or (row m n) l 0) n)))
    unfolding add_d times term_of
    placed_d e d = rw e

    pub placed_h : placed X m n l ≡ true → (h : List ℕ) → add_h h (times c (terms_at X m n l)) ≡ set h (place_of m n l) (get_or h (place_of m n l) 0 + c * place_of m n l)
    unfolding add_h times term_of
    placed_h e h = rw e

    pub term_room : {d : List ℤ} {h : List ℕ} {v : ℕ} → placed X m n l ≡ true → SingleRow m n → v ≡ get_or (row m n) l 0 → Room X d h (times c (terms_at X m n l)) → TermRoom d h (place_of m n l) v n c
    term_room {d} {h} {v} e r g o =
        let x = placed_within e in
        let size-d : size_d (times c (terms_at X m n l)) ≡ c * near (place_of m n l * get_or (row m n) l 0) n = size_d_times c (terms_at X m n l) ∙ ap (λ s. c * s) (placed_size_d e) in
        let size-h : size_h (times c (terms_at X m n l)) ≡ c * place_of m n l = size_h_times c (terms_at X m n l) ∙ ap (λ s. c * s) (placed_size_h e) in
        record {
          n_least = r.n_least;
          n_most = r.n_most;
          place_most = omega (arith, x, o.in_d.horizon);
          number_most = rw g (v_most m (r.life.limited r.alone) n l);
          d_long = omega (arith, x, o.in_d.long);
          h_long = omega (arith, x, o.in_h.long);
          d_room = rw (g, ← size-d) (o.in_d.room (place_of m n l) x);
          h_room = omega (arith, o.in_h.room (place_of m n l) x, size-h);
        }

-- ---- rows, and rows of rows
pub row_start : (X : ℕ) (m : Life) (n : ℕ) → row_terms X m n 0 ≡ []
unfolding row_terms
row_start X m n = refl

pub row_goes : (X : ℕ) (m : Life) (n l : ℕ) → row_terms X m n (suc l) ≡ row_terms X m n l ++ terms_at X m n l
unfolding row_terms
row_goes X m n l = refl

pub single_start : (X : ℕ) (m : Life) → single_terms X m 0 ≡ []
unfolding single_terms
single_start X m = refl

pub single_goes : (X : ℕ) (m : Life) (n : ℕ) → single_terms X m (suc n) ≡ single_terms X m n ++ row_terms X m (n + 1) (n + 1 + 1)
unfolding single_terms
single_goes X m n = rw (add-one n, add-one (suc n))

-- ---- group 2
module _ (X w k : ℕ) where
  pub replaced_zero : k ≡ 0 → replaced_term X w k ≡ []
  unfolding replaced_term
  replaced_zero e = rw e

  pub replaced_beyond : X < k → replaced_term X w k ≡ []
  unfolding replaced_term
  replaced_beyond h = rw (lt-leb k X h, lt-ltb 0 k (omega arith))

  pub replaced_here : 0 < k → k ≤ X → replaced_term X w k ≡ record { place = k; to_d = pos (w * k); to_h = 0 } ∷ []
  unfolding replaced_term
  replaced_here h g = rw (lt-ltb 0 k h, le-leb k X g)

  pub replaced_size : 0 < k → k ≤ X → size_d (replaced_term X w k) ≡ w * k
  unfolding size_d total
  replaced_size h g = rw (replaced_here h g) (N.add-zero (w * k))

  -- of c lives
  module _ (c : ℕ) where
    pub replaced_nothing : w ≡ 0 → (d : List ℤ) → d ≡ add_d d (times c (replaced_term X w k))
    unfolding replaced_term add_d times
    replaced_nothing e d = go (ltb 0 k && leb k X)
      where
        go : (b : Bool) → d ≡ add_d d (times c (if b then record { place = k; to_d = pos (w * k); to_h = 0 } ∷ [] else []))
        go true = add_nothing d k (pos c *ℤ pos (w * k)) (ap (λ w. pos c *ℤ pos (w * k)) e ∙ ap (λ z. pos c *ℤ pos z) (N.zero-mul k) ∙ *ℤ-zero (pos c))
        go false = refl

    replaced_h : (h : List ℕ) → h ≡ add_h h (times c (replaced_term X w k))
    unfolding replaced_term add_h times
    replaced_h h = go (ltb 0 k && leb k X)
      where
        go : (b : Bool) → h ≡ add_h h (times c (if b then record { place = k; to_d = pos (w * k); to_h = 0 } ∷ [] else []))
        go true = sym (ap (λ z. set h k (get_or h k 0 + z)) (N.mul-zero c) ∙ ap (set h k) (N.add-zero (get_or h k 0)) ∙ set-get_or h k 0)
        go false = refl

pub replaced_none : (X : ℕ) (a : Frequencies) (m : Life) (c : ℕ) (h : List ℕ) → h ≡ add_h h (times c (replaced_terms X a m))
unfolding replaced_terms
replaced_none X a m c h =
    let one = replaced_term X (death_weight a m) m.d in
    let two = replaced_term X (disability_weight a m) m.e in
    replaced_h X (disability_weight a m) m.e c h
    ∙ ap (λ x. add_h x (times c two)) (replaced_h X (death_weight a m) m.d c h)
    ∙ sym (add_h_append h (times c one) (times c two))
    ∙ ap (add_h h) (sym (times_append c one two))

-- ---- either group
pub life_single : (X r : ℕ) (a : Frequencies) (m : Life) → single m ≡ true → life_terms X r a m ≡ single_terms X m r
life_single X r a m e = rw e

pub life_replaced : (X r : ℕ) (a : Frequencies) (m : Life) → single m ≡ false → life_terms X r a m ≡ replaced_terms X a m
life_replaced X r a m e = rw e
