-- An ascending sequence: floats q 0 to q most that are fractions g k / D with g growing strictly. What equals a term equals no other (`term_unique`), and a
-- comparison with a term says on which side of it a float lies, which is a search by halves (`Within` and its four steps). The whole numbers are
-- one, and so are the quotients by 1,000,000.
use Rattle.std.specs.Prelude.{◌≡◌, refl, ◌⊎◌, ℕ, zero, suc, ◌+◌, ◌*◌, ◌/◌, ◌^◌, ◌≤◌, ◌<◌, Bool, true, false, T, Float, None, Some}
use Rattle.std.proofs.Common.{sym, ap, subst, inl, inr, zero-le, arith, lit≤, pow_pos}
use native.Mathlib.Nat.{le_trans, le-suc, lt-suc_self, zero-lt-suc, lt_irrefl, le_of_suc-le-suc, not-suc-le-zero, eq-or-lt_of_le, eq_of_mul-eq-mul_right, lt_of_not-le, not-le_of_lt, mul-le-mul_right, div-le_self}
use Rattle.std.specs.Float.{binary64}
use Rattle.std.specs.Float.Ieee.{low, lt, eq}
use Rattle.std.specs.Float.Ieee.Exact.{HasValue}
use Rattle.std.specs.Float.Ieee.Scale.{grid}
use Rattle.fund.specs.Limits.{most_rate}
use Rattle.fund.specs.SheetCells.{of_whole, quotient, or_else, seek}
use Rattle.sheet_cells.specs.Values.{eq→is, is_one, lt→less, less→lt}
use Rattle.sheet_cells.specs.Quotient.{whole_value, quotient_value, grid_less}

-- ---- seeking by a test that only one number passes
pub seek_none : (p : ℕ → Bool) (n : ℕ) → ((k : ℕ) → k < n → T (p k) → ⊥) → seek p n ≡ None
unfolding seek or_else
seek_none p zero h = refl
seek_none p (suc n) h = go (p n) (h n (lt-suc_self n)) (seek_none p n (λ k l t. h k (le_trans l (le-suc n)) t))
  where
    go : (b : Bool) → (T b → ⊥) → seek p n ≡ None → or_else b n (seek p n) ≡ None
    go true x e = absurd (x tt)
    go false x e = e

seek_at : (p : ℕ → Bool) (n k : ℕ) → k < n → T (p k) → ((j : ℕ) → j < n → T (p j) → j ≡ k) → seek p n ≡ Some k
unfolding seek or_else
seek_at p zero k l t u = absurd (not-suc-le-zero l)
seek_at p (suc n) k l t u = go (p n) refl (u n (lt-suc_self n)) (λ m. seek_at p n k m t (λ j i s. u j (le_trans i (le-suc n)) s))
  where
    rest : (k ≡ n) ⊎ (k < n) → p n ≡ false → (k < n → seek p n ≡ Some k) → seek p n ≡ Some k
    rest (inl e) z ih = absurd (subst T z (subst (λ (w : ℕ). T (p w)) e t))
    rest (inr m) z ih = ih m

    go : (b : Bool) → p n ≡ b → (T b → n ≡ k) → (k < n → seek p n ≡ Some k) → or_else b n (seek p n) ≡ Some k
    go true z x ih = ap Some (x tt)
    go false z x ih = rest (eq-or-lt_of_le (le_of_suc-le-suc l)) z ih

pub record Ascending (q : ℕ → Float) (most : ℕ) : Type 0 where
  pub g : ℕ → ℕ
  pub D : ℕ
  pub above : 0 < D
  pub value : (k : ℕ) → k ≤ most → HasValue (q k) false (g k) D
  pub grows : (j k : ℕ) → j < k → k ≤ most → g j < g k

-- every term that x equals lies from lo on and below hi
abbrev pub Within : (ℕ → Float) → ℕ → Float → ℕ → ℕ → Type 0
Within q most x lo hi = (j : ℕ) → j ≤ most → T (eq x (q j)) → (lo ≤ j) × (j < hi)

clash : (a b : ℕ) → a < b → b < a → ⊥
clash a b h k = omega arith

lt_or_gt : (a b : ℕ) → (a ≡ b → ⊥) → (a < b → ⊥) → b < a
lt_or_gt a b n l = lt_of_not-le (λ h. elim (eq-or-lt_of_le h) [ inl e ↦ n e | inr i ↦ l i ])

module _ (q : ℕ → Float) (most : ℕ) (l : Ascending q most) where
  -- g keeps and shows the order
  ordered : (j k : ℕ) → j ≤ most → l.g j < l.g k → j < k
  ordered j k J h = lt_of_not-le (λ (r : k ≤ j). elim (eq-or-lt_of_le r) [ inl e ↦ lt_irrefl (l.g j) (subst (λ (z : ℕ). l.g j < l.g z) e h) | inr s ↦ clash (l.g j) (l.g k) h (l.grows k j s J) ])

  same : (j k : ℕ) → j ≤ most → k ≤ most → l.g j ≡ l.g k → j ≡ k
  same j k J K e = elim (eq-or-lt_of_le (lt_of_not_le' j k (λ s. lt_irrefl (l.g j) (subst (λ (z : ℕ). z < l.g j) (sym e) (l.grows k j s J))))) [ inl p ↦ p | inr s ↦ absurd (lt_irrefl (l.g k) (subst (λ (z : ℕ). z < l.g k) e (l.grows j k s K))) ]
    where
      lt_of_not_le' : (a b : ℕ) → (b < a → ⊥) → a ≤ b
      lt_of_not_le' a b n = le_of_suc-le-suc (lt_of_not-le n)

  -- what equals two terms, equals one
  pub term_unique : (x : Float) (j k : ℕ) → j ≤ most → k ≤ most → T (eq x (q j)) → T (eq x (q k)) → j ≡ k
  term_unique x j k J K s t =
      same j k J K (eq_of_mul-eq-mul_right l.D l.above (l.g j) (l.g k)
      (is_one x (l.g j) l.D (l.g k) l.D (eq→is x (q j) (l.g j) l.D (l.value j J) s) (eq→is x (q k) (l.g k) l.D (l.value k K) t)))

  -- x is at the term j, and below, or neither below nor at, the term k
  term_below : (x : Float) (j k : ℕ) → j ≤ most → k ≤ most → T (eq x (q j)) → T (lt x (q k)) → j < k
  term_below x j k J K s t =
      let i = lt→less x (q k) (l.g j) l.D (l.g k) l.D l.above l.above (eq→is x (q j) (l.g j) l.D (l.value j J) s) (l.value k K) t in
      ordered j k J (lt_of_not-le (λ h. not-le_of_lt i (mul-le-mul_right l.D h)))

  term_above : (x : Float) (j k : ℕ) → j ≤ most → k ≤ most → T (eq x (q j)) → (T (eq x (q k)) → ⊥) → (T (lt x (q k)) → ⊥) → k < j
  term_above x j k J K s n m =
      lt_or_gt j k (λ e. n (subst (λ (z : ℕ). T (eq x (q z))) e s))
      (λ h. m (less→lt x (q k) (l.g j) l.D (l.g k) l.D (eq→is x (q j) (l.g j) l.D (l.value j J) s) (l.value k K)
      (lt_of_not-le (λ r. not-le_of_lt (l.grows j k h K) (le_of_mul (l.g k) (l.g j) r)))))
    where
      le_of_mul : (a b : ℕ) → a * l.D ≤ b * l.D → a ≤ b
      le_of_mul a b r = native.Mathlib.Nat.le_of_mul-le-mul_right r l.above

  -- ---- a search by halves
  pub within_all : (x : Float) → Within q most x 0 (most + 1)
  within_all x j J s = (zero-le, omega arith)

  pub within_left : (x : Float) (lo hi k : ℕ) → Within q most x lo hi → k ≤ most → lt x (q k) ≡ true → Within q most x lo k
  within_left x lo hi k w K t j J s = ((w j J s).0, term_below x j k J K s (subst T (sym t) tt))

  pub within_right : (x : Float) (lo hi k : ℕ) → Within q most x lo hi → k ≤ most → eq x (q k) ≡ false → lt x (q k) ≡ false → Within q most x (k + 1) hi
  within_right x lo hi k w K n m j J s =
      let h : k < j = term_above x j k J K s (λ (t : T (eq x (q k))). subst T n t) (λ (t : T (lt x (q k))). subst T m t) in
      (omega arith, (w j J s).1)

  pub found : (x : Float) (k : ℕ) → k ≤ most → eq x (q k) ≡ true → Some k ≡ seek (λ (j : ℕ). eq x (q j)) (suc most)
  found x k K t = sym (seek_at (λ (j : ℕ). eq x (q j)) (suc most) k (omega arith) (subst T (sym t) tt)
      (λ j J s. term_unique x j k (le_of_suc-le-suc J) K s (subst T (sym t) tt)))

  pub none : (x : Float) (lo hi : ℕ) → Within q most x lo hi → hi ≤ lo → None ≡ seek (λ (j : ℕ). eq x (q j)) (suc most)
  none x lo hi w h = sym (seek_none (λ (j : ℕ). eq x (q j)) (suc most) (λ j J s. let p = w j (le_of_suc-le-suc J) s in empty lo hi j h p.0 p.1))
    where
      empty : (lo hi j : ℕ) → hi ≤ lo → lo ≤ j → j < hi → ⊥
      empty lo hi j a b c = omega arith

-- ---- the two sequences
pub wholes : (most : ℕ) → most ≤ 2 ^ 53 → Ascending of_whole most
wholes most h = record { g = λ k. k; D = 1; above = zero-lt-suc 0; value = λ k K. whole_value k (le_trans K h); grows = λ j k l K. l }

pub few : (j d most : ℕ) → j < most → most ≤ 2 ^ 20 → j * 2 ^ 21 / d + 2 < 2 ^ 53
few j d most h m = let l : j * 2 ^ 21 / d ≤ j * 2 ^ 21 = div-le_self (j * 2 ^ 21) d in omega arith

-- the quotients by any d up to 2 ^ 20
pub quotients : (d most : ℕ) → 0 < d → d ≤ 2 ^ 20 → most ≤ 2 ^ 20 → Ascending (λ (k : ℕ). quotient k d) most
quotients d most P h m = record {
  g = λ k. grid binary64 k d;
  D = 2 ^ low binary64;
  above = pow_pos (low binary64);
  value = λ k K. quotient_value k d (le_trans K (le_trans m (lit≤ tt))) P (le_trans h (lit≤ tt));
  grows = λ j k l K. grid_less binary64 21 d j k (lit≤ tt) P (omega arith) l (le_trans K (le_trans m (lit≤ tt))) (few j d most (le_trans l K) m);
}

-- the quotients of all rates
pub millionths : Ascending (λ (k : ℕ). quotient k 1000000) most_rate
millionths = quotients 1000000 most_rate (zero-lt-suc 999999) (lit≤ tt) (lit≤ tt)
