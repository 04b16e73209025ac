-- The transform: D is within H of U T at each place 1 to X, where T is the exact transform of the lives cut at order r
-- (transform_close). A list of terms is Close to a number at a place; lists and numbers add (append_close). A placed term is off by at
-- most its place, a term that is not placed although its place is within X is 0 (not_placed), and the terms of group 2 are exact.
use Rattle.std.specs.Prelude.{◌≡◌, Bool, true, false, not, cond, ◌&&◌, ◌||◌, T, ltb, leb, eqb, get_or, ℤ, pos, ◌+ℤ◌, if◌then◌else◌}
use Rattle.std.proofs.Math.Path.{refl}
use Rattle.std.proofs.Common.{sym, ◌∙◌, ap, subst, zero-add, zero-mul, arith, eqb→eq, nltb→le, T_not, le→leb, lt→ltb}
use mathlib.Core.List.{List, [], ◌∷◌, ◌++◌}
use Prim.Native.Nat.{ℕ, zero, suc, ◌<◌, ◌+◌ as ◌+ⁿ◌, ◌*◌ as ◌*ⁿ◌, ◌≤◌ as ◌≤ⁿ◌}
use Rattle.std.proofs.Math.Dec.{eqb_refl}
use Rattle.std.proofs.Math.IntN.{+ℤ_idr}
use Rattle.algebra.specs.Laws as L
use Rattle.algebra.specs.Solver.{𝟎, ◌⊕◌, ◌⊗◌, ⊖◌, ◌⊝◌, ◌:=◌, ring1, ring3, ring4, ring5}
use Rattle.algebra.specs.Q.{ℚ, ℚ_ring, zero_q, ◌+ℚ◌, ◌-ℚ◌, ◌*ℚ◌, ◌≤ℚ◌, abs, ≤_trans, ≤_of_eq, abs_add_le, abs_subst}
use Rattle.algebra.specs.Embedding.{ofℤ, nat, ofℤ_add, nat_zero, nat_add, nat_mul}
use Rattle.algebra.specs.Quotient.{over, over_ok, over_zero, over_add}
use Rattle.algebra.specs.RationalSum.{sum, whole_same_close}
use Rattle.algebra.specs.Power.{sgn}
use Rattle.algebra.specs.PowerSeries.{θ}
use Rattle.expansion.specs.Logarithm.{log_s}
use Rattle.expansion.specs.Member.{logs, transform}
use Rattle.expansion.specs.Triangle.{rows_q, rows_q_no_q, rows_q_no_i}
use Rattle.expansion.specs.RowPower.{odds, log_entry, log_rows}
use Rattle.rounding.specs.Rounding.{near}
use Rattle.fund.specs.declared.Frequencies.{Frequencies}
use Rattle.fund.specs.declared.Life.{Life}
use Rattle.fund.specs.Base.{total, alternate}
use Rattle.fund.specs.Folding.{claim, stay, single}
use Rattle.fund.specs.Transform.{unit, row, Term, place_of, placed, term_of, row_terms, single_terms, death_weight, disability_weight, replaced_term, replaced_terms, terms, sum_d, sum_h, D, H}
use Rattle.fund.specs.Exact.{weight_at}
use Rattle.laws.specs.Accepted.{All, Limited}
use Rattle.laws.specs.Terms.{sum_d_append, sum_h_append}
use Rattle.laws.specs.Weights.{death_at, disability_at}
use Rattle.distance.specs.Errors.{U, unit_pos, alternate_close}
use Rattle.distance.specs.Lives.{member_of, members, W}
use Rattle.distance.specs.Triangle.{placed_close}

-- ---- lists of terms
-- what the terms add to D at k is within what they add to H of U y
abbrev Close : ℕ → List Term → ℚ → Type 0
Close k ts y = abs (ofℤ (sum_d k ts) -ℚ U *ℚ y) ≤ℚ nat (sum_h k ts)

nothing : ofℤ (pos 0) ≡ U *ℚ zero_q
nothing = nat_zero ∙ sym (L.mul-zero ℚ_ring U)

nil_close : (k : ℕ) (y : ℚ) → y ≡ zero_q → Close k [] y
unfolding sum_d sum_h
nil_close k y h = whole_same_close U (pos 0) y 0 (nothing ∙ ap (λ x. U *ℚ x) (sym h))

append_close : (k : ℕ) (ts us : List Term) (y z : ℚ) → Close k ts y → Close k us z → Close k (ts ++ us) (y +ℚ z)
append_close k ts us y z h g =
    ≤_trans (abs_subst both (abs_add_le (ofℤ (sum_d k ts) -ℚ U *ℚ y) (ofℤ (sum_d k us) -ℚ U *ℚ z) (nat (sum_h k ts)) (nat (sum_h k us)) h g))
    (≤_of_eq (sym (nat_add (sum_h k ts) (sum_h k us)) ∙ ap nat (sym (sum_h_append k ts us))))
  where
    both : (ofℤ (sum_d k ts) -ℚ U *ℚ y) +ℚ (ofℤ (sum_d k us) -ℚ U *ℚ z) ≡ ofℤ (sum_d k (ts ++ us)) -ℚ U *ℚ (y +ℚ z)
    both = ring5 ℚ_ring (λ a b u x y. (a ⊝ u ⊗ x) ⊕ (b ⊝ u ⊗ y) := (a ⊕ b) ⊝ u ⊗ (x ⊕ y)) tt (ofℤ (sum_d k ts)) (ofℤ (sum_d k us)) U y z
        ∙ ap (λ x. x -ℚ U *ℚ (y +ℚ z)) (sym (ofℤ_add (sum_d k ts) (sum_d k us)) ∙ ap ofℤ (sym (sum_d_append k ts us)))

-- ---- group 1
-- a group 1 life's q + i is at most its p
abbrev pub Fair : Life → Type 0
Fair m = single m ≡ true → (0 < stay m) × (claim m ≤ⁿ stay m)

pub limited_fair : (m : Life) → Limited m → Fair m
limited_fair m limited s = let h = limited s in (omega arith, omega arith)

-- a term that is not placed although its place is within X
not_placed : (X : ℕ) (m : Life) (n l : ℕ) → l ≤ⁿ n → place_of m n l ≤ⁿ X → T (not (placed X m n l)) → rows_q m.q m.i (stay m) n l ≡ zero_q
unfolding placed
not_placed X m n l h g =
    go (leb (place_of m n l) X) (le→leb (place_of m n l) X g) (ltb 0 m.q) (λ t. zero_of m.q (nltb→le 0 m.q t)) (eqb l 0) (pos_of l)
    (ltb 0 m.i) (λ t. zero_of m.i (nltb→le 0 m.i t)) (eqb l n) below
  where
    zero_of : (q : ℕ) → q ≤ⁿ 0 → q ≡ 0
    zero_of q h = omega arith

    pos_of : (l : ℕ) → T (not (eqb l 0)) → 0 < l
    pos_of zero t = absurd t
    pos_of (suc l) t = omega arith

    below : T (not (eqb l n)) → l < n
    below t = less (λ e. T_not (eqb l n) t (subst (λ x. T (eqb l x)) e (eqb_refl l)))
      where
        less : (l ≡ n → ⊥) → l < n
        less f = omega arith

    no_q : m.q ≡ 0 → 0 < l → rows_q m.q m.i (stay m) n l ≡ zero_q
    no_q e t = ap (λ x. rows_q x m.i (stay m) n l) e ∙ rows_q_no_q m.i (stay m) n l t

    no_i : m.i ≡ 0 → l < n → rows_q m.q m.i (stay m) n l ≡ zero_q
    no_i e t = ap (λ x. rows_q m.q x (stay m) n l) e ∙ rows_q_no_i m.q (stay m) n l t

    go : (x : Bool) → T x → (a : Bool) → (T (not a) → m.q ≡ 0) → (b : Bool) → (T (not b) → 0 < l) → (c : Bool) → (T (not c) → m.i ≡ 0) →
        (d : Bool) → (T (not d) → l < n) →
        T (not (x && (a || b) && (c || d))) → rows_q m.q m.i (stay m) n l ≡ zero_q
    go false x a f b g c f' d g' t = absurd x
    go true x false f false g c f' d g' t = no_q (f tt) (g tt)
    go true x true f b g false f' false g' t = no_i (f' tt) (g' tt)
    go true x false f true g false f' false g' t = no_i (f' tt) (g' tt)
    go true x true f b g true f' d g' t = absurd t
    go true x true f b g false f' true g' t = absurd t
    go true x false f true g true f' d g' t = absurd t
    go true x false f true g false f' true g' t = absurd t

module _ (X : ℕ) (m : Life) (fair : (0 < stay m) × (claim m ≤ⁿ stay m)) (k : ℕ) (k-pos : 0 < k) (k-le : k ≤ⁿ X) where
  -- the exact term (n + 1, l) at k
  abbrev exact_term : ℕ → ℕ → ℚ
  exact_term n l = log_entry m.q m.i (stay m) m.d m.e k n l

  term_close : (n l : ℕ) → l ≤ⁿ suc n → l ≤ⁿ 12 → Close k (if placed X m (suc n) l then term_of m (suc n) l ∷ [] else []) (exact_term n l)
  unfolding sum_d sum_h term_of
  term_close n l h g = go (placed X m (suc n) l) (not_placed X m (suc n) l h)
    where
      x : ℕ
      x = place_of m (suc n) l

      v : ℚ
      v = rows_q m.q m.i (stay m) (suc n) l

      o : ℚ
      o = over (nat x *ℚ v) (suc n)

      a : ℤ
      a = alternate (suc (suc n)) (pos (near (x *ⁿ get_or (row m (suc n)) l 0) (suc n)))

      -- the two signs more change nothing
      a_close : 0 < x → abs (ofℤ a -ℚ U *ℚ (sgn n *ℚ o)) ≤ℚ nat x
      a_close x_pos = abs_subst (ring4 ℚ_ring (λ a u s o. a ⊝ u ⊗ (⊖ (⊖ s) ⊗ o) := a ⊝ u ⊗ (s ⊗ o)) tt (ofℤ a) U (sgn n) o)
          (alternate_close (suc (suc n)) (pos (near (x *ⁿ get_or (row m (suc n)) l 0) (suc n))) U o (nat x)
          (placed_close m fair.0 fair.1 x n l x_pos g))

      here : (b : Bool) → (T b → x ≡ k) →
          abs (ofℤ ((if b then a else pos 0) +ℤ pos 0) -ℚ U *ℚ cond b (sgn n *ℚ o) zero_q) ≤ℚ nat ((if b then x else 0) +ⁿ 0)
      here true e = subst (λ z. abs (ofℤ z -ℚ U *ℚ (sgn n *ℚ o)) ≤ℚ nat (x +ⁿ 0)) (sym (+ℤ_idr a))
          (≤_trans (a_close (let e = e tt in omega arith)) (≤_of_eq (ap nat (let e : x ≡ x +ⁿ 0 = omega arith in e))))
      here false e = whole_same_close U (pos 0) zero_q 0 nothing

      zero_term : (b : Bool) → (T b → v ≡ zero_q) → cond b (sgn n *ℚ o) zero_q ≡ zero_q
      zero_term true e = ap (λ y. sgn n *ℚ over y (suc n)) (ap (λ y. nat x *ℚ y) (e tt) ∙ L.mul-zero ℚ_ring (nat x))
          ∙ ap (λ y. sgn n *ℚ y) (over_zero (suc n)) ∙ L.mul-zero ℚ_ring (sgn n)
      zero_term false e = refl

      go : (b : Bool) → (x ≤ⁿ X → T (not b) → v ≡ zero_q) → Close k (if b then term_of m (suc n) l ∷ [] else []) (exact_term n l)
      go true none = here (eqb x k) (eqb→eq x k)
      go false none = nil_close k (exact_term n l) (zero_term (eqb x k) (λ t. none (let e = eqb→eq x k t in omega arith) tt))

  row_terms_close : (n L : ℕ) → L ≤ⁿ suc (suc n) → n < 12 → Close k (row_terms X m (suc n) L) (sum L (exact_term n))
  unfolding row_terms
  row_terms_close n zero h g = nil_close k zero_q refl
  row_terms_close n (suc l) h g = append_close k (row_terms X m (suc n) l) (if placed X m (suc n) l then term_of m (suc n) l ∷ [] else [])
      (sum l (exact_term n)) (exact_term n l)
      (row_terms_close n l (omega arith) g) (term_close n l (omega arith) (omega arith))

  orders_close : (r : ℕ) → r ≤ⁿ 12 → Close k (single_terms X m r) (sum r (λ n. sum (suc (suc n)) (exact_term n)))
  unfolding single_terms
  orders_close zero h = nil_close k zero_q refl
  orders_close (suc n) h = append_close k (single_terms X m n) (row_terms X m (suc n) (suc (suc n)))
      (sum n (λ n. sum (suc (suc n)) (exact_term n))) (sum (suc (suc n)) (exact_term n))
      (orders_close n (omega arith)) (row_terms_close n (suc (suc n)) (omega arith) (omega arith))

  single_close : (r : ℕ) → r ≤ⁿ 12 → Close k (single_terms X m r) (θ (log_s (odds m.q m.i (stay m) m.d m.e) r) k)
  single_close r h = subst (Close k (single_terms X m r)) (sym (log_rows m.q m.i (stay m) m.d m.e r k)) (orders_close r h)

-- ---- group 2
-- a weight w at d as a term, at a place k from 1 to X
replaced_sum : (X w d k : ℕ) → 0 < k → k ≤ⁿ X → sum_d k (replaced_term X w d) ≡ pos ((if eqb d k then w else 0) *ⁿ k)
unfolding replaced_term sum_d
replaced_sum X w d k k-pos k-le = go (ltb 0 d && leb d X) test
  where
    both : (a b : Bool) → T a → T b → T (a && b)
    both true b h g = g
    both false b h g = absurd h

    test : d ≡ k → T (ltb 0 d && leb d X)
    test e = both (ltb 0 d) (leb d X) (lt→ltb 0 d (omega arith)) (le→leb d X (omega arith))

    here : (b : Bool) → (T b → d ≡ k) → (if b then pos (w *ⁿ d) else pos 0) +ℤ pos 0 ≡ pos ((if b then w else 0) *ⁿ k)
    here true e = +ℤ_idr (pos (w *ⁿ d)) ∙ ap (λ x. pos (w *ⁿ x)) (e tt)
    here false e = ap pos (sym (zero-mul k))

    none : (b : Bool) → (T b → ⊥) → pos 0 ≡ pos ((if b then w else 0) *ⁿ k)
    none true e = absurd (e tt)
    none false e = ap pos (sym (zero-mul k))

    go : (b : Bool) → (d ≡ k → T b) →
        sum_d k (if b then record { place = d; to_d = pos (w *ⁿ d); to_h = 0 } ∷ [] else []) ≡ pos ((if eqb d k then w else 0) *ⁿ k)
    go true t = here (eqb d k) (eqb→eq d k)
    go false t = none (eqb d k) (λ h. t (eqb→eq d k h))

replaced_term_close : (X w d k : ℕ) → 0 < k → k ≤ⁿ X → Close k (replaced_term X w d) (nat k *ℚ over (nat (if eqb d k then w else 0)) unit)
replaced_term_close X w d k k-pos k-le =
    whole_same_close U (sum_d k (replaced_term X w d)) (nat k *ℚ over (nat u) unit) (sum_h k (replaced_term X w d))
    (ap ofℤ (replaced_sum X w d k k-pos k-le) ∙ nat_mul u k ∙ ap (λ x. x *ℚ nat k) (sym (over_ok (nat u) unit unit_pos))
    ∙ ring3 ℚ_ring (λ u o k. u ⊗ o ⊗ k := u ⊗ (k ⊗ o)) tt U (over (nat u) unit) (nat k))
  where
    u : ℕ
    u = if eqb d k then w else 0

-- the weight of a life at k, in units
abbrev weight_of : Frequencies → Life → ℕ → ℕ
weight_of a m k = death_at a m k +ⁿ disability_at a m k

replaced_close : (X : ℕ) (a : Frequencies) (m : Life) (k : ℕ) → 0 < k → k ≤ⁿ X → Close k (replaced_terms X a m) (nat k *ℚ over (nat (weight_of a m k)) unit)
unfolding replaced_terms
replaced_close X a m k k-pos k-le =
    subst (Close k (replaced_terms X a m))
    (sym (ℚ_ring.distrib (nat k) (over (nat u) unit) (over (nat v) unit))
    ∙ ap (λ x. nat k *ℚ x) (sym (over_add (nat u) (nat v) unit) ∙ ap (λ x. over x unit) (sym (nat_add u v))))
    (append_close k (replaced_term X (death_weight a m) m.d) (replaced_term X (disability_weight a m) m.e) (nat k *ℚ over (nat u) unit)
    (nat k *ℚ over (nat v) unit)
    (replaced_term_close X (death_weight a m) m.d k k-pos k-le) (replaced_term_close X (disability_weight a m) m.e k k-pos k-le))
  where
    u : ℕ
    u = death_at a m k

    v : ℕ
    v = disability_at a m k

-- ---- all lives
terms_close : (X r : ℕ) (a : Frequencies) → r ≤ⁿ 12 → (k : ℕ) → suc k ≤ⁿ X → (ms : List Life) → All Fair ms →
    Close (suc k) (terms X r a ms) (transform r (members r ms) (W a ms) (suc k))
unfolding terms members W weight_at total
terms_close X r a h k k-le [] fair = nil_close (suc k) (K *ℚ zero_q +ℚ K *ℚ over (nat 0) unit)
    (ap (λ x. K *ℚ zero_q +ℚ K *ℚ x) (ap (λ x. over x unit) nat_zero ∙ over_zero unit) ∙ ring1 ℚ_ring (λ k. k ⊗ 𝟎 ⊕ k ⊗ 𝟎 := 𝟎) tt K)
  where
    K : ℚ
    K = nat (suc k)
terms_close X r a h k k-le (m ∷ ms) fair = go (single m) fair.0 (terms_close X r a h k k-le ms fair.1)
  where
    K : ℚ
    K = nat (suc k)

    z : ℕ → ℚ
    z = odds m.q m.i (stay m) m.d m.e

    rest : ℚ
    rest = logs r (members r ms) (suc k)

    u : ℕ
    u = weight_at a ms (suc k)

    go : (b : Bool) → (b ≡ true → (0 < stay m) × (claim m ≤ⁿ stay m)) → Close (suc k) (terms X r a ms) (K *ℚ rest +ℚ K *ℚ over (nat u) unit) →
        Close (suc k) ((if b then single_terms X m r else replaced_terms X a m) ++ terms X r a ms)
        (K *ℚ logs r (if b then member_of r m ∷ members r ms else members r ms) (suc k)
        +ℚ K *ℚ over (nat ((if b then 0 else weight_of a m (suc k)) +ⁿ u)) unit)
    go true f later =
        subst (Close (suc k) (single_terms X m r ++ terms X r a ms))
        (ring4 ℚ_ring (λ k s l w. k ⊗ s ⊕ (k ⊗ l ⊕ k ⊗ w) := k ⊗ (s ⊕ l) ⊕ k ⊗ w) tt K (log_s z r (suc k)) rest (over (nat u) unit)
        ∙ ap (λ x. K *ℚ (log_s z r (suc k) +ℚ rest) +ℚ K *ℚ over (nat x) unit) (sym (zero-add u)))
        (append_close (suc k) (single_terms X m r) (terms X r a ms) (K *ℚ log_s z r (suc k)) (K *ℚ rest +ℚ K *ℚ over (nat u) unit)
        (single_close X m (f refl) (suc k) (omega arith) k-le r h) later)
    go false f later =
        subst (Close (suc k) (replaced_terms X a m ++ terms X r a ms))
        (ring4 ℚ_ring (λ k v l w. k ⊗ v ⊕ (k ⊗ l ⊕ k ⊗ w) := k ⊗ l ⊕ k ⊗ (v ⊕ w)) tt K (over (nat (weight_of a m (suc k))) unit) rest
        (over (nat u) unit)
        ∙ ap (λ x. K *ℚ rest +ℚ K *ℚ x)
        (sym (over_add (nat (weight_of a m (suc k))) (nat u) unit) ∙ ap (λ x. over x unit) (sym (nat_add (weight_of a m (suc k)) u))))
        (append_close (suc k) (replaced_terms X a m) (terms X r a ms) (K *ℚ over (nat (weight_of a m (suc k))) unit)
        (K *ℚ rest +ℚ K *ℚ over (nat u) unit) (replaced_close X a m (suc k) (omega arith) k-le) later)

pub transform_close : (X r : ℕ) (a : Frequencies) (ms : List Life) → r ≤ⁿ 12 → All Fair ms → (k : ℕ) → 0 < k → k ≤ⁿ X →
    abs (ofℤ (D (terms X r a ms) k) -ℚ nat unit *ℚ transform r (members r ms) (W a ms) k) ≤ℚ nat (H (terms X r a ms) k)
unfolding D H
transform_close X r a ms h fair zero k-pos k-le = absurd (omega arith)
transform_close X r a ms h fair (suc k) k-pos k-le = terms_close X r a h k k-le ms fair
