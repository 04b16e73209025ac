-- Whole numbers that are near each other. The differences of two pairs of near numbers are near (moved_near), a scaled distance is the distance of
-- the scaled numbers (scaled), and what is near lies in an interval (interval_low, interval_high). Of two numbers, each at most `e` above
-- another: where their difference lies (above_low, above_high).
use mathlib.Core.Path.{◌≡◌, sym, ◌∙◌, ap, subst}
use mathlib.Core.Bool.{Bool, true, false, cond}
use Prim.Native.Nat.{ℕ, zero, suc, ◌+◌, ◌-◌, ◌*◌, ◌≤◌, ◌<◌}
use native.Mathlib.Nat as N
use native.Mathlib.Omega.{arith}
use lib.Dec.{T, ltb, ltb→lt, le→leb, leb→le}
use lib.IntN.{ℤ, pos, negsuc, neg_ℤ, nat_abs, sub_ℕ, -ℤ-+ℤ_cancel, ◌+ℤ◌, ◌-ℤ◌, ◌*ℤ◌}
use lib.Signed.{non_neg, le_z, pos-nat_abs, ◌≤ℤ◌}
use Rattle.algebra.specs.Integer.{ℤ_ring}
use Rattle.algebra.specs.IntegerOrder.{ℤ_ord, ◌≤Z◌, ≤_pos}
use Rattle.algebra.specs.Order as O
use Rattle.algebra.specs.Solver.{ring3, ring4, ⊖◌, ◌⊕◌, ◌⊗◌, ◌⊝◌, ◌:=◌}
use Rattle.algebra.specs.Linear.{lin4, lin6, ◌≼◌, ◌⋅◌, rest, ◌∣◌, ◌⊢◌}
use Rattle.rounding.proofs.Laws.{neg_below}

-- ---- the two orders of ℤ
sum_above : (k : ℕ) (a : ℤ) → T (le_z a (pos k +ℤ a))
sum_above k (pos m) = le→leb m (k + m) (omega arith)
sum_above k (negsuc m) = go (ltb k (suc m)) (ltb→lt k (suc m))
  where
    go : (t : Bool) → (T t → k < suc m) → T (le_z (negsuc m) (cond t (negsuc (suc m - suc k)) (pos (k - suc m))))
    go true f = le→leb (suc m - suc k) m (omega arith)
    go false f = tt

pub to_≤ℤ : {a b : ℤ} → a ≤Z b → a ≤ℤ b
to_≤ℤ {a} {b} h = record { le = subst (λ x. T (le_z a x)) (ap (λ x. x +ℤ a) (pos-nat_abs (b -ℤ a) h.le) ∙ -ℤ-+ℤ_cancel b a) (sum_above (nat_abs (b -ℤ a)) a) }

sub_nn : (a b : ℕ) → b ≤ a → T (non_neg (sub_ℕ a b))
sub_nn a b h = go (ltb a b) (ltb→lt a b)
  where
    go : (t : Bool) → (T t → a < b) → T (non_neg (cond t (negsuc (b - suc a)) (pos (a - b))))
    go true f = let l : a < b = f tt in absurd (omega arith)
    go false f = tt

of_le : (a b : ℤ) → T (le_z a b) → T (non_neg (b -ℤ a))
of_le (pos zero) (pos n) h = tt
of_le (pos (suc m)) (pos n) h = sub_nn n (suc m) (leb→le (suc m) n h)
of_le (pos m) (negsuc n) h = absurd h
of_le (negsuc m) (pos n) h = tt
of_le (negsuc m) (negsuc n) h = let l = leb→le n m h in sub_nn (suc m) (suc n) (omega arith)

pub of_≤ℤ : {a b : ℤ} → a ≤ℤ b → a ≤Z b
of_≤ℤ {a} {b} h = record { le = of_le a b h.le }

-- ---- sizes
pub pos_≤ : {m n : ℕ} → m ≤ n → pos m ≤Z pos n
pos_≤ {m} {n} h = of_≤ℤ (record { le = le→leb m n h })

pub abs_high : (z : ℤ) (c : ℕ) → nat_abs z ≤ c → z ≤Z pos c
abs_high (pos n) c h = pos_≤ h
abs_high (negsuc n) c h = of_≤ℤ (record { le = tt })

pub abs_low : (z : ℤ) (c : ℕ) → nat_abs z ≤ c → neg_ℤ z ≤Z pos c
abs_low (pos n) c h = of_≤ℤ (neg_below n c)
abs_low (negsuc n) c h = pos_≤ h

pub abs_of : (z : ℤ) (c : ℕ) → z ≤Z pos c → neg_ℤ z ≤Z pos c → nat_abs z ≤ c
abs_of (pos n) c h k = ≤_pos n c h
abs_of (negsuc n) c h k = ≤_pos (suc n) c k

-- ---- near numbers
pub moved_near : (x y a b : ℤ) (s t : ℕ) → nat_abs (x -ℤ a) ≤ s → nat_abs (y -ℤ b) ≤ t → nat_abs ((y -ℤ x) -ℤ (b -ℤ a)) ≤ s + t
moved_near x y a b s t h k =
    abs_of ((y -ℤ x) -ℤ (b -ℤ a)) (s + t)
    (lin6 ℤ_ring ℤ_ord (λ x y a b s t. 1 ⋅ ⊖ (x ⊝ a) ≼ s ∣ 1 ⋅ (y ⊝ b) ≼ t ∣ rest 0 ⊢ ((y ⊝ x) ⊝ (b ⊝ a)) ≼ s ⊕ t) tt x y a b (pos s) (pos t)
    (abs_low (x -ℤ a) s h, (abs_high (y -ℤ b) t k, tt)))
    (lin6 ℤ_ring ℤ_ord (λ x y a b s t. 1 ⋅ (x ⊝ a) ≼ s ∣ 1 ⋅ ⊖ (y ⊝ b) ≼ t ∣ rest 0 ⊢ ⊖ ((y ⊝ x) ⊝ (b ⊝ a)) ≼ s ⊕ t) tt x y a b (pos s) (pos t)
    (abs_high (x -ℤ a) s h, (abs_low (y -ℤ b) t k, tt)))

pub interval_low : (x e : ℤ) (c : ℕ) → nat_abs (x -ℤ e) ≤ c → (x -ℤ pos c) ≤Z e
interval_low x e c h = lin4 ℤ_ring ℤ_ord (λ x e c z. 1 ⋅ (x ⊝ e) ≼ c ∣ rest 0 ⊢ (x ⊝ c) ≼ e) tt x e (pos c) (pos 0) (abs_high (x -ℤ e) c h, tt)

pub interval_high : (x e : ℤ) (c : ℕ) → nat_abs (x -ℤ e) ≤ c → e ≤Z (x +ℤ pos c)
interval_high x e c h = lin4 ℤ_ring ℤ_ord (λ x e c z. 1 ⋅ ⊖ (x ⊝ e) ≼ c ∣ rest 0 ⊢ e ≼ (x ⊕ c)) tt x e (pos c) (pos 0) (abs_low (x -ℤ e) c h, tt)

-- an end of an interval, times n
pub low_end : (n : ℕ) (z : ℤ) (w : ℕ) → pos n *ℤ (z -ℤ pos w) ≡ pos n *ℤ z -ℤ pos (n * w)
low_end n z w = ring3 ℤ_ring (λ n z w. n ⊗ (z ⊝ w) := n ⊗ z ⊝ n ⊗ w) tt (pos n) z (pos w)

pub high_end : (n : ℕ) (z : ℤ) (w : ℕ) → pos n *ℤ (z +ℤ pos w) ≡ pos n *ℤ z +ℤ pos (n * w)
high_end n z w = ring3 ℤ_ring (λ n z w. n ⊗ (z ⊕ w) := n ⊗ z ⊕ n ⊗ w) tt (pos n) z (pos w)

-- ---- scaled by a number that is not negative
pub scale : (n : ℕ) {a b : ℤ} → a ≤Z b → (pos n *ℤ a) ≤Z (pos n *ℤ b)
scale n h = O.≤_mul ℤ_ring ℤ_ord (pos n) (pos_≤ {m = 0} {n = n} (omega arith)) h

pub scale_above : (n : ℕ) (x l e : ℤ) → x ≤Z (l +ℤ e) → (pos n *ℤ x) ≤Z (pos n *ℤ l +ℤ pos n *ℤ e)
scale_above n x l e h = O.≤_trans ℤ_ring ℤ_ord (scale n h) (O.≤_of_eq ℤ_ring ℤ_ord (ring3 ℤ_ring (λ n l e. n ⊗ (l ⊕ e) := n ⊗ l ⊕ n ⊗ e) tt (pos n) l e))

-- E × (D × p - a), of the distance D × w
pub scaled : (E D w : ℕ) (p a : ℤ) → nat_abs (pos D *ℤ p -ℤ a) ≤ D * w → nat_abs (pos (E * D) *ℤ p -ℤ pos E *ℤ a) ≤ E * D * w
scaled E D w p a h =
    abs_of (pos (E * D) *ℤ p -ℤ pos E *ℤ a) (E * D * w)
    (up (O.≤_trans ℤ_ring ℤ_ord (O.≤_of_eq ℤ_ring ℤ_ord out) (scale E (abs_high (pos D *ℤ p -ℤ a) (D * w) h))))
    (up (O.≤_trans ℤ_ring ℤ_ord (O.≤_of_eq ℤ_ring ℤ_ord neg_out) (scale E (abs_low (pos D *ℤ p -ℤ a) (D * w) h))))
  where
    out : pos (E * D) *ℤ p -ℤ pos E *ℤ a ≡ pos E *ℤ (pos D *ℤ p -ℤ a)
    out = ring4 ℤ_ring (λ e d p a. e ⊗ d ⊗ p ⊝ e ⊗ a := e ⊗ (d ⊗ p ⊝ a)) tt (pos E) (pos D) p a

    neg_out : neg_ℤ (pos (E * D) *ℤ p -ℤ pos E *ℤ a) ≡ pos E *ℤ neg_ℤ (pos D *ℤ p -ℤ a)
    neg_out = ring4 ℤ_ring (λ e d p a. ⊖ (e ⊗ d ⊗ p ⊝ e ⊗ a) := e ⊗ ⊖ (d ⊗ p ⊝ a)) tt (pos E) (pos D) p a

    up : {z : ℤ} → z ≤Z pos (E * (D * w)) → z ≤Z pos (E * D * w)
    up k = O.≤_trans ℤ_ring ℤ_ord k (pos_≤ (N.le_of_eq (sym (N.mul_assoc E D w))))

-- ---- numbers l and m, and g and h that are at most e and f above them
pub above_low : (l g m h f : ℤ) → l ≤Z g → h ≤Z (m +ℤ f) → ((h -ℤ g) -ℤ f) ≤Z (m -ℤ l)
above_low l g m h f low high =
    lin6 ℤ_ring ℤ_ord (λ l g m h f z. 1 ⋅ l ≼ g ∣ 1 ⋅ h ≼ m ⊕ f ∣ rest 0 ⊢ ((h ⊝ g) ⊝ f) ≼ (m ⊝ l)) tt l g m h f (pos 0) (low, (high, tt))

pub above_high : (l g m h e : ℤ) → g ≤Z (l +ℤ e) → m ≤Z h → (m -ℤ l) ≤Z ((h -ℤ g) +ℤ e)
above_high l g m h e high low =
    lin6 ℤ_ring ℤ_ord (λ l g m h e z. 1 ⋅ g ≼ l ⊕ e ∣ 1 ⋅ m ≼ h ∣ rest 0 ⊢ (m ⊝ l) ≼ ((h ⊝ g) ⊕ e)) tt l g m h e (pos 0) (high, (low, tt))
