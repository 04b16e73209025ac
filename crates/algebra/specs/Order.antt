-- An ordered commutative ring is a ring with a test of sign. The order a ≤ b is that b - a is not negative; sums, products
-- and negation keep it. The absolute value: abs_add (triangle), abs_mul, product_distance. The ring's whole numbers are
-- ordered as ℤ is (int_reflect).
use Rattle.std.specs.Prelude.{◌≡◌, refl, Bool, true, false, not, cond, ℕ, zero, suc, T, ℤ, pos, negsuc, neg_ℤ, ◌-ℤ◌}
use Rattle.std.proofs.Common.{sym, ◌∙◌, ap, subst}
use Rattle.std.specs.Int.Signed.{non_neg}
use Rattle.algebra.specs.Ring.{CRing}
use Rattle.algebra.specs.Laws as L
use Rattle.algebra.specs.Solver.{𝟎, 𝟏, ◌⊕◌, ◌⊗◌, ⊖◌, ◌⊝◌, ◌:=◌, nat, nat_suc, int, int_zero, int_add, int_neg, ring1, ring2}
use Rattle.algebra.specs.Solver.{ring3, ring4}

pub record Ord (R : CRing) : Type 0 where
  pub nonneg : R.Carrier → Bool
  pub nn_add : (a b : R.Carrier) → T (nonneg a) → T (nonneg b) → T (nonneg (R.add a b))
  pub nn_mul : (a b : R.Carrier) → T (nonneg a) → T (nonneg b) → T (nonneg (R.mul a b))
  pub nn_total : (a : R.Carrier) → T (not (nonneg a)) → T (nonneg (R.neg a))
  pub nn_one : T (not (nonneg (R.neg R.one#)))
  pub nn_antisym : (a : R.Carrier) → T (nonneg a) → T (nonneg (R.neg a)) → a ≡ R.zero#

module _ (R : CRing) (O : Ord R) where
  infixl 6 ◌+◌ ◌-◌
  infixl 7 ◌*◌
  infix 4 ◌≤◌
  open R use {Carrier, add as ◌+◌, mul as ◌*◌, neg, zero#, one#, add_neg, mul-one}
  open O use {nonneg, nn_add, nn_mul, nn_total, nn_one, nn_antisym}

  abbrev pub ◌-◌ : Carrier → Carrier → Carrier
  a - b = a + neg b

  pub record ◌≤◌ (a b : Carrier) : Type 0 where
    pub le : T (nonneg (b - a))

  nonneg_of : {a b : Carrier} → a ≡ b → T (nonneg a) → T (nonneg b)
  nonneg_of e h = subst (λ y. T (nonneg y)) e h

  -- from the difference, x, which is not negative
  pub le_by : (a b x : Carrier) → T (nonneg x) → x ≡ b - a → a ≤ b
  le_by a b x h e = record { le = nonneg_of e h }

  pub nn : {a : Carrier} → zero# ≤ a → T (nonneg a)
  nn {a} h = nonneg_of (ring1 R (λ a. a ⊝ 𝟎 := a) tt a) h.le

  cases : (b : Bool) (P : Type 0) → (T b → P) → (T (not b) → P) → P
  cases true P f g = f tt
  cases false P f g = g tt

  pub sq_nn : (a : Carrier) → T (nonneg (a * a))
  sq_nn a = cases (nonneg a) (T (nonneg (a * a))) (λ h. nn_mul a a h h)
      (λ h. nonneg_of (ring1 R (λ a. ⊖ a ⊗ ⊖ a := a ⊗ a) tt a) (nn_mul (neg a) (neg a) (nn_total a h) (nn_total a h)))

  pub one_nn : T (nonneg one#)
  one_nn = nonneg_of (mul-one one#) (sq_nn one#)

  pub zero_nn : T (nonneg zero#)
  zero_nn = nonneg_of (L.zero-mul R zero#) (sq_nn zero#)

  pub ≤_refl : (a : Carrier) → a ≤ a
  ≤_refl a = le_by a a zero# zero_nn (sym (add_neg a))

  pub ≤_trans : {a b c : Carrier} → a ≤ b → b ≤ c → a ≤ c
  ≤_trans {a} {b} {c} h k = le_by a c ((b - a) + (c - b)) (nn_add (b - a) (c - b) h.le k.le)
      (ring3 R (λ a b c. (b ⊝ a) ⊕ (c ⊝ b) := c ⊝ a) tt a b c)

  pub ≤_antisym : {a b : Carrier} → a ≤ b → b ≤ a → a ≡ b
  ≤_antisym {a} {b} h k =
      ring2 R (λ a b. a := b ⊝ (b ⊝ a)) tt a b
      ∙ ap (λ x. b - x) (nn_antisym (b - a) h.le (nonneg_of (ring2 R (λ a b. a ⊝ b := ⊖ (b ⊝ a)) tt a b) k.le))
      ∙ ring1 R (λ b. b ⊝ 𝟎 := b) tt b

  pub ≤_add : {a b c d : Carrier} → a ≤ b → c ≤ d → a + c ≤ b + d
  ≤_add {a} {b} {c} {d} h k = le_by (a + c) (b + d) ((b - a) + (d - c)) (nn_add (b - a) (d - c) h.le k.le)
      (ring4 R (λ a b c d. (b ⊝ a) ⊕ (d ⊝ c) := (b ⊕ d) ⊝ (a ⊕ c)) tt a b c d)

  pub ≤_mul : {a b : Carrier} (c : Carrier) → zero# ≤ c → a ≤ b → c * a ≤ c * b
  ≤_mul {a} {b} c z h = le_by (c * a) (c * b) (c * (b - a)) (nn_mul c (b - a) (nn z) h.le)
      (ring3 R (λ a b c. c ⊗ (b ⊝ a) := c ⊗ b ⊝ c ⊗ a) tt a b c)

  pub ≤_neg : {a b : Carrier} → a ≤ b → neg b ≤ neg a
  ≤_neg {a} {b} h = le_by (neg b) (neg a) (b - a) h.le (ring2 R (λ a b. b ⊝ a := ⊖ a ⊝ ⊖ b) tt a b)

  pub ≤_of_eq : {a b : Carrier} → a ≡ b → a ≤ b
  ≤_of_eq {a} e = subst (λ x. a ≤ x) e (≤_refl a)

  pub ≤_total : (a b : Carrier) (P : Type 0) → (a ≤ b → P) → (b ≤ a → P) → P
  ≤_total a b P f g = cases (nonneg (b - a)) P (λ h. f (record { le = h }))
      (λ h. g (le_by b a (neg (b - a)) (nn_total (b - a) h) (ring2 R (λ a b. ⊖ (b ⊝ a) := a ⊝ b) tt a b)))

  neg_nn : {a : Carrier} → a ≤ zero# → zero# ≤ neg a
  neg_nn {a} h = le_by zero# (neg a) (zero# - a) h.le (ring1 R (λ a. 𝟎 ⊝ a := ⊖ a ⊝ 𝟎) tt a)

  mul_nn : {a b : Carrier} → zero# ≤ a → zero# ≤ b → zero# ≤ a * b
  mul_nn {a} {b} h k = le_by zero# (a * b) (a * b) (nn_mul a b (nn h) (nn k)) (ring2 R (λ a b. a ⊗ b := a ⊗ b ⊝ 𝟎) tt a b)

  -- ---- the absolute value
  pub abs : Carrier → Carrier
  abs a = cond (nonneg a) a (neg a)

  cond_ind : (c : Bool) (x y : Carrier) (P : Carrier → Type 0) → (T c → P x) → (T (not c) → P y) → P (cond c x y)
  cond_ind true x y P f g = f tt
  cond_ind false x y P f g = g tt

  -- the two cases of an absolute value
  pub abs_ind : (a : Carrier) (P : Carrier → Type 0) → (zero# ≤ a → P a) → (a ≤ zero# → P (neg a)) → P (abs a)
  unfolding abs
  abs_ind a P f g = cond_ind (nonneg a) a (neg a) P (λ h. f (le_by zero# a a h (ring1 R (λ a. a := a ⊝ 𝟎) tt a)))
      (λ h. g (le_by a zero# (neg a) (nn_total a h) (ring1 R (λ a. ⊖ a := 𝟎 ⊝ a) tt a)))

  pub abs_ge : (a : Carrier) → a ≤ abs a
  abs_ge a = abs_ind a (λ x. a ≤ x) (λ h. ≤_refl a) (λ h. ≤_trans h (neg_nn h))

  pub abs_ge_neg : (a : Carrier) → neg a ≤ abs a
  abs_ge_neg a = abs_ind a (λ x. neg a ≤ x) (λ h. ≤_trans (≤_trans (≤_neg h) (≤_of_eq (L.neg_zero R))) h) (λ h. ≤_refl (neg a))

  pub abs_le : (a b : Carrier) → a ≤ b → neg a ≤ b → abs a ≤ b
  abs_le a b h k = abs_ind a (λ x. x ≤ b) (λ _. h) (λ _. k)

  pub abs_nn : (a : Carrier) → zero# ≤ abs a
  abs_nn a = abs_ind a (λ x. zero# ≤ x) (λ h. h) neg_nn

  pub abs_add : (a b : Carrier) → abs (a + b) ≤ abs a + abs b
  abs_add a b = abs_le (a + b) (abs a + abs b) (≤_add (abs_ge a) (abs_ge b))
      (subst (λ x. x ≤ abs a + abs b) (sym (L.neg_sum R a b)) (≤_add (abs_ge_neg a) (abs_ge_neg b)))

  pub abs_of_nn : (a : Carrier) → zero# ≤ a → abs a ≡ a
  abs_of_nn a h = abs_ind a (λ x. x ≡ a) (λ _. refl) (λ k. ap neg (≤_antisym k h) ∙ L.neg_zero R ∙ ≤_antisym h k)

  pub abs_neg : (a : Carrier) → abs (neg a) ≡ abs a
  abs_neg a = ≤_antisym (abs_le (neg a) (abs a) (abs_ge_neg a) (subst (λ x. x ≤ abs a) (sym (L.neg_neg R a)) (abs_ge a)))
      (abs_le a (abs (neg a)) (subst (λ x. x ≤ abs (neg a)) (L.neg_neg R a) (abs_ge_neg (neg a))) (abs_ge (neg a)))

  pub abs_mul : (a b : Carrier) → abs (a * b) ≡ abs a * abs b
  abs_mul a b =
      abs_ind a (λ x. abs (a * b) ≡ x * abs b)
      (λ h. abs_ind b (λ y. abs (a * b) ≡ a * y) (λ k. abs_of_nn (a * b) (mul_nn h k))
      (λ k. sym (abs_neg (a * b)) ∙ ap abs e₁ ∙ abs_of_nn (a * neg b) (mul_nn h (neg_nn k))))
      (λ h. abs_ind b (λ y. abs (a * b) ≡ neg a * y)
      (λ k. sym (abs_neg (a * b)) ∙ ap abs (sym (L.neg_mul R a b)) ∙ abs_of_nn (neg a * b) (mul_nn (neg_nn h) k))
      (λ k. ap abs (ring2 R (λ a b. a ⊗ b := ⊖ a ⊗ ⊖ b) tt a b) ∙ abs_of_nn (neg a * neg b) (mul_nn (neg_nn h) (neg_nn k))))
    where
      e₁ : neg (a * b) ≡ a * neg b
      e₁ = sym (L.mul_neg R a b)

  -- |a b - c d| ≤ |a| |b - d| + |a - c| |d|
  pub product_distance : (a b c d : Carrier) → abs (a * b - c * d) ≤ abs a * abs (b - d) + abs (a - c) * abs d
  product_distance a b c d =
      rw (ring4 R (λ a b c d. a ⊗ b ⊝ c ⊗ d := a ⊗ (b ⊝ d) ⊕ (a ⊝ c) ⊗ d) tt a b c d, ← abs_mul a (b - d), ← abs_mul (a - c) d)
      (abs_add (a * (b - d)) ((a - c) * d))

  -- ---- the whole numbers of the ring
  pub nat_nn : (n : ℕ) → T (nonneg (nat R n))
  nat_nn zero = nonneg_of (sym (int_zero R)) zero_nn
  nat_nn (suc n) = nonneg_of (sym (nat_suc R n)) (nn_add (nat R n) one# (nat_nn n) one_nn)

  clash : (b : Bool) → T b → T (not b) → ⊥
  clash true h k = k
  clash false h k = h

  pub int_nn : (z : ℤ) → T (nonneg (int R z)) → T (non_neg z)
  int_nn (pos n) h = tt
  int_nn (negsuc n) h = clash (nonneg (neg one#))
      (nonneg_of e (nn_add (nat R n) (neg (nat R (suc n))) (nat_nn n)
      (nonneg_of (int_neg R (pos (suc n))) h))) nn_one
    where
      e : nat R n + neg (nat R (suc n)) ≡ neg one#
      e = ap (λ x. nat R n + neg x) (nat_suc R n) ∙ ring1 R (λ m. m ⊝ (m ⊕ 𝟏) := ⊖ 𝟏) tt (nat R n)

  -- an order between whole numbers of the ring is ℤ's
  pub int_reflect : (a b : ℤ) → int R a ≤ int R b → T (non_neg (b -ℤ a))
  int_reflect a b h = int_nn (b -ℤ a) (nonneg_of (sym (int_add R b (neg_ℤ a) ∙ ap (λ x. int R b + x) (int_neg R a))) h.le)
