-- Fractions with positive denominators: when two are the same number (Same), and their sum, product, negation and reciprocal, which
-- respect it.
use Rattle.std.specs.Prelude.{◌≡◌, refl, Bool, true, false, not, ℕ, zero, suc, T, ℤ, pos, negsuc, neg_ℤ, ◌+ℤ◌, ◌-ℤ◌, ◌*ℤ◌}
use Rattle.std.proofs.Common.{sym, ◌∙◌, ap, subst}
use Rattle.std.proofs.Math.IntN.{zero-*ℤ}
use Rattle.algebra.specs.Integer.{ℤ_ring}
use Rattle.algebra.specs.IntegerOrder.{posb, posb_mul, mul_cancel_zero}
use Rattle.algebra.specs.Laws as L
use Rattle.algebra.specs.Solver.{◌⊕◌, ◌⊗◌, ◌⊝◌, ◌:=◌, ring3, ring4, ring6}

pub record Frac : Type 0 where
  pub num : ℤ
  pub den : ℤ
  pub den_pos : T (posb den)

abbrev pub Same : Frac → Frac → Type 0
Same x y = x.num *ℤ y.den ≡ y.num *ℤ x.den

abbrev pub frac : ℤ → ℕ → Frac
frac z k = record { num = z; den = pos (suc k); den_pos = tt }

abbrev pub add_fraction : Frac → Frac → Frac
add_fraction x y = record {
  num = x.num *ℤ y.den +ℤ y.num *ℤ x.den;
  den = x.den *ℤ y.den;
  den_pos = posb_mul x.den y.den x.den_pos y.den_pos;
}

abbrev pub mul_f : Frac → Frac → Frac
mul_f x y = record {
  num = x.num *ℤ y.num;
  den = x.den *ℤ y.den;
  den_pos = posb_mul x.den y.den x.den_pos y.den_pos;
}

abbrev pub neg_f : Frac → Frac
neg_f x = record { num = neg_ℤ x.num; den = x.den; den_pos = x.den_pos }

-- l ≡ r from s ≡ t, if l - r is c times s - t
lc : {l r s t : ℤ} (c : ℤ) → s ≡ t → l +ℤ c *ℤ t ≡ r +ℤ c *ℤ s → l ≡ r
lc {l} {r} {s} {t} c e h = ring3 ℤ_ring (λ l c t. l := (l ⊕ c ⊗ t) ⊝ c ⊗ t) tt l c t ∙ ap (λ x. x -ℤ c *ℤ t) h
    ∙ ap (λ x. r +ℤ c *ℤ s -ℤ c *ℤ x) (sym e) ∙ ring3 ℤ_ring (λ r c s. (r ⊕ c ⊗ s) ⊝ c ⊗ s := r) tt r c s

pub add_left : (a a' b : Frac) → Same a a' → Same (add_fraction a b) (add_fraction a' b)
add_left a a' b h = lc (b.den *ℤ b.den) h
    (ring6 ℤ_ring (λ n d n' d' m e. ((n ⊗ e ⊕ m ⊗ d) ⊗ (d' ⊗ e)) ⊕ (e ⊗ e) ⊗ (n' ⊗ d)
    := ((n' ⊗ e ⊕ m ⊗ d') ⊗ (d ⊗ e)) ⊕ (e ⊗ e) ⊗ (n ⊗ d')) tt a.num a.den a'.num a'.den b.num b.den)

pub add_right : (a b b' : Frac) → Same b b' → Same (add_fraction a b) (add_fraction a b')
add_right a b b' h = lc (a.den *ℤ a.den) h
    (ring6 ℤ_ring (λ n d n' d' m e. ((m ⊗ d ⊕ n ⊗ e) ⊗ (e ⊗ d')) ⊕ (e ⊗ e) ⊗ (n' ⊗ d)
    := ((m ⊗ d' ⊕ n' ⊗ e) ⊗ (e ⊗ d)) ⊕ (e ⊗ e) ⊗ (n ⊗ d')) tt b.num b.den b'.num b'.den a.num a.den)

pub mul_left : (a a' b : Frac) → Same a a' → Same (mul_f a b) (mul_f a' b)
mul_left a a' b h = lc (b.num *ℤ b.den) h
    (ring6 ℤ_ring (λ n d n' d' m e. ((n ⊗ m) ⊗ (d' ⊗ e)) ⊕ (m ⊗ e) ⊗ (n' ⊗ d) := ((n' ⊗ m) ⊗ (d ⊗ e)) ⊕ (m ⊗ e) ⊗ (n ⊗ d'))
    tt a.num a.den a'.num a'.den b.num b.den)

pub mul_r : (a b b' : Frac) → Same b b' → Same (mul_f a b) (mul_f a b')
mul_r a b b' h = lc (a.num *ℤ a.den) h
    (ring6 ℤ_ring (λ n d n' d' m e. ((m ⊗ n) ⊗ (e ⊗ d')) ⊕ (m ⊗ e) ⊗ (n' ⊗ d) := ((m ⊗ n') ⊗ (e ⊗ d)) ⊕ (m ⊗ e) ⊗ (n ⊗ d'))
    tt b.num b.den b'.num b'.den a.num a.den)

pub neg_ok : (a a' : Frac) → Same a a' → Same (neg_f a) (neg_f a')
neg_ok a a' h = L.neg_mul ℤ_ring a.num a'.den ∙ ap neg_ℤ h ∙ sym (L.neg_mul ℤ_ring a'.num a.den)

-- ---- the reciprocal (of zero: zero), as n d / n², so that no sign is looked at
abbrev pub nz : ℤ → Bool
nz (pos zero) = false
nz (pos (suc n)) = true
nz (negsuc n) = true

pub nz_sq : (n : ℤ) → T (nz n) → T (posb (n *ℤ n))
nz_sq (pos zero) h = absurd h
nz_sq (pos (suc n)) h = posb_mul (pos (suc n)) (pos (suc n)) tt tt
nz_sq (negsuc n) h = posb_mul (pos (suc n)) (pos (suc n)) tt tt

pub nz_zero : (n : ℤ) → T (not (nz n)) → n ≡ pos 0
nz_zero (pos zero) h = refl
nz_zero (pos (suc n)) h = absurd h
nz_zero (negsuc n) h = absurd h

zero_nz : (n : ℤ) → n ≡ pos 0 → T (not (nz n))
zero_nz n e = subst (λ x. T (not (nz x))) (sym e) tt

unfoldable pub inv_f : (n d : ℤ) (b : Bool) → (T b → T (posb (n *ℤ n))) → Frac
inv_f n d true f = record { num = n *ℤ d; den = n *ℤ n; den_pos = f tt }
inv_f n d false f = frac (pos 0) 0

unfoldable pub rec_f : Frac → Frac
rec_f x = inv_f x.num x.den (nz x.num) (nz_sq x.num)

pub rec_resp : (x y : Frac) → Same x y → Same (rec_f x) (rec_f y)
unfolding rec_f inv_f
rec_resp x y q = go (nz x.num) (nz_sq x.num) (nz_zero x.num) (zero_nz x.num) (nz y.num) (nz_sq y.num)
    (nz_zero y.num) (zero_nz y.num)
  where
    clash : (b : Bool) → T b → T (not b) → ⊥
    clash true h k = k
    clash false h k = h

    go : (b : Bool) (f : T b → T (posb (x.num *ℤ x.num))) → (T (not b) → x.num ≡ pos 0) → (x.num ≡ pos 0 → T (not b)) →
        (c : Bool) (g : T c → T (posb (y.num *ℤ y.num))) → (T (not c) → y.num ≡ pos 0) → (y.num ≡ pos 0 → T (not c))
        → Same (inv_f x.num x.den b f) (inv_f y.num y.den c g)
    go true f z z' true g w w' = lc (x.num *ℤ y.num) (sym q)
        (ring4 ℤ_ring (λ n d m e. (n ⊗ d) ⊗ (m ⊗ m) ⊕ (n ⊗ m) ⊗ (n ⊗ e) := (m ⊗ e) ⊗ (n ⊗ n) ⊕ (n ⊗ m) ⊗ (m ⊗ d))
        tt x.num x.den y.num y.den)
    go true f z z' false g w w' = absurd (z' (mul_cancel_zero x.num y.den y.den_pos
        (q ∙ ap (λ t. t *ℤ x.den) (w tt) ∙ zero-*ℤ x.den)))
    go false f z z' true g w w' = absurd (w' (mul_cancel_zero y.num x.den x.den_pos
        (sym q ∙ ap (λ t. t *ℤ y.den) (z tt) ∙ zero-*ℤ y.den)))
    go false f z z' false g w w' = refl
