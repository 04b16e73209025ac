-- The bound of the recursion in whole numbers: the recursion without roundings over any transform and start, whole numbers over one
-- denominator Q and within H and R(0) of those given, stays within R of f (unrounded_close). Its values are whole numbers over some E,
-- and there are such for every transform and start (unrounded).
use Rattle.std.specs.Prelude.{◌≡◌, refl, Bool, true, false, not, cond, ℕ, zero, suc, ◌<◌, ◌*◌ as ◌*ⁿ◌, ◌-◌ as ◌∸◌, ◌≤◌ as ◌≤ⁿ◌, T as Holds, leb, ℤ, pos, nat_abs, ◌-ℤ◌, ◌*ℤ◌}
use Rattle.std.proofs.Common.{sym, ◌∙◌, ap, ap₂, subst, ⊎_elim, eq-or-lt_of_le, le_of_suc-le-suc, mul-pos, arith, leb→le, le→leb}
use Rattle.std.proofs.Math.Dec.{not_T}
use Rattle.algebra.specs.Laws as L
use Rattle.algebra.specs.Sum as S
use Rattle.algebra.specs.Integer.{ℤ_ring}
use Rattle.algebra.specs.Solver.{◌⊗◌, ◌⊝◌, ◌:=◌, ring3, ring4}
use Rattle.algebra.specs.Q.{ℚ, ℚ_ring, ◌-ℚ◌, ◌*ℚ◌, ◌≤ℚ◌, abs, ≤_trans, ≤_of_eq, ≤_mul_left, abs_scale}
use Rattle.algebra.specs.Embedding.{ofℤ, nat, ofℤ_sub, ofℤ_mul, nat_mul, nat_nn, nat_le, nat_reflect, abs_ofℤ}
use Rattle.algebra.specs.Quotient.{over, over_ok, cancel, cancel_eq}
use Rattle.algebra.specs.RationalSum.{sum, sum_z, sum_ext, sum_mul, ofℤ_sum}
use Rattle.fund.specs.Transform.{unit}
use Rattle.distance.specs.Errors.{U}
use Rattle.distance.specs.Recursion.{Steps, recursion_close}

-- F / E starts at s / Q, and x F(x) / E is the sum of T(k) / Q · F(x-k) / E over k from 1 to x, for x to X
pub record Unrounded (X Q : ℕ) (T : ℕ → ℤ) (s : ℤ) : Type 0 where
  pub E : ℕ
  pub F : ℕ → ℤ
  pub E_pos : 0 < E
  pub F_start : pos Q *ℤ F 0 ≡ pos E *ℤ s
  pub F_step : (x : ℕ) → x ≤ⁿ X → pos (x *ⁿ Q) *ℤ F x ≡ sum_z x (λ k. T (suc k) *ℤ F (x ∸ suc k))

-- ---- there is one
module _ (X Q : ℕ) (Q-pos : 0 < Q) (T : ℕ → ℤ) (s : ℤ) (u : Unrounded X Q T s) where
  -- one place more, over E Q (X + 1)
  abbrev scale : ℕ
  scale = suc X *ⁿ Q

  abbrev last : ℤ
  last = sum_z (suc X) (λ k. T (suc k) *ℤ u.F (X ∸ k))

  abbrev longer : ℕ → ℤ
  longer x = cond (leb x X) (pos scale *ℤ u.F x) last

  longer_low : (x : ℕ) → x ≤ⁿ X → longer x ≡ pos scale *ℤ u.F x
  longer_low x l = go (leb x X) (le→leb x X l)
    where
      go : (b : Bool) → Holds b → cond b (pos scale *ℤ u.F x) last ≡ pos scale *ℤ u.F x
      go true t = refl
      go false t = absurd t

  longer_last : longer (suc X) ≡ last
  longer_last = go (leb (suc X) X) (not_T (leb (suc X) X) (λ t. let h = leb→le (suc X) X t in omega arith))
    where
      go : (b : Bool) → Holds (not b) → cond b (pos scale *ℤ u.F (suc X)) last ≡ last
      go true t = absurd t
      go false t = refl

  -- the sum at a place x ≤ X + 1, scaled
  longer_sum : (x : ℕ) → x ≤ⁿ suc X → sum_z x (λ k. T (suc k) *ℤ longer (x ∸ suc k)) ≡ pos scale *ℤ sum_z x (λ k. T (suc k) *ℤ u.F (x ∸ suc k))
  longer_sum x l =
      S.sum_ext ℤ_ring x (λ k. T (suc k) *ℤ longer (x ∸ suc k)) (λ k. pos scale *ℤ (T (suc k) *ℤ u.F (x ∸ suc k)))
      (λ k h. ap (λ z. T (suc k) *ℤ z) (longer_low (x ∸ suc k) (omega arith))
      ∙ ring3 ℤ_ring (λ t b f. t ⊗ (b ⊗ f) := b ⊗ (t ⊗ f)) tt (T (suc k)) (pos scale) (u.F (x ∸ suc k)))
      ∙ S.sum_mul ℤ_ring x (pos scale) (λ k. T (suc k) *ℤ u.F (x ∸ suc k))

  longer_step : (x : ℕ) → x ≤ⁿ suc X → pos (x *ⁿ Q) *ℤ longer x ≡ sum_z x (λ k. T (suc k) *ℤ longer (x ∸ suc k))
  longer_step x l = ⊎_elim
      (λ e. subst (λ x. pos (x *ⁿ Q) *ℤ longer x ≡ sum_z x (λ k. T (suc k) *ℤ longer (x ∸ suc k))) (sym e) top)
      (λ g. ap (λ z. pos (x *ⁿ Q) *ℤ z) (longer_low x (le_of_suc-le-suc g))
      ∙ ring3 ℤ_ring (λ a b f. a ⊗ (b ⊗ f) := b ⊗ (a ⊗ f)) tt (pos (x *ⁿ Q)) (pos scale) (u.F x)
      ∙ ap (λ z. pos scale *ℤ z) (u.F_step x (le_of_suc-le-suc g)) ∙ sym (longer_sum x l))
      (eq-or-lt_of_le l)
    where
      place : (k : ℕ) → X ∸ k ≡ suc X ∸ suc k
      place k = omega arith

      top : pos scale *ℤ longer (suc X) ≡ sum_z (suc X) (λ k. T (suc k) *ℤ longer (suc X ∸ suc k))
      top = ap (λ z. pos scale *ℤ z)
          (longer_last ∙ S.sum_ext ℤ_ring (suc X) (λ k. T (suc k) *ℤ u.F (X ∸ k)) (λ k. T (suc k) *ℤ u.F (suc X ∸ suc k))
          (λ k h. ap (λ i. T (suc k) *ℤ u.F i) (place k)))
          ∙ sym (longer_sum (suc X) (omega arith))

  one_more : Unrounded (suc X) Q T s
  one_more = record {
    E = scale *ⁿ u.E;
    F = longer;
    E_pos = mul-pos (mul-pos {m = suc X} (omega arith) Q-pos) u.E_pos;
    F_start = ap (λ z. pos Q *ℤ z) (longer_low 0 (omega arith))
        ∙ ring3 ℤ_ring (λ q b f. q ⊗ (b ⊗ f) := b ⊗ (q ⊗ f)) tt (pos Q) (pos scale) (u.F 0)
        ∙ ap (λ z. pos scale *ℤ z) u.F_start ∙ sym (ℤ_ring.mul_assoc (pos scale) (pos u.E) s);
    F_step = longer_step;
  }

pub unrounded : (X Q : ℕ) → 0 < Q → (T : ℕ → ℤ) (s : ℤ) → Unrounded X Q T s
unrounded zero Q h T s = record { E = Q; F = λ x. s; E_pos = h; F_start = refl; F_step = step }
  where
    step : (x : ℕ) → x ≤ⁿ 0 → pos (x *ⁿ Q) *ℤ s ≡ sum_z x (λ k. T (suc k) *ℤ s)
    step zero l = ap (λ z. pos z *ℤ s) (let e : 0 *ⁿ Q ≡ 0 = omega arith in e) ∙ L.zero-mul ℤ_ring s
    step (suc x) l = absurd (omega arith)
unrounded (suc X) Q h T s = one_more X Q h T s (unrounded X Q h T s)

-- ---- its distance
-- a whole number against U t / Q, multiplied out
scaled_distance : (a t : ℤ) (Q : ℕ) → 0 < Q → nat Q *ℚ abs (ofℤ a -ℚ U *ℚ over (ofℤ t) Q) ≡ nat (nat_abs (pos Q *ℤ a -ℤ pos unit *ℤ t))
scaled_distance a t Q h =
    sym (abs_scale (nat Q) (ofℤ a -ℚ U *ℚ over (ofℤ t) Q) (nat_nn Q))
    ∙ ap abs (ring4 ℚ_ring (λ q a u o. q ⊗ (a ⊝ u ⊗ o) := q ⊗ a ⊝ u ⊗ (q ⊗ o)) tt (nat Q) (ofℤ a) U (over (ofℤ t) Q)
    ∙ ap (λ x. nat Q *ℚ ofℤ a -ℚ U *ℚ x) (over_ok (ofℤ t) Q h)
    ∙ ap₂ ◌-ℚ◌ (sym (ofℤ_mul (pos Q) a)) (sym (ofℤ_mul (pos unit) t)) ∙ sym (ofℤ_sub (pos Q *ℤ a) (pos unit *ℤ t)))
    ∙ abs_ofℤ (pos Q *ℤ a -ℤ pos unit *ℤ t)

whole_close : (a t : ℤ) (Q h : ℕ) → 0 < Q → nat_abs (pos Q *ℤ a -ℤ pos unit *ℤ t) ≤ⁿ Q *ⁿ h → abs (ofℤ a -ℚ U *ℚ over (ofℤ t) Q) ≤ℚ nat h
whole_close a t Q h Q-pos l = cancel Q Q-pos (≤_trans (≤_of_eq (scaled_distance a t Q Q-pos)) (≤_trans (nat_le l) (≤_of_eq (nat_mul Q h))))

close_whole : (a t : ℤ) (Q h : ℕ) → 0 < Q → abs (ofℤ a -ℚ U *ℚ over (ofℤ t) Q) ≤ℚ nat h → nat_abs (pos Q *ℤ a -ℤ pos unit *ℤ t) ≤ⁿ Q *ⁿ h
close_whole a t Q h Q-pos l = nat_reflect (nat_abs (pos Q *ℤ a -ℤ pos unit *ℤ t)) (Q *ⁿ h)
    (≤_trans (≤_of_eq (sym (scaled_distance a t Q Q-pos))) (≤_trans (≤_mul_left (nat Q) (nat_nn Q) l) (≤_of_eq (sym (nat_mul Q h)))))

pub unrounded_close : (X : ℕ) (D : ℕ → ℤ) (H : ℕ → ℕ) (f : ℕ → ℤ) (R : ℕ → ℕ) → Steps X D H f R → (Q : ℕ) → 0 < Q → (T : ℕ → ℤ) (s : ℤ) →
    ((k : ℕ) → 0 < k → k ≤ⁿ X → nat_abs (pos Q *ℤ D k -ℤ pos unit *ℤ T k) ≤ⁿ Q *ⁿ H k) → nat_abs (pos Q *ℤ f 0 -ℤ pos unit *ℤ s) ≤ⁿ Q *ⁿ R 0 →
    (u : Unrounded X Q T s) (x : ℕ) → x ≤ⁿ X → nat_abs (pos u.E *ℤ f x -ℤ pos unit *ℤ u.F x) ≤ⁿ u.E *ⁿ R x
unrounded_close X D H f R steps Q Q-pos T s D_within f-within u x l =
    close_whole (f x) (u.F x) u.E (R x) u.E_pos
    (recursion_close X D H f R steps exact_t exact_f (λ k k-pos k-le. whole_close (D k) (T k) Q (H k) Q-pos (D_within k k-pos k-le))
    (subst (λ y. abs (ofℤ (f 0) -ℚ U *ℚ y) ≤ℚ nat (R 0)) (sym first) (whole_close (f 0) s Q (R 0) Q-pos f-within)) step x l)
  where
    exact_t : ℕ → ℚ
    exact_t k = over (ofℤ (T k)) Q

    exact_f : ℕ → ℚ
    exact_f y = over (ofℤ (u.F y)) u.E

    first : exact_f 0 ≡ over (ofℤ s) Q
    first = cancel_eq Q Q-pos (cancel_eq u.E u.E_pos
        (ring3 ℚ_ring (λ e q o. e ⊗ (q ⊗ o) := q ⊗ (e ⊗ o)) tt (nat u.E) (nat Q) (exact_f 0)
        ∙ ap (λ y. nat Q *ℚ y) (over_ok (ofℤ (u.F 0)) u.E u.E_pos)
        ∙ sym (ofℤ_mul (pos Q) (u.F 0)) ∙ ap ofℤ u.F_start ∙ ofℤ_mul (pos u.E) s
        ∙ ap (λ y. nat u.E *ℚ y) (sym (over_ok (ofℤ s) Q Q-pos))))

    step : (x : ℕ) → x ≤ⁿ X → nat x *ℚ exact_f x ≡ sum x (λ k. exact_t (suc k) *ℚ exact_f (x ∸ suc k))
    step x l = cancel_eq Q Q-pos (cancel_eq u.E u.E_pos (left ∙ ap ofℤ (u.F_step x l) ∙ right))
      where
        left : nat u.E *ℚ (nat Q *ℚ (nat x *ℚ exact_f x)) ≡ ofℤ (pos (x *ⁿ Q) *ℤ u.F x)
        left = ring4 ℚ_ring (λ e q x o. e ⊗ (q ⊗ (x ⊗ o)) := (x ⊗ q) ⊗ (e ⊗ o)) tt (nat u.E) (nat Q) (nat x) (exact_f x)
            ∙ ap₂ ◌*ℚ◌ (sym (nat_mul x Q)) (over_ok (ofℤ (u.F x)) u.E u.E_pos) ∙ sym (ofℤ_mul (pos (x *ⁿ Q)) (u.F x))

        product : (k y : ℕ) → ofℤ (T k *ℤ u.F y) ≡ nat u.E *ℚ (nat Q *ℚ (exact_t k *ℚ exact_f y))
        product k y = ofℤ_mul (T k) (u.F y) ∙ ap₂ ◌*ℚ◌ (sym (over_ok (ofℤ (T k)) Q Q-pos)) (sym (over_ok (ofℤ (u.F y)) u.E u.E_pos))
            ∙ ring4 ℚ_ring (λ q t e f. (q ⊗ t) ⊗ (e ⊗ f) := e ⊗ (q ⊗ (t ⊗ f))) tt (nat Q) (exact_t k) (nat u.E) (exact_f y)

        right : ofℤ (sum_z x (λ k. T (suc k) *ℤ u.F (x ∸ suc k))) ≡ nat u.E *ℚ (nat Q *ℚ sum x (λ k. exact_t (suc k) *ℚ exact_f (x ∸ suc k)))
        right = ofℤ_sum x (λ k. T (suc k) *ℤ u.F (x ∸ suc k))
            ∙ sum_ext x (λ k. ofℤ (T (suc k) *ℤ u.F (x ∸ suc k))) (λ k. nat u.E *ℚ (nat Q *ℚ (exact_t (suc k) *ℚ exact_f (x ∸ suc k))))
            (λ k h. product (suc k) (x ∸ suc k))
            ∙ sum_mul x (nat u.E) (λ k. nat Q *ℚ (exact_t (suc k) *ℚ exact_f (x ∸ suc k)))
            ∙ ap (λ y. nat u.E *ℚ y) (sum_mul x (nat Q) (λ k. exact_t (suc k) *ℚ exact_f (x ∸ suc k)))
