-- The rounded triangle of a group 1 life against the exact one: |v(n,l) - U V(n,l)| ≤ n / 2 for l to 12, by induction on n, since
-- q + i ≤ p keeps an error and each rounding adds a half (row_close). So a placed term is off by at most its place (placed_close).
use Rattle.std.specs.Prelude.{◌≡◌}
use Rattle.std.proofs.Common.{sym, ◌∙◌, ap₂, arith}
use Rattle.std.proofs.Math.Path.{ap, subst}
use Prim.Native.Nat.{ℕ, zero, suc, ◌<◌, ◌+◌ as ◌+ⁿ◌, ◌*◌ as ◌*ⁿ◌, ◌≤◌ as ◌≤ⁿ◌}
use Rattle.algebra.specs.Solver.{𝟎, 𝟏, ◌⊕◌, ◌⊗◌, ◌⊝◌, ◌:=◌, ring1, ring2, ring3, ring4, ring7}
use Rattle.algebra.specs.Q.{ℚ, ℚ_ring, zero_q, ◌+ℚ◌, ◌-ℚ◌, ◌*ℚ◌, ◌≤ℚ◌, abs, ≤_trans, ≤_of_eq, ≤_mul_left, ≤_mul_right, mul_nn, abs_scale, abs_zero_le, abs_add_le, abs_subst}
use Rattle.algebra.specs.Embedding.{nat, nat_zero, nat_suc, nat_add, nat_mul, nat_nn, nat_le}
use Rattle.algebra.specs.Quotient.{over, over_ok, half_q, half_twice, half_nn}
use Rattle.expansion.specs.Triangle.{left_q, rows_q}
use Rattle.rounding.specs.Rounding.{near}
use Rattle.fund.specs.declared.Life.{Life}
use Rattle.fund.specs.Folding.{claim, stay}
use Rattle.fund.specs.Transform.{row}
use Rattle.laws.specs.Triangle.{v, left, v_step, zeros_at}
use Rattle.distance.specs.Errors.{U, near_step}

nothing_close : (e : ℚ) → zero_q ≤ℚ e → abs (nat 0 -ℚ U *ℚ zero_q) ≤ℚ e
nothing_close e h = abs_subst (ring1 ℚ_ring (λ u. 𝟎 := 𝟎 ⊝ u ⊗ 𝟎) tt U ∙ ap (λ x. x -ℚ U *ℚ zero_q) (sym nat_zero)) (abs_zero_le h)

module _ (m : Life) (stay-pos : 0 < stay m) (small : claim m ≤ⁿ stay m) where
  abbrev exact_v : ℕ → ℕ → ℚ
  exact_v n l = rows_q m.q m.i (stay m) n l

  -- one entry from its two neighbours
  entry_close : (a b : ℕ) (A B e : ℚ) → zero_q ≤ℚ e → abs (nat a -ℚ U *ℚ A) ≤ℚ e → abs (nat b -ℚ U *ℚ B) ≤ℚ e →
      abs (nat (near (m.q *ⁿ a +ⁿ m.i *ⁿ b) (stay m)) -ℚ U *ℚ over (nat m.q *ℚ A +ℚ nat m.i *ℚ B) (stay m)) ≤ℚ half_q +ℚ e
  entry_close a b A B e e_nn ha hb =
      near_step (m.q *ⁿ a +ⁿ m.i *ⁿ b) (stay m) stay-pos (U *ℚ o) e
      (abs_subst exact
      (≤_trans (abs_add_le (nat m.q *ℚ (nat a -ℚ U *ℚ A)) (nat m.i *ℚ (nat b -ℚ U *ℚ B)) (nat m.q *ℚ e) (nat m.i *ℚ e)
      (scaled m.q (nat a -ℚ U *ℚ A) ha) (scaled m.i (nat b -ℚ U *ℚ B) hb))
      (≤_trans (≤_of_eq (ring3 ℚ_ring (λ q i e. q ⊗ e ⊕ i ⊗ e := (q ⊕ i) ⊗ e) tt (nat m.q) (nat m.i) e
      ∙ ap (λ x. x *ℚ e) (sym (nat_add m.q m.i)))) (≤_mul_right e e_nn (nat_le small)))))
    where
      o : ℚ
      o = over (nat m.q *ℚ A +ℚ nat m.i *ℚ B) (stay m)

      scaled : (k : ℕ) (x : ℚ) → abs x ≤ℚ e → abs (nat k *ℚ x) ≤ℚ nat k *ℚ e
      scaled k x h = ≤_trans (≤_of_eq (abs_scale (nat k) x (nat_nn k))) (≤_mul_left (nat k) (nat_nn k) h)

      exact : nat m.q *ℚ (nat a -ℚ U *ℚ A) +ℚ nat m.i *ℚ (nat b -ℚ U *ℚ B) ≡ nat (m.q *ⁿ a +ⁿ m.i *ⁿ b) -ℚ nat (stay m) *ℚ (U *ℚ o)
      exact = ring7 ℚ_ring (λ q i a b u x y. q ⊗ (a ⊝ u ⊗ x) ⊕ i ⊗ (b ⊝ u ⊗ y) := (q ⊗ a ⊕ i ⊗ b) ⊝ u ⊗ (q ⊗ x ⊕ i ⊗ y)) tt (nat m.q)
          (nat m.i) (nat a) (nat b) U A B
          ∙ ap₂ ◌-ℚ◌ (ap₂ ◌+ℚ◌ (sym (nat_mul m.q a)) (sym (nat_mul m.i b)) ∙ sym (nat_add (m.q *ⁿ a) (m.i *ⁿ b)))
          (ap (λ x. U *ℚ x) (sym (over_ok (nat m.q *ℚ A +ℚ nat m.i *ℚ B) (stay m) stay-pos))
          ∙ ring3 ℚ_ring (λ u p o. u ⊗ (p ⊗ o) := p ⊗ (u ⊗ o)) tt U (nat (stay m)) o)

  halves_nn : (n : ℕ) → zero_q ≤ℚ nat n *ℚ half_q
  halves_nn n = mul_nn (nat_nn n) half_nn

  row_close : (n l : ℕ) → l ≤ⁿ 12 → abs (nat (v m n l) -ℚ U *ℚ exact_v n l) ≤ℚ nat n *ℚ half_q
  unfolding row rows_q
  row_close zero zero h = abs_subst (ring1 ℚ_ring (λ u. 𝟎 := u ⊝ u ⊗ 𝟏) tt U) (abs_zero_le (halves_nn 0))
  row_close zero (suc l) h = subst (λ x. abs (nat x -ℚ U *ℚ zero_q) ≤ℚ nat 0 *ℚ half_q) (sym (zeros_at 12 l))
      (nothing_close (nat 0 *ℚ half_q) (halves_nn 0))
  row_close (suc n) l h =
      subst (λ x. abs (nat x -ℚ U *ℚ exact_v (suc n) l) ≤ℚ nat (suc n) *ℚ half_q)
      (sym (v_step m n l h))
      (≤_trans (entry_close (left m n l) (v m n l) (left_q (exact_v n) l) (exact_v n l) (nat n *ℚ half_q) (halves_nn n)
      (left_close l h (row_close n)) (row_close n l h))
      (≤_of_eq (ring2 ℚ_ring (λ n h. h ⊕ n ⊗ h := (n ⊕ 𝟏) ⊗ h) tt (nat n) half_q ∙ ap (λ x. x *ℚ half_q) (sym (nat_suc n)))))
    where
      left_close : (l : ℕ) → l ≤ⁿ 12 → ((l : ℕ) → l ≤ⁿ 12 → abs (nat (v m n l) -ℚ U *ℚ exact_v n l) ≤ℚ nat n *ℚ half_q) →
          abs (nat (left m n l) -ℚ U *ℚ left_q (exact_v n) l) ≤ℚ nat n *ℚ half_q
      left_close zero h rest = nothing_close (nat n *ℚ half_q) (halves_nn n)
      left_close (suc l) h rest = rest l (omega arith)

  -- a term at the place x ≥ 1
  pub placed_close : (x n l : ℕ) → 0 < x → l ≤ⁿ 12 →
      abs (nat (near (x *ⁿ v m (suc n) l) (suc n)) -ℚ U *ℚ over (nat x *ℚ exact_v (suc n) l) (suc n)) ≤ℚ nat x
  placed_close x n l x_pos h =
      ≤_trans (near_step (x *ⁿ v m (suc n) l) (suc n) (omega arith) (U *ℚ o) (nat x *ℚ half_q)
      (abs_subst exact
      (≤_trans (≤_of_eq (abs_scale (nat x) (nat (v m (suc n) l) -ℚ U *ℚ exact_v (suc n) l) (nat_nn x)))
      (≤_trans (≤_mul_left (nat x) (nat_nn x) (row_close (suc n) l h))
      (≤_of_eq (ring3 ℚ_ring (λ x n h. x ⊗ (n ⊗ h) := n ⊗ (x ⊗ h)) tt (nat x) (nat (suc n)) half_q)))))) most
    where
      o : ℚ
      o = over (nat x *ℚ exact_v (suc n) l) (suc n)

      exact : nat x *ℚ (nat (v m (suc n) l) -ℚ U *ℚ exact_v (suc n) l) ≡ nat (x *ⁿ v m (suc n) l) -ℚ nat (suc n) *ℚ (U *ℚ o)
      exact = ring4 ℚ_ring (λ x a u y. x ⊗ (a ⊝ u ⊗ y) := x ⊗ a ⊝ u ⊗ (x ⊗ y)) tt (nat x) (nat (v m (suc n) l)) U (exact_v (suc n) l)
          ∙ ap₂ ◌-ℚ◌ (sym (nat_mul x (v m (suc n) l)))
          (ap (λ y. U *ℚ y) (sym (over_ok (nat x *ℚ exact_v (suc n) l) (suc n) (omega arith)))
          ∙ ring3 ℚ_ring (λ u n o. u ⊗ (n ⊗ o) := n ⊗ (u ⊗ o)) tt U (nat (suc n)) o)

      -- 1/2 + x/2 ≤ x
      most : half_q +ℚ nat x *ℚ half_q ≤ℚ nat x
      most =
          ≤_trans (≤_of_eq (ring2 ℚ_ring (λ x h. h ⊕ x ⊗ h := h ⊗ (x ⊕ 𝟏)) tt (nat x) half_q ∙ ap (λ y. half_q *ℚ y) (sym (nat_suc x))))
          (≤_trans (≤_mul_left half_q half_nn (nat_le (let h : suc x ≤ⁿ x +ⁿ x = omega arith in h)))
          (≤_of_eq (ap (λ y. half_q *ℚ y) (nat_add x x) ∙ ring2 ℚ_ring (λ x h. h ⊗ (x ⊕ x) := x ⊗ (h ⊕ h)) tt (nat x) half_q
          ∙ ap (λ y. nat x *ℚ y) half_twice ∙ ℚ_ring.mul-one (nat x))))
