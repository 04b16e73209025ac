-- A number by its sign and its magnitude: how an i64 holds it (sign, Flip), and differences, sums and roundings of it
-- (diff, diff_neg, with_part_is, nearest_signed, nearest_times).
use Rattle.std.proofs.Common.{◌≡◌, ℕ, suc, ◌+◌, ◌-◌, ◌*◌, ◌^◌, ◌<◌, ◌≤◌, Bool, true, false, ℤ, pos, negsuc, ◌+ℤ◌, ◌-ℤ◌, ◌*ℤ◌, neg_ℤ, nat_abs, sym, refl, ap, ◌∙◌, arith, to_z-of_z, w64, SFits, to_z, of_z, ltb-true}
use native.Mathlib.Nat as N
use lib.IntN.{+ℤ_comm, -ℤ_one, neg_ℤ-+ℤ, neg_ℤ-neg_ℤ, +ℤ-neg_ℤ_cancel}
use lib.Signed.{lt_z}
use Rattle.rounding.specs.Rounding.{near, nearest}
use Rattle.rounding.proofs.Laws.{nearest_pos, nearest_neg}
use Rattle.algebra.specs.Integer.{ℤ_ring, neg_ℤ_*ℤ}
use Rattle.algebra.specs.Solver.{◌⊕◌, ◌⊝◌, ◌:=◌, ring3}
use Rattle.whole.specs.declared.Sums.{Sums}
use Rattle.whole.specs.Sign.{signed}
use Rattle.whole.specs.Sums.{with_part, PartFits, WithPart}

-- the test of the sign is made on the word's bits
pub sign : (z : ℤ) {b : Bool} → SFits w64 z → lt_z (to_z w64 (of_z w64 z)) (pos 0) ≡ b → lt_z z (pos 0) ≡ b
sign z f t = ap (λ k. lt_z k (pos 0)) (sym (to_z-of_z f)) ∙ t

-- -1 - z, for a negative z
minus_one : (n : ℕ) → negsuc 0 -ℤ negsuc n ≡ pos n
minus_one n = +ℤ_comm (negsuc 0) (pos (suc n)) ∙ -ℤ_one (pos (suc n))

pub record Flip (z : ℤ) : Type 0 where
  pub fits : SFits w64 (negsuc 0 -ℤ to_z w64 (of_z w64 z))
  pub is : to_z w64 (of_z w64 (negsuc 0 -ℤ to_z w64 (of_z w64 z))) ≡ pos (nat_abs z - 1)
  pub low : 1 ≤ nat_abs z
  pub high : nat_abs z ≤ 2 ^ 63

flip_at : (z : ℤ) → SFits w64 z → lt_z z (pos 0) ≡ true → Flip z
flip_at (pos n) f t = let h = ltb-true n 0 t in absurd (omega arith)
flip_at (negsuc n) f t =
    let e : negsuc 0 -ℤ to_z w64 (of_z w64 (negsuc n)) ≡ pos n = ap (λ k. negsuc 0 -ℤ k) (to_z-of_z f) ∙ minus_one n in
    let g : SFits w64 (pos n) = record { sfits = f.sfits } in
    let s : n ≡ suc n - 1 = omega arith in
    record { fits = rw e g; is = rw e (to_z-of_z g ∙ ap pos s); low = omega arith; high = f.sfits }

pub flip : (z : ℤ) → SFits w64 z → lt_z (to_z w64 (of_z w64 z)) (pos 0) ≡ true → Flip z
flip z f t = flip_at z f (sign z f t)

-- differences
pub diff : (m n : ℕ) → n ≤ m → pos (m - n) ≡ pos m -ℤ pos n
diff m n h =
    let e : m ≡ m - n + n = omega arith in
    sym (+ℤ-neg_ℤ_cancel (pos (m - n)) (pos n)) ∙ ap (λ k. pos k -ℤ pos n) (sym e)

pub diff_neg : (m n : ℕ) → m ≤ n → neg_ℤ (pos (n - m)) ≡ pos m -ℤ pos n
diff_neg m n h =
    ap neg_ℤ (diff n m h)
    ∙ neg_ℤ-+ℤ (pos n) (neg_ℤ (pos m))
    ∙ ap (λ k. neg_ℤ (pos n) +ℤ k) (neg_ℤ-neg_ℤ (pos m))
    ∙ +ℤ_comm (neg_ℤ (pos n)) (pos m)

-- a part more, on the side of its sign, where the sums fit a word
pub with_part_is : (s : Sums) (negative : Bool) (part bound : ℕ) → PartFits s part bound → WithPart s negative part bound (with_part s negative part bound)
with_part_is s true part bound h =
    let m = N.mod-eq_of_lt h.minus_fits in
    let b = N.mod-eq_of_lt h.bound_fits in
    rw (m, b)
    (record {
      sum_is = ring3 ℤ_ring (λ p m n. p ⊝ (m ⊕ n) := (p ⊝ m) ⊝ n) tt (pos s.plus) (pos s.minus) (pos part);
      bound_is = refl;
      plus_within = omega arith;
      minus_within = omega arith;
    })
with_part_is s false part bound h =
    let p = N.mod-eq_of_lt h.plus_fits in
    let b = N.mod-eq_of_lt h.bound_fits in
    rw (p, b)
    (record {
      sum_is = ring3 ℤ_ring (λ p m n. (p ⊕ n) ⊝ m := (p ⊝ m) ⊕ n) tt (pos s.plus) (pos s.minus) (pos part);
      bound_is = refl;
      plus_within = omega arith;
      minus_within = omega arith;
    })

-- roundings
pub nearest_signed : (s : Bool) (m n : ℕ) → 0 < n → nearest (signed s m) n ≡ signed s (near m n)
nearest_signed true m n h = nearest_neg (pos m) n h ∙ ap neg_ℤ (nearest_pos m n)
nearest_signed false m n h = nearest_pos m n

pub nearest_times : (s : Bool) (m p n : ℕ) → 0 < n → nearest (signed s m *ℤ pos p) n ≡ signed s (near (m * p) n)
nearest_times true m p n h = ap (λ z. nearest z n) (neg_ℤ_*ℤ (pos m) (pos p)) ∙ nearest_signed true (m * p) n h
nearest_times false m p n h = nearest_signed false (m * p) n h
