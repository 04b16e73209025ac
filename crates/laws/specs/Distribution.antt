-- Numbers that are near. The difference of two sums is at most the sum of the differences (sums_apart). And what the test of a sum says of a number
-- that the sum is near to: reached (reached_near), or not (below_near).
use Rattle.std.specs.Prelude.{◌≡◌, Bool, true, false, cond, T, ltb, ℤ, pos, negsuc, ◌+ℤ◌, ◌-ℤ◌, ◌*ℤ◌, ◌≤ℤ◌, ◌<ℤ◌}
use Rattle.std.proofs.Common.{sym, ◌∙◌, ap, ap₂, arith, leb-true, leb-false, ltb→lt, le→leb, lt→ltb}
use Prim.Native.Nat.{ℕ, zero, suc, ◌+◌, ◌-◌, ◌*◌, ◌<◌, ◌≤◌}
use Rattle.std.proofs.Math.Nat as N
use Rattle.std.proofs.Math.IntN.{nat_abs, sub_ℕ}
use Rattle.std.specs.Int.Signed.{le_z}
use Rattle.algebra.specs.Integer.{ℤ_ring}
use Rattle.algebra.specs.Solver.{ring2, ring6, 𝟎, ◌⊕◌, ◌⊗◌, ◌⊝◌, ◌:=◌}
use Rattle.algebra.specs.Q.{◌+ℚ◌, abs, abs_add, ≤_trans, ≤_of_eq}
use Rattle.algebra.specs.Embedding.{ofℤ, nat_add, ofℤ_add, nat_reflect, abs_ofℤ}
use Rattle.fund.specs.Base.{sum, sumℤ}
use Rattle.fund.specs.Quantile.{reaches}
use Rattle.laws.specs.Tariff.{difference_above, difference_below}

-- ---- sums
nat_abs_add : (a b : ℤ) → nat_abs (a +ℤ b) ≤ nat_abs a + nat_abs b
nat_abs_add a b = nat_reflect (nat_abs (a +ℤ b)) (nat_abs a + nat_abs b)
    (≤_trans (≤_of_eq (sym (abs_ofℤ (a +ℤ b)) ∙ ap abs (ofℤ_add a b)))
    (≤_trans (abs_add (ofℤ a) (ofℤ b)) (≤_of_eq (ap₂ ◌+ℚ◌ (abs_ofℤ a) (abs_ofℤ b) ∙ sym (nat_add (nat_abs a) (nat_abs b))))))

module _ (d u : ℤ) (f g : ℕ → ℤ) where
  split : (n : ℕ) → d *ℤ sumℤ (suc n) f -ℤ u *ℤ sumℤ (suc n) g ≡ (d *ℤ sumℤ n f -ℤ u *ℤ sumℤ n g) +ℤ (d *ℤ f n -ℤ u *ℤ g n)
  unfolding sumℤ
  split n = ring6 ℤ_ring (λ d u s t f g. d ⊗ (s ⊕ f) ⊝ u ⊗ (t ⊕ g) := (d ⊗ s ⊝ u ⊗ t) ⊕ (d ⊗ f ⊝ u ⊗ g)) tt d u (sumℤ n f) (sumℤ n g) (f n) (g n)

  pub sums_apart : (n : ℕ) → nat_abs (d *ℤ sumℤ n f -ℤ u *ℤ sumℤ n g) ≤ sum n (λ k. nat_abs (d *ℤ f k -ℤ u *ℤ g k))
  unfolding sum sumℤ
  sums_apart zero = N.le_of_eq (ap nat_abs (ring2 ℤ_ring (λ d u. d ⊗ 𝟎 ⊝ u ⊗ 𝟎 := 𝟎) tt d u))
  sums_apart (suc n) =
      N.le_trans (N.le_of_eq (ap nat_abs (split n)))
      (N.le_trans (nat_abs_add (d *ℤ sumℤ n f -ℤ u *ℤ sumℤ n g) (d *ℤ f n -ℤ u *ℤ g n))
      (omega (arith, sums_apart n)))

-- ---- a test
sub_under : (a b c : ℕ) → nat_abs (sub_ℕ a b) ≤ c → a ≤ b + c
sub_under a b c h = go (ltb a b) (ltb→lt a b) h
  where
    go : (t : Bool) → (T t → a < b) → nat_abs (cond t (negsuc (b - suc a)) (pos (a - b))) ≤ c → a ≤ b + c
    go true f k = let l : a < b = f tt in omega arith
    go false f k = omega arith

difference_under : (x z c : ℕ) → nat_abs (pos x -ℤ pos z) ≤ c → x ≤ z + c
difference_under x zero c h = let k : x + 0 ≤ c = h in omega arith
difference_under x (suc z) c h = sub_under x (suc z) c h

le_sub : (a b c : ℕ) → a + b ≤ c → pos a ≤ℤ sub_ℕ c b
le_sub a b c h = record { le = go (ltb c b) (ltb→lt c b) }
  where
    go : (t : Bool) → (T t → c < b) → T (le_z (pos a) (cond t (negsuc (b - suc c)) (pos (c - b))))
    go true f = let l : c < b = f tt in absurd (omega arith)
    go false f = le→leb a (c - b) (omega arith)

-- D times F is within c of z.
pub reached_near : (D level c : ℕ) (F z : ℤ) → nat_abs (pos D *ℤ F -ℤ z) ≤ c → reaches level F ≡ true → pos (D * level) ≤ℤ (z +ℤ pos c)
unfolding reaches
reached_near D level c (pos n) (pos z) h r =
    record { le = le→leb (D * level) (z + c) (omega (arith, difference_under (D * n) z c h, N.mul-le-mul_left D (leb-true level n r))) }
reached_near D level c (pos n) (negsuc z) h r =
    let k : D * n + suc z ≤ c = h in
    le_sub (D * level) (suc z) c (omega (arith, N.mul-le-mul_left D (leb-true level n r)))
reached_near D level c (negsuc n) z h r = let e : ◌≡◌ {A = ℕ} 0 1 = cc in absurd (omega arith)

pub below_near : (D level c : ℕ) (F z : ℤ) → 0 < D → nat_abs (pos D *ℤ F -ℤ z) ≤ c → reaches level F ≡ false → z <ℤ pos (D * level + c)
unfolding reaches
below_near D level c F (negsuc z) d h r = record { lt = tt }
below_near D level c (pos n) (pos z) d h r =
    record { lt = lt→ltb z (D * level + c) (omega (arith, difference_above (D * n) z c h, N.mul-le-mul_left D (leb-false level n r), N.mul-suc D n)) }
below_near D level c (negsuc n) (pos z) d h r =
    record { lt = lt→ltb z (D * level + c) (omega (arith, difference_below (D * suc n) z c h, N.mul-suc D n)) }
