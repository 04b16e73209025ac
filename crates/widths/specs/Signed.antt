-- Whole numbers in a word with a sign: a sum and a difference are at most the sum of the sizes, and a cell with an amount added or
-- subtracted (`Shifted`), a sum of two (`Added`) and a difference of two (`Subtracted`) are the number itself where the sizes fit.
use Rattle.std.specs.Prelude.{◌≡◌, refl, Bool, true, false, not, cond, ℕ, zero, suc, ◌+◌, ◌-◌, ◌*◌, ◌≤◌, ◌<◌, ◌^◌, T, ltb, ℤ, pos, negsuc, neg_ℤ, nat_abs, ◌+ℤ◌, ◌-ℤ◌, ◌*ℤ◌}
use Rattle.std.proofs.Common.{◌∙◌, ap, ap₂, arith, ltb→lt, nltb→le, SFits, to_z, of_z, to_z-of_z}
use Rattle.std.proofs.Math.IntN.{sub_ℕ}
use Rattle.std.specs.Int.{w64}
use Rattle.std.proofs.Math.Facts.{to_z_pos}
use Rattle.whole.specs.Sign.{signed}

nat_abs_sub : (a b : ℕ) → nat_abs (sub_ℕ a b) ≤ a + b
nat_abs_sub a b = go (ltb a b) (ltb→lt a b) (nltb→le a b)
  where
    go : (t : Bool) → (T t → a < b) → (T (not t) → b ≤ a) → nat_abs (cond t (negsuc (b - suc a)) (pos (a - b))) ≤ a + b
    go true f k = let l : a < b = f tt in omega arith
    go false f k = let l : b ≤ a = k tt in omega arith

pub nat_abs_add : (a b : ℤ) → nat_abs (a +ℤ b) ≤ nat_abs a + nat_abs b
nat_abs_add (pos a) (pos b) = omega arith
nat_abs_add (pos a) (negsuc b) = nat_abs_sub a (suc b)
nat_abs_add (negsuc a) (pos b) = let h = nat_abs_sub b (suc a) in omega arith
nat_abs_add (negsuc a) (negsuc b) = omega arith

pub nat_abs_neg : (a : ℤ) → nat_abs (neg_ℤ a) ≡ nat_abs a
nat_abs_neg (pos zero) = refl
nat_abs_neg (pos (suc a)) = refl
nat_abs_neg (negsuc a) = refl

pub nat_abs_less : (a b : ℤ) → nat_abs (a -ℤ b) ≤ nat_abs a + nat_abs b
nat_abs_less a b = omega (arith, nat_abs_add a (neg_ℤ b), nat_abs_neg b)

pub nat_abs_times : (n : ℕ) (z : ℤ) → nat_abs (pos n *ℤ z) ≡ n * nat_abs z
nat_abs_times n (pos m) = refl
nat_abs_times n (negsuc m) = nat_abs_neg (pos (n * suc m))

pub nat_abs_signed : (minus : Bool) (size : ℕ) → nat_abs (signed minus size) ≡ size
nat_abs_signed true size = nat_abs_neg (pos size)
nat_abs_signed false size = refl

fits_small : (z : ℤ) → nat_abs z ≤ 2 ^ 62 → SFits w64 z
fits_small (pos n) h = record { sfits = omega arith }
fits_small (negsuc n) h = record { sfits = omega arith }

-- the sum of two words with a sign
pub record Added (a b : ℤ) : Type 0 where
  pub fits : SFits w64 (to_z w64 (of_z w64 a) +ℤ to_z w64 (of_z w64 b))
  pub is : to_z w64 (of_z w64 (to_z w64 (of_z w64 a) +ℤ to_z w64 (of_z w64 b))) ≡ a +ℤ b

pub added : (a b : ℤ) → nat_abs a + nat_abs b ≤ 2 ^ 62 → Added a b
added a b h =
    let e : to_z w64 (of_z w64 a) +ℤ to_z w64 (of_z w64 b) ≡ a +ℤ b = ap₂ ◌+ℤ◌ (to_z-of_z (fits_small a (omega arith))) (to_z-of_z (fits_small b (omega arith))) in
    let f : SFits w64 (a +ℤ b) = fits_small (a +ℤ b) (omega (arith, nat_abs_add a b)) in
    record { fits = rw e f; is = ap (λ z. to_z w64 (of_z w64 z)) e ∙ to_z-of_z f }

-- and their difference
pub record Subtracted (a b : ℤ) : Type 0 where
  pub fits : SFits w64 (to_z w64 (of_z w64 a) -ℤ to_z w64 (of_z w64 b))
  pub is : to_z w64 (of_z w64 (to_z w64 (of_z w64 a) -ℤ to_z w64 (of_z w64 b))) ≡ a -ℤ b

pub subtracted : (a b : ℤ) → nat_abs a + nat_abs b ≤ 2 ^ 62 → Subtracted a b
subtracted a b h =
    let e : to_z w64 (of_z w64 a) -ℤ to_z w64 (of_z w64 b) ≡ a -ℤ b = ap₂ ◌-ℤ◌ (to_z-of_z (fits_small a (omega arith))) (to_z-of_z (fits_small b (omega arith))) in
    let f : SFits w64 (a -ℤ b) = fits_small (a -ℤ b) (omega (arith, nat_abs_less a b)) in
    record { fits = rw e f; is = ap (λ z. to_z w64 (of_z w64 z)) e ∙ to_z-of_z f }

pub record Shifted (cell z : ℤ) (minus : Bool) (size : ℕ) : Type 0 where
  pub fits : SFits w64 z
  pub is : to_z w64 (of_z w64 z) ≡ cell +ℤ signed minus size

shifted : (cell z : ℤ) (minus : Bool) (size : ℕ) → z ≡ cell +ℤ signed minus size → nat_abs cell + size ≤ 2 ^ 62 → Shifted cell z minus size
shifted cell z minus size e h =
    let f : SFits w64 z = fits_small z (rw e (omega (arith, nat_abs_add cell (signed minus size), nat_abs_signed minus size))) in
    record { fits = f; is = to_z-of_z f ∙ e }

module _ (cell : ℤ) (size : ℕ) (h : nat_abs cell + size ≤ 2 ^ 62) where
  same_cell : to_z w64 (of_z w64 cell) ≡ cell
  same_cell = to_z-of_z (fits_small cell (omega arith))

  same_size : to_z w64 size ≡ pos size
  same_size = to_z_pos w64 (omega arith)

  pub shifted_up : Shifted cell (to_z w64 (of_z w64 cell) +ℤ to_z w64 size) false size
  shifted_up = shifted cell _ false size (ap₂ ◌+ℤ◌ same_cell same_size) h

  pub shifted_down : Shifted cell (to_z w64 (of_z w64 cell) -ℤ to_z w64 size) true size
  shifted_down = shifted cell _ true size (ap₂ ◌-ℤ◌ same_cell same_size) h
