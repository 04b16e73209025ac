-- The tariff's law, for any figures: where a premium is within its bound of another, the gross premium is not below that one's loaded worth
-- (gross_covers). And the loading's range (loading_le).
use Rattle.std.specs.Prelude.{◌≡◌, refl, Bool, true, false, not, cond, ℕ, zero, suc, ◌+◌, ◌-◌, ◌*◌, ◌^◌, ◌<◌, ◌≤◌, T, ltb, ℤ, pos, negsuc, neg_ℤ, nat_abs, ◌-ℤ◌, ◌*ℤ◌, ◌≤ℤ◌, if◌then◌else◌}
use Rattle.std.proofs.Common.{sym, ◌∙◌, ap, arith, ltb→lt, nltb→le, le→leb}
use Rattle.std.proofs.Math.Nat as N
use Rattle.std.proofs.Math.IntN.{sub_ℕ}
use Rattle.rounding.specs.Rounding.{up}
use Rattle.rounding.proofs.Laws.{neg_below, up_low}
use Rattle.fund.specs.Limits.{second_step, third_step, fourth_step, first_loading, second_loading, third_loading, fourth_loading}
use Rattle.fund.specs.Tariff.{loading, not_negative, with_bound, gross}

pub loading_le : (M : ℕ) → loading M ≤ fourth_loading
unfolding loading
loading_le M = go (ltb M second_step) (ltb M third_step) (ltb M fourth_step)
  where
    go : (a b c : Bool) → (if a then first_loading else if b then second_loading else if c then third_loading else fourth_loading) ≤ fourth_loading
    go true b c = omega arith
    go false true c = omega arith
    go false false true = omega arith
    go false false false = omega arith

-- ---- a premium with its bound, by the premium's sign
left_over : (a b : ℕ) → not_negative (sub_ℕ a b) ≡ a - b
left_over a b = go (ltb a b) (ltb→lt a b) (nltb→le a b)
  where
    go : (t : Bool) → (T t → a < b) → (T (not t) → b ≤ a) → not_negative (cond t (negsuc (b - suc a)) (pos (a - b))) ≡ a - b
    go true h g = let l : a < b = h tt in omega arith
    go false h g = refl

pub with_bound_pos : (p within : ℕ) → with_bound (pos p) within ≡ p + within
unfolding with_bound
with_bound_pos p within = refl

pub with_bound_neg : (p within : ℕ) → with_bound (negsuc p) within ≡ within - suc p
unfolding with_bound
with_bound_neg p within = left_over within (suc p)

-- ---- how much above, where two numbers differ by at most c
sub_above : (a b c : ℕ) → nat_abs (sub_ℕ a b) ≤ c → b ≤ a + c
sub_above a b c h = go (ltb a b) (nltb→le a b) h
  where
    go : (t : Bool) → (T (not t) → b ≤ a) → nat_abs (cond t (negsuc (b - suc a)) (pos (a - b))) ≤ c → b ≤ a + c
    go true f k = omega arith
    go false f k = let l : b ≤ a = f tt in omega arith

pub difference_above : (x z c : ℕ) → nat_abs (pos x -ℤ pos z) ≤ c → z ≤ x + c
difference_above x zero c h = omega arith
difference_above x (suc z) c h = sub_above x (suc z) c h

pub difference_below : (x z c : ℕ) → nat_abs (neg_ℤ (pos x) -ℤ pos z) ≤ c → x + z ≤ c
difference_below zero zero c h = omega arith
difference_below zero (suc z) c h = omega (arith, sub_above 0 (suc z) c h)
difference_below (suc x) zero c h = omega (arith, sub_above 0 (suc x) c h)
difference_below (suc x) (suc z) c h = let k : suc (suc (x + z)) ≤ c = h in omega arith

-- a number within D × bound of D × premium is at most D times premium and bound
with_bound_above : (D z within : ℕ) (premium : ℤ) → nat_abs (pos D *ℤ premium -ℤ pos z) ≤ D * within → z ≤ D * with_bound premium within
with_bound_above D z within (pos p) h =
    rw (with_bound_pos p within) (omega (arith, difference_above (D * p) z (D * within) h, N.mul-add D p within))
with_bound_above D z within (negsuc p) h =
    rw (with_bound_neg p within) (omega (arith, difference_below (D * suc p) z (D * within) h, N.mul-sub D within (suc p)))

-- D is a denominator, and `exact` a premium times D.
pub gross_covers : (D M worth within : ℕ) (premium exact : ℤ) → nat_abs (pos D *ℤ premium -ℤ exact) ≤ D * within →
    (exact *ℤ pos (worth * loading M)) ≤ℤ pos (gross M worth premium within * 10 ^ 15 * D)
unfolding gross
gross_covers D M worth within premium (negsuc z) h = neg_below (suc z * (worth * loading M)) _
gross_covers D M worth within premium (pos z) h = record { le = le→leb _ _ (loaded (with_bound premium within) (with_bound_above D z within premium h)) }
  where
    -- the loaded worth of premium and bound, divided by 10^15, is not above the gross premium
    loaded : (c : ℕ) → z ≤ D * c → z * (worth * loading M) ≤ up (c * worth * loading M) (10 ^ 15) * 10 ^ 15 * D
    loaded c g =
        N.le_trans (N.mul-le-mul_right (worth * loading M) g)
        (N.le_trans (N.le_of_eq (N.mul_assoc D c (worth * loading M) ∙ ap (λ x. D * x) (sym (N.mul_assoc c worth (loading M)))))
        (N.le_trans (N.mul-le-mul_left D (up_low (c * worth * loading M) (10 ^ 15) (omega arith)))
        (N.le_of_eq (N.mul_comm D _ ∙ ap (λ x. x * D) (N.mul_comm (10 ^ 15) _)))))
