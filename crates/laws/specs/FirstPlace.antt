-- The first place of a list that meets a condition is the index that a search in a slice gives, counted on (first_at).
use Rattle.std.specs.Prelude.{◌≡◌, refl, Bool, true, false, cond, not, List, [], ◌∷◌, ℕ, suc, ◌+◌, nat_lt, length, if◌then◌else◌, Option, None, Some, option_map, position}
use Rattle.std.specs.List.{position_or_len}
use Rattle.std.proofs.Common.{◌∙◌, ap, arith, le-ltb, lt-ltb, ltb-true, ltb-false}
use Rattle.fund.specs.Refusals.{first}

one_below : (n size : ℕ) → nat_lt (1 + n) (suc size) ≡ nat_lt n size
one_below n size = go (nat_lt n size) refl
  where
    go : (b : Bool) → nat_lt n size ≡ b → nat_lt (1 + n) (suc size) ≡ b
    go true e = let h = ltb-true _ _ e in lt-ltb (1 + n) (suc size) (omega (arith, h))
    go false e = let h = ltb-false _ _ e in le-ltb (1 + n) (suc size) (omega (arith, h))

later : (at : ℕ) (b : Bool) (k : ℕ) → option_map (λ j. suc at + j) (cond b (Some k) None) ≡ option_map (λ j. at + j) (cond b (Some (1 + k)) None)
later at true k = let e : suc at + k ≡ at + (1 + k) = omega arith in ap Some e
later at false k = refl

-- one element more
one_more : (at n size : ℕ) (after : Option ℕ) → after ≡ option_map (λ k. suc at + k) (cond (nat_lt n size) (Some n) None) → (b : Bool) →
    (if b then Some at else after) ≡ option_map (λ k. at + k) (cond (nat_lt (cond (not b) (1 + n) 0) (suc size)) (Some (cond (not b) (1 + n) 0)) None)
one_more at n size after e true = let h : at ≡ at + 0 = omega arith in rw (lt-ltb 0 (suc size) (omega arith)) (ap Some h)
one_more at n size after e false = rw (one_below n size) (e ∙ later at (nat_lt n size) n)

pub first_at : {A : Type 0} (met : A → Bool) (at : ℕ) (l : List A) → first met at l ≡ option_map (λ k. at + k) (position met l)
unfolding first
first_at met at [] = refl
first_at met at (a ∷ l) = one_more at (position_or_len met l) (length l) _ (first_at met (suc at) l) (met a)
