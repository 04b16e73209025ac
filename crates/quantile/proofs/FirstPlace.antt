-- The definition's first place is the index that a search in a slice gives (first_is); so the answer is that of the sums up to the horizon (quantile_is),
-- and above the largest level none (quantile_above).
use Rattle.std.specs.Prelude.{◌≡◌, refl, List, ℕ, suc, min, ◌+◌, ◌-◌, ◌^◌, ◌<◌, ◌≤◌, ℤ, length, take, Option, None, Some, option_map, position}
use Rattle.std.proofs.Common.{sym, ◌∙◌, ap, arith, le-ltb, lt-ltb}
use Rattle.std.proofs.lemmas.List.{take_min}
use Rattle.fund.specs.Limits.{most_level}
use Rattle.laws.specs.FirstPlace.{first_at}
use Rattle.fund.specs.Quantile.{reaches, quantile}

itself : (o : Option ℕ) → option_map (λ k. 0 + k) o ≡ o
itself None = refl
itself (Some k) = let e : 0 + k ≡ k = omega arith in ap Some e

quantile_is : (level X : ℕ) (F : List ℤ) → level ≤ most_level → position (reaches level) (take (suc X) F) ≡ quantile level X F
unfolding quantile
quantile_is level X F h = rw (le-ltb _ _ h) (sym (first_at (reaches level) 0 (take (suc X) F) ∙ itself _))

pub quantile_above : (level X : ℕ) (F : List ℤ) → most_level < level → None ≡ quantile level X F
unfolding quantile
quantile_above level X F h = rw (lt-ltb _ _ h)

-- of a count that is cut at the slice's length
pub counted : (level X n s : ℕ) (F : List ℤ) → length F < 2 ^ 64 → s ≡ min (X + 1) (2 ^ 64 - 1) → n ≡ min (length F) s → level ≤ most_level →
    position (reaches level) (take n F) ≡ quantile level X F
counted level X n s F h d e l =
    let is : n ≡ min (suc X) (length F) = omega (arith, h, d, e) in
    ap (λ k. position (reaches level) (take k F)) is ∙ ap (position (reaches level)) (take_min (suc X) F) ∙ quantile_is level X F l
