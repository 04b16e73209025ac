-- Bounds of what one life in range adds to the sums.
use Rattle.std.specs.Prelude.{◌≡◌, refl, Bool, true, false, List, [], ◌∷◌, ℕ, zero, suc, ◌+◌, ◌-◌, ◌*◌, ◌^◌, ◌≤◌, ◌<◌, if◌then◌else◌}
use Rattle.std.proofs.Math.Nat as N
use Rattle.std.proofs.Common.{add-one, arith}
use Rattle.rounding.specs.Rounding.{up}
use Rattle.rounding.proofs.Laws.{up_least, up_above}
use Rattle.fund.specs.declared.Frequencies.{Frequencies}
use Rattle.fund.specs.declared.Life.{Life}
use Rattle.fund.specs.Base.{total}
use Rattle.fund.specs.Folding.{claim, stay, single}
use Rattle.fund.specs.Transform.{unit, death_weight, disability_weight, w, lambda, load}
use Rattle.laws.specs.Ranges.{FrequenciesOk}
use Rattle.laws.specs.Weights.{most_weight, weights_most}
use Rattle.widths.specs.Lives.{InRange}
use Rattle.widths.specs.Parts.{lambda_part, single_load, load_part, truncation_part, mean_part}

-- a bound of either group's value, by what each asks
pub by_group : (m : Life) (x y b : ℕ) → (single m ≡ true → x ≤ b) → y ≤ b → (if single m then x else y) ≤ b
by_group m x y b f h = go (single m) refl
  where
    go : (t : Bool) → single m ≡ t → (if t then x else y) ≤ b
    go true e = f e
    go false e = h

pub lambda_le : (m : Life) (a : Frequencies) → InRange m → FrequenciesOk a → lambda_part a m ≤ most_weight
lambda_le m a r h = by_group m 0 (death_weight a m + disability_weight a m) most_weight (λ e. omega arith) (weights_most a m h r.rates)

pub single_le : (m : Life) → InRange m → single_load m ≤ 1000000000000
unfolding unit
single_le m r =
    by_group m (up (unit * claim m) (stay m)) 0 1000000000000
    (λ e. let c = r.limited e in up_least (unit * claim m) (stay m) 1000000000000 (omega arith) (omega arith))
    (omega arith)

pub w_first : (m : Life) → 1000000000000 ≡ w m 0
unfolding unit w
w_first m = refl

pub w_next : (m : Life) (k x y : ℕ) → x ≡ w m k → y ≡ up (x * claim m) (stay m) → y ≡ w m (k + 1)
unfolding w
w_next m k x y e h = rw (add-one k, ← e) h

pub w_le : (m : Life) → claim m < 500000 → (n : ℕ) → w m n ≤ unit
unfolding unit w
w_le m c zero = omega arith
w_le m c (suc n) =
    let h = w_le m c n in
    let g : claim m ≤ stay m = omega arith in
    up_least (w m n * claim m) (stay m) 1000000000000 (omega arith) (omega (arith, N.mul-le-mul h g))

pub truncation_le : (m : Life) (n : ℕ) → InRange m → truncation_part n m ≤ 1000000000000000000
unfolding unit
truncation_le m n r =
    by_group m (up (w m (suc n) * stay m) ((stay m - claim m) * suc n)) 0 1000000000000000000
    (λ e.
    let c = r.limited e in
    let p : 1 ≤ stay m - claim m = omega arith in
    let s : stay m ≤ 1000000 = omega arith in
    let o : 1 ≤ suc n = omega arith in
    let q : 1 * 1 ≤ (stay m - claim m) * suc n = N.mul-le-mul p o in
    up_least (w m (suc n) * stay m) ((stay m - claim m) * suc n) 1000000000000000000 (omega arith)
    (omega (arith, let v : w m (suc n) ≤ 1000000000000 = w_le m c (suc n) in N.mul-le-mul v s, N.mul-le-mul_right 1000000000000000000 q)))
    (omega arith)

-- rates times amounts
pub amount_le : (m : Life) → InRange m → m.q * m.d + m.i * m.e ≤ claim m * 65535
amount_le m r = omega (arith, N.mul-le-mul_left m.q r.death, N.mul-le-mul_left m.i r.disability)

pub weighted_le : (m : Life) (a : Frequencies) → InRange m → death_weight a m * m.d + disability_weight a m * m.e ≤ 65535 * (death_weight a m + disability_weight a m)
weighted_le m a r = omega (arith, N.mul-le-mul_left (death_weight a m) r.death, N.mul-le-mul_left (disability_weight a m) r.disability)

pub mean_le : (m : Life) (a : Frequencies) → InRange m → mean_part a m ≤ 65535 * (load_part a m + 0)
unfolding unit
mean_le m a r = go (m.q * m.d + m.i * m.e) (amount_le m r) (death_weight a m * m.d + disability_weight a m * m.e) (weighted_le m a r) (single m) refl
  where
    go : (s : ℕ) → s ≤ claim m * 65535 → (u : ℕ) → u ≤ 65535 * (death_weight a m + disability_weight a m) → (t : Bool) → single m ≡ t →
        (if t then s * 10 ^ 6 else u) ≤ 65535 * ((if t then 0 else death_weight a m + disability_weight a m) + (if t then up (unit * claim m) (stay m) else 0) + 0)
    go s h u k true e =
        let c = r.limited e in
        let l : 1000000 * claim m ≤ up (unit * claim m) (stay m) = up_above (unit * claim m) (stay m) (1000000 * claim m) (omega arith) (omega (arith, N.mul-le-mul_right (1000000 * claim m) (N.sub-le 1000000 (claim m)))) in
        omega arith
    go s h u k false e = omega (arith, k)

pub load_is : (a : Frequencies) (ms : List Life) → load a ms ≡ total (load_part a) ms
unfolding load lambda total
load_is a [] = refl
load_is a (m ∷ ms) = let h = load_is a ms in omega arith
