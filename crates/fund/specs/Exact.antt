-- METHOD 10: the exact values, from the fund's input alone: whole numbers over the one denominator 10^(6g + 12X + 756)×X!×63! for g
-- group 1 members. They use folding and the members' weights, and nothing else of the method's figures.
use Rattle.std.specs.Prelude.{List, [], ◌∷◌, ◌++◌, ℕ, zero, suc, ◌+◌, ◌-◌, ◌*◌, ◌^◌, eqb, leb, ℤ, pos, neg_ℤ, ◌+ℤ◌, ◌-ℤ◌, ◌*ℤ◌, if◌then◌else◌}
use Rattle.fund.specs.declared.Frequencies.{Frequencies}
use Rattle.fund.specs.declared.Life.{Life}
use Rattle.fund.specs.Base.{total, sum, sumℤ}
use Rattle.fund.specs.Folding.{stay, single}
use Rattle.fund.specs.Transform.{death_weight, disability_weight, lambda}

unfoldable pub factorial : ℕ → ℕ
factorial zero = 1
factorial (suc n) = suc n * factorial n

-- g, the number of group 1 members
unfoldable pub singles : List Life → ℕ
singles ms = total (λ m. if single m then 1 else 0) ms

unfoldable pub denominator : ℕ → List Life → ℕ
denominator X ms = 10 ^ (6 * singles ms + 12 * X + 756) * factorial X * factorial 63

-- g(x-d), "0 elsewhere, below 0 too"
unfoldable pub shifted : ℕ → (ℕ → ℕ) → ℕ → ℕ
shifted d g x = if leb d x then g (x - d) else 0

-- "Begin with 1 at 0 and 0 elsewhere. Each group 1 member maps g(x) to (p×g(x) + q×g(x-d) + i×g(x-e))/10^6":
-- numerators over 10^(6g).
unfoldable pub one : ℕ → ℕ
one zero = 1
one (suc x) = 0

unfoldable pub single_part : List Life → ℕ → ℕ
single_part [] x = one x
single_part (m ∷ ms) x =
    let g = single_part ms in
    if single m then stay m * g x + m.q * shifted m.d g x + m.i * shifted m.e g x else g x

-- "The weight at k, from 1 on, is the sum over group 2 of" the death weight "where d = k and of" the disability weight "where e = k":
-- numerators over 10^12. METHOD 10 (§5): "the exact Poisson weights follow".
unfoldable pub weight_at : Frequencies → List Life → ℕ → ℕ
weight_at ab ms zero = 0
weight_at ab ms (suc k) =
    total (λ m. if single m then 0 else (if eqb m.d (suc k) then death_weight ab m else 0) + (if eqb m.e (suc k) then disability_weight ab m else 0)) ms

-- the convolution of g and h: the sum of g(k)×h(x-k)
unfoldable pub convolved : (ℕ → ℕ) → (ℕ → ℕ) → ℕ → ℕ
convolved g h x = sum (suc x) (λ k. g k * h (x - k))

-- the n-fold convolution, "for n = 0: 1 at 0"
unfoldable pub fold : ℕ → (ℕ → ℕ) → ℕ → ℕ
fold zero g = one
fold (suc n) g = convolved g (fold n g)

-- The sum over n from 0 to N of u(n)/(10^(12n)×n!), as its numerator over 10^(12N)×N!.
unfoldable pub series : (ℕ → ℤ) → ℕ → ℤ
series u zero = u 0
series u (suc n) = series u n *ℤ pos (10 ^ 12 * suc n) +ℤ u (suc n)

-- "The Poisson part is the sum over n from 0 of the n-fold convolution of its weights divided by n!, times the sum of
-- (-lambda)^j/j! for j to 63." "No weight stands at 0, so at place x only n up to x counts": n to X is enough for each x to X.
unfoldable pub replaced_part : ℕ → Frequencies → List Life → ℕ → ℤ
replaced_part X ab ms x = series (λ n. pos (fold n (weight_at ab ms) x)) X

-- (z)^j, "for j = 0: 1"
unfoldable pub power : ℤ → ℕ → ℤ
power z zero = pos 1
power z (suc j) = z *ℤ power z j

unfoldable pub exponential : Frequencies → List Life → ℤ
exponential ab ms = series (power (neg_ℤ (pos (lambda ab ms)))) 63

-- "Convolve the two." The exact value at x, times the denominator.
unfoldable pub exact : ℕ → Frequencies → List Life → ℕ → ℤ
exact X ab ms x = exponential ab ms *ℤ sumℤ (suc x) (λ k. pos (single_part ms k) *ℤ replaced_part X ab ms (x - k))

-- "The exact premium is the premium formula with 10^12 times the exact value at x in place of f(x)", times the denominator.
unfoldable pub exact_premium : ℕ → ℕ → ℕ → Frequencies → List Life → ℤ
exact_premium X M mean ab ms =
    (pos mean -ℤ pos (M * 10 ^ 12)) *ℤ pos (denominator X ms) +ℤ sumℤ M (λ x. pos ((M - x) * 10 ^ 12) *ℤ exact X ab ms x)

-- All outcomes of the group 1 members: a weight, over 10^(6g), and the total claimed.
pub record Outcome : Type 0 where
  pub weight : ℕ
  pub claimed : ℕ

unfoldable pub after : ℕ → ℕ → List Outcome → List Outcome
after rate amount [] = []
after rate amount (o ∷ os) = record { weight = rate * o.weight; claimed = amount + o.claimed } ∷ after rate amount os

unfoldable pub outcomes : List Life → List Outcome
outcomes [] = record { weight = 1; claimed = 0 } ∷ []
outcomes (m ∷ ms) =
    let rest = outcomes ms in
    if single m then after (stay m) 0 rest ++ (after m.q m.d rest ++ after m.i m.e rest) else rest

-- The average excess over M, as its numerator over 10^(6g).
unfoldable pub excess : ℕ → List Outcome → ℕ
excess M os = total (λ o. o.weight * (o.claimed - M)) os
