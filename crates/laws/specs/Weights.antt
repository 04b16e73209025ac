-- What all else knows of the frequencies: a member's two weights add to at most 5×10^12 units (weights_most), and a rate of 0 has no
-- weight (death_none, disability_none). A rate of the member times a frequency is at most 5×10^9 (products).
use Rattle.std.specs.Prelude.{◌≡◌, ℕ, ◌+◌, ◌*◌, ◌≤◌, eqb, if◌then◌else◌}
use Rattle.std.proofs.Common.{sym, ◌∙◌, ap, mul_comm, mul_assoc, mul-le-mul, zero-mul, arith}
use Rattle.std.proofs.Math.Nat.{mul-le-mul_left}
use Rattle.fund.specs.declared.Frequencies.{Frequencies}
use Rattle.fund.specs.declared.Life.{Life}
use Rattle.fund.specs.Limits.{most_rate, most_frequency}
use Rattle.fund.specs.Folding.{claim}
use Rattle.fund.specs.Transform.{death_weight, disability_weight}
use Rattle.laws.specs.Ranges.{FrequenciesOk}

abbrev pub most_weight : ℕ
most_weight = most_rate * most_frequency * 1000

none : (rate frequency : ℕ) → rate ≡ 0 → rate * frequency * 1000 ≡ 0
none rate frequency z = ap (λ r. r * frequency * 1000) z ∙ ap (λ p. p * 1000) (zero-mul frequency) ∙ zero-mul 1000

pub by_thousand : (p amount : ℕ) → p * 1000 * amount ≡ p * amount * 1000
by_thousand p amount = mul_assoc p 1000 amount ∙ ap (λ y. p * y) (mul_comm 1000 amount) ∙ sym (mul_assoc p amount 1000)

-- a rate times each frequency
abbrev pub Products : Frequencies → ℕ → Type 0
Products ab rate = (rate * ab.death ≤ most_rate * most_frequency) × (rate * ab.disability ≤ most_rate * most_frequency)

module _ (ab : Frequencies) (m : Life) where
  -- the weights at a place
  abbrev pub death_at : ℕ → ℕ
  death_at k = if eqb m.d k then death_weight ab m else 0

  abbrev pub disability_at : ℕ → ℕ
  disability_at k = if eqb m.e k then disability_weight ab m else 0

  pub products : FrequenciesOk ab → claim m ≤ most_rate → Products ab m.q × Products ab m.i
  products k h =
      let q : m.q ≤ most_rate = omega (arith, h) in
      let i : m.i ≤ most_rate = omega (arith, h) in
      ((mul-le-mul q k.death, mul-le-mul q k.disability), (mul-le-mul i k.death, mul-le-mul i k.disability))

  pub weights_most : FrequenciesOk ab → claim m ≤ most_rate → death_weight ab m + disability_weight ab m ≤ most_weight
  unfolding death_weight disability_weight
  weights_most k h = omega (arith, h, mul-le-mul_left m.q k.death, mul-le-mul_left m.i k.disability)

  pub death_none : m.q ≡ 0 → death_weight ab m ≡ 0
  unfolding death_weight
  death_none z = none m.q ab.death z

  pub disability_none : m.i ≡ 0 → disability_weight ab m ≡ 0
  unfolding disability_weight
  disability_none z = none m.i ab.disability z
