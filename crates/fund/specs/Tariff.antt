-- METHOD 7 (§3): the pool's tariff.
use Rattle.std.specs.Prelude.{ℕ, ◌*◌, ◌^◌, ltb, ℤ, pos, negsuc, ◌+ℤ◌, if◌then◌else◌}
use Rattle.rounding.specs.Rounding.{up}
use Rattle.fund.specs.Limits.{second_step, third_step, fourth_step, first_loading, second_loading, third_loading, fourth_loading}

-- "The loading goes by the deductible: 0 to 99 is 1,500; 100 to 299 is 1,700; 300 to 599 is 1,900; 600 and above is 2,100."
unfoldable pub loading : ℕ → ℕ
loading M =
    if ltb M second_step then first_loading else
    if ltb M third_step then second_loading else
    if ltb M fourth_step then third_loading else fourth_loading

abbrev pub not_negative : ℤ → ℕ
not_negative (pos n) = n
not_negative (negsuc n) = 0

-- "(premium + its bound), or 0 where that sum is negative"
unfoldable pub with_bound : ℤ → ℕ → ℕ
with_bound premium within = not_negative (premium +ℤ pos within)

-- ".., times the worth, times a loading in thousandths. It is divided once by 10^15 and taken up to a whole centime."
unfoldable pub gross : ℕ → ℕ → ℤ → ℕ → ℕ
gross M worth premium within = up (with_bound premium within * worth * loading M) (10 ^ 15)
