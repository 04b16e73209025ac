-- Premiums with their bounds, and the gross premiums that the tariff gives them: each step's edges, and each wrong turn. Then files, with
-- their gross premiums.
use Rattle.std.specs.Prelude.{List, [], ◌∷◌, ℕ, ℤ, pos, negsuc}
use Prim.Native.String.{String}
use Rattle.fund.specs.Starred.{file}

pub record TariffRow : Type 0 where
  pub deductible : ℕ
  pub worth : ℕ
  pub premium : ℤ
  pub within : ℕ
  pub gross : ℕ

abbrev pub priced : ℕ → ℕ → ℤ → ℕ → ℕ → TariffRow
priced deductible worth premium within gross =
    record { deductible = deductible; worth = worth; premium = premium; within = within; gross = gross }

unfoldable pub tariffs : List TariffRow
tariffs =
    -- Each step's two edges; the deductible's largest.
    priced 0 1000000 (pos 1000000000000) 0 1500000
    ∷ priced 99 1000000 (pos 1000000000000) 0 1500000
    ∷ priced 100 1000000 (pos 1000000000000) 0 1700000
    ∷ priced 299 1000000 (pos 1000000000000) 0 1700000
    ∷ priced 300 1000000 (pos 1000000000000) 0 1900000
    ∷ priced 599 1000000 (pos 1000000000000) 0 1900000
    ∷ priced 600 1000000 (pos 1000000000000) 0 2100000
    ∷ priced 4096 1000000 (pos 1000000000000) 0 2100000
    -- Up to a whole centime: the least above a whole one, less than half of one, nothing at all.
    ∷ priced 0 1000000 (pos 1000000000001) 0 1500001
    ∷ priced 0 1 (pos 333333333333) 0 1
    ∷ priced 0 100 (pos 0) 0 0
    -- Divided once: the worth rounded before the loading would give 2, the loading before the worth 4.
    ∷ priced 0 1 (pos 1) 0 1
    ∷ priced 0 8192 (pos 244140625) 0 3
    -- With its bound; a premium below 0 with a bound that is smaller, as large, larger.
    ∷ priced 0 1000000 (pos 0) 1000000000000 1500000
    ∷ priced 0 1000000 (negsuc 999999999999) 500000000000 0
    ∷ priced 0 1000000 (negsuc 4) 4 0
    ∷ priced 0 1000000 (negsuc 4) 5 0
    ∷ priced 0 1000000 (negsuc 4) 6 1
    ∷ priced 0 1000000 (negsuc 999999999999) 3000000000000 3000000
    -- Far beyond a word before it is divided: the sum itself and the product.
    ∷ priced 4096 9999999 (pos 1000000000000000000) 1000000000000000000 41999995800000
    ∷ priced 600 9999999 (pos 9223372036854775807) 18446744073709551615 581072380214608
    ∷ priced 600 9999999 (negsuc 9223372036854775807) 18446744073709551615 193690793404870
    ∷ []

pub record GrossRow : Type 0 where
  pub file : List ℕ
  pub gross : ℕ

-- One member of group 2 whose amount lies beyond the horizon.
unfoldable pub one_beyond : String → String → ℕ → GrossRow
one_beyond horizon deductible gross =
    record { file = file horizon "order=1" deductible ("rate=40,1000000,0" ∷ "member=40,2,65535,0,1" ∷ "end=1" ∷ []); gross = gross }

-- By the deductible, where the horizon stands on another step.
unfoldable pub gross_files : List GrossRow
gross_files =
    one_beyond "horizon=100" "deductible=99" 9820864
    ∷ one_beyond "horizon=100" "deductible=100" 11130204
    ∷ one_beyond "horizon=99" "deductible=100" 11130204
    ∷ []
