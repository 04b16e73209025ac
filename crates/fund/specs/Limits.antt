-- METHOD 1, 2, 7: "All limits above are named constants of the fund record's type." Here are their numbers, which the definitions use;
-- `Fund::limits` shows that the constants are these.
use Rattle.std.specs.Prelude.{List, [], ◌∷◌, ℕ}

-- "Numbers are decimal, [..] of one to seven digits."
abbrev pub most_digits : ℕ
most_digits = 7

-- `rates=` and `members=`: editions, 1900 to 2999 each.
abbrev pub least_edition : ℕ
least_edition = 1900

abbrev pub most_edition : ℕ
most_edition = 2999

-- `horizon=` X, 0 to 4,095. `order=` r, 1 to 12. METHOD 1 (§5): `frequency=a,b`, "both 0 to 5,000", in thousandths. `deductible=` M, 0 to 4,096.
abbrev pub most_horizon : ℕ
most_horizon = 4095

abbrev pub least_order : ℕ
least_order = 1

abbrev pub most_order : ℕ
most_order = 12

abbrev pub most_frequency : ℕ
most_frequency = 5000

abbrev pub most_deductible : ℕ
most_deductible = 4096

-- METHOD 1 (§3): "A fund states the worth of one amount in centimes, 1 to 9,999,999."
abbrev pub least_worth : ℕ
least_worth = 1

abbrev pub most_worth : ℕ
most_worth = 9999999

-- 0 to 121 lines `rate=age,q,i`: age 0 to 120; q and i 0 to 1,000,000 in millionths, q + i at most 1,000,000.
abbrev pub most_rates : ℕ
most_rates = 121

abbrev pub most_age : ℕ
most_age = 120

abbrev pub most_rate : ℕ
most_rate = 1000000

-- 0 to 1,000 lines `member=age,group,d,e,lives`: group 1 or 2; d and e 0 to 65,535.
abbrev pub most_members : ℕ
most_members = 1000

abbrev pub least_group : ℕ
least_group = 1

abbrev pub most_group : ℕ
most_group = 2

abbrev pub most_amount : ℕ
most_amount = 65535

-- METHOD 1 (§8): "lives, 1 to 1,000; lives in all are at most 1,000".
abbrev pub least_lives : ℕ
least_lives = 1

abbrev pub most_lives : ℕ
most_lives = 1000

-- Where pricing stops: 6, 7, 8 and 10.
abbrev pub half_rate : ℕ
half_rate = 500000

abbrev pub most_load : ℕ
most_load = 8000000000000

abbrev pub most_truncation : ℕ
most_truncation = 100000000

abbrev pub most_bound : ℕ
most_bound = 250000

-- METHOD 7 (§1): "a level from 0 to 10^12 units".
abbrev pub most_level : ℕ
most_level = 1000000000000

-- METHOD 7 (§3), the tariff's steps: "0 to 99 is 1,500; 100 to 299 is 1,700; 300 to 599 is 1,900; 600 and above is 2,100."
abbrev pub second_step : ℕ
second_step = 100

abbrev pub third_step : ℕ
third_step = 300

abbrev pub fourth_step : ℕ
fourth_step = 600

abbrev pub first_loading : ℕ
first_loading = 1500

abbrev pub second_loading : ℕ
second_loading = 1700

abbrev pub third_loading : ℕ
third_loading = 1900

abbrev pub fourth_loading : ℕ
fourth_loading = 2100

-- All of them, in their order.
abbrev pub limits : List ℕ
limits =
    most_digits ∷ least_edition ∷ most_edition ∷ most_horizon ∷ least_order ∷ most_order ∷ most_frequency ∷ most_deductible ∷ least_worth ∷
    most_worth ∷ most_rates ∷ most_age ∷ most_rate ∷ most_members ∷ least_group ∷ most_group ∷ most_amount ∷ least_lives ∷ most_lives ∷ half_rate ∷
    most_load ∷ most_truncation ∷ most_bound ∷ most_level ∷ second_step ∷ third_step ∷ fourth_step ∷ first_loading ∷ second_loading ∷ third_loading ∷
    fourth_loading ∷ []
