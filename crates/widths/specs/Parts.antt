-- What one life adds to lambda, to the load, to the truncation figure and to the mean:
-- the summands of fund's definitions, by name.
use Rattle.std.specs.Prelude.{ℕ, suc, ◌+◌, ◌-◌, ◌*◌, ◌^◌, if◌then◌else◌}
use Rattle.rounding.specs.Rounding.{up}
use Rattle.fund.specs.declared.Frequencies.{Frequencies}
use Rattle.fund.specs.declared.Life.{Life}
use Rattle.fund.specs.Folding.{claim, stay, single}
use Rattle.fund.specs.Transform.{unit, death_weight, disability_weight, w}

abbrev pub lambda_part : Frequencies → Life → ℕ
lambda_part ab m = if single m then 0 else death_weight ab m + disability_weight ab m

abbrev pub single_load : Life → ℕ
single_load m = if single m then up (unit * claim m) (stay m) else 0

abbrev pub load_part : Frequencies → Life → ℕ
load_part ab m = lambda_part ab m + single_load m

abbrev pub truncation_part : ℕ → Life → ℕ
truncation_part r m = if single m then up (w m (suc r) * stay m) ((stay m - claim m) * suc r) else 0

abbrev pub mean_part : Frequencies → Life → ℕ
mean_part ab m = if single m then (m.q * m.d + m.i * m.e) * 10 ^ 6 else death_weight ab m * m.d + disability_weight ab m * m.e
