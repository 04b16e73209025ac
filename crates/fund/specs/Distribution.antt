-- METHOD 6 (§7): the bound of the distribution function.
use Rattle.std.specs.Prelude.{List, ℕ, suc, ◌+◌, ◌*◌, get_or}
use Rattle.fund.specs.Base.{sum}

-- "R(0) + .. + R(x) + 2×E", for the cells' R in order.
unfoldable pub distribution_bound : ℕ → List ℕ → ℕ → ℕ
distribution_bound E R x = sum (suc x) (λ y. get_or R y 0) + 2 * E
