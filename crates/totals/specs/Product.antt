-- What the functions of the module product say: the product with p of each group 1 member.
use Rattle.std.specs.Prelude.{◌≡◌, Bool, List, ℕ, ◌+◌, ◌*◌, ◌≤◌, length, replicate, if◌then◌else◌}
use Rattle.fund.specs.declared.Life.{Life}
use Rattle.fund.specs.declared.ModelPoint.{ModelPoint}
use Rattle.fund.specs.Base.{total}
use Rattle.fund.specs.Folding.{single}
use Rattle.fund.specs.Recursion.{multiplied}
use Rattle.whole.specs.Sign.{signed}
use Rattle.totals.specs.declared.product.Product.{Product}

abbrev pub count_one : Life → ℕ
count_one m = if single m then 1 else 0

-- A magnitude with p of lives: the sign of what is multiplied does not matter.
pub record SizeWith (ms : List Life) (size r : ℕ) : Type 0 where
  pub product : (s : Bool) → multiplied (signed s size) ms ≡ signed s r
  pub within : r ≤ size

-- one line more: its lives, one after the other
pub record Times (p : ModelPoint) (before r : Product) : Type 0 where
  pub size_is : SizeWith (replicate p.lives p.life) before.size r.size
  pub count_is : r.singles ≡ before.singles + p.lives * count_one p.life

pub record Multiplied (ms : List Life) (size : ℕ) (p : Product) : Type 0 where
  pub size_is : SizeWith ms size p.size
  pub count : total count_one ms ≡ p.singles
  pub count_within : p.singles ≤ length ms
