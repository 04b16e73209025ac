-- What holds of the cells as the library's call leaves them holds of the host's slices, which they are.
use Rattle.std.specs.Prelude.{◌≡◌, List, ℕ, ℤ}
use Rattle.fund.specs.Reading.{Reading}
use Rattle.fund.specs.Refusals.{Lengths}
use Rattle.fund.specs.declared.Cells.{Cells}
use Rattle.miguepo.specs.Host.{Hosts, HostsCells}

pub record IsLent (c : Cells) (D : List ℤ) (H : List ℕ) (f : List ℤ) (R : List ℕ) (F : List ℤ) : Type 0 where
  pub transform : c.transform.now ≡ D
  pub h : c.h.now ≡ H
  pub f_is : c.f.now ≡ f
  pub r : c.r.now ≡ R
  pub sums : c.sums.now ≡ F

pub lent : (text : List ℕ) (x : Reading) (level : ℕ) (n : Lengths) (fields : List ℕ) (c : Cells) (D : List ℤ) (H : List ℕ) (f : List ℤ) (R : List ℕ) (F : List ℤ) →
    HostsCells text x level n fields c → IsLent c D H f R F → Hosts text x level n fields D H f R F
lent text x level n fields c D H f R F k e = rw (← e.transform, ← e.h, ← e.f_is, ← e.r, ← e.sums) k
