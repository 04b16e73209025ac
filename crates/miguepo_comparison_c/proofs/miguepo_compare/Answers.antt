-- What the library's call answers of the cells holds of the host's slices, which they are. It is cited, so that what breaks it is refused at a fact, and not
-- where a search gives up.
use Rattle.std.specs.Prelude.{◌≡◌, refl, List, ℕ, ℤ}
use Rattle.std.proofs.Common.{rules}
use Rattle.fund.specs.Refusals.{Lengths}
use Rattle.fund.specs.declared.Cells.{Cells}
use Rattle.miguepo.proofs.Lent.{IsLent}
use Rattle.miguepo_comparison.specs.HostComparison.{Handed, handed, handed_cells, HostsComparison}
use Rattle.miguepo_comparison_c.proofs.miguepo_compare.Goals as goal

handed_lent : (fields : List ℕ) (c : Cells) (D : List ℤ) (H : List ℕ) (f : List ℤ) (R : List ℕ) (F : List ℤ) → IsLent c D H f R F →
    handed_cells fields c ≡ handed fields D H f R F
handed_lent fields c D H f R F e = rw (e.transform, e.h, e.f_is, e.r, e.sums) refl

lent : (old new : List ℕ) (level : ℕ) (n m : Lengths) (a b x y : Handed) (comparison : List ℕ) →
    HostsComparison old new level n m a b comparison → a ≡ x → b ≡ y → HostsComparison old new level n m x y comparison
lent old new level n m a b x y comparison k e i = rw (← e, ← i) k

pub returns : goal.returns
returns c =
    let call = c.miguepo_compare in
    lent _ _ _ _ _ _ _ _ _ _ call.ensures.hosts
    (handed_lent call.new.old_result call.new.old_cells _ _ _ _ _ (record { transform = search rules; h = search rules; f_is = search rules; r = search rules; sums = search rules }))
    (handed_lent call.new.new_result call.new.new_cells _ _ _ _ _ (record { transform = search rules; h = search rules; f_is = search rules; r = search rules; sums = search rules }))
