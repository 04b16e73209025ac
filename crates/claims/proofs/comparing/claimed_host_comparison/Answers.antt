-- The contract of the comparison for C, in plain words.
use Rattle.claims.proofs.Compared.{hosts_plainly, comparison_struct}
use Rattle.claims.proofs.Calls.{host_struct}
use Rattle.claims.proofs.comparing.claimed_host_comparison.Goals as goal

pub returns : goal.returns
returns c =
    let e = c.miguepo_compare.ensures in
    let k = e.hosts in
    record { old_slices = e.old_slices; new_slices = e.new_slices; compares_plainly = hosts_plainly _ _ _ _ _ _ _ _ k; result_struct = host_struct _ _ _ _ _ _ _ _ _ _ k.old_hosted; result_struct_2 = host_struct _ _ _ _ _ _ _ _ _ _ k.new_hosted; comparison_struct = comparison_struct _ _ _ _ _ _ _ _ k }
