-- The contract of the call for C, in plain words.
use Rattle.claims.proofs.Calls.{host_answered, host_demands, host_struct}
use Rattle.claims.proofs.AsWrittenOut.{as_written_out}
use Rattle.claims.proofs.claimed_host.Goals as goal

pub returns : goal.returns
returns c =
    let k = c.miguepo_price.ensures.hosts in
    record { same_slices = c.miguepo_price.ensures.same_slices; demands = host_demands _ _ _ _ _ _ _ _ _ _ k; priced_written_out = as_written_out _ _ _ _ (host_answered _ _ _ _ _ _ _ _ _ _ k); result_struct = host_struct _ _ _ _ _ _ _ _ _ _ k }
