-- The contract of the call for C on sheets, in plain words.
use Rattle.claims.proofs.Calls.{host_answered, host_demands, host_struct}
use Rattle.claims.proofs.AsFile.{as_file}
use Rattle.claims.proofs.sheets.claimed_host_sheets.Goals as goal

pub returns : goal.returns
returns c =
    let k = c.miguepo_price_sheets.ensures.hosts in
    record { same_slices = c.miguepo_price_sheets.ensures.same_slices; demands = host_demands _ _ _ _ _ _ _ _ _ _ k; priced_as_file = as_file _ _ _ _ _ _ (host_answered _ _ _ _ _ _ _ _ _ _ k); result_struct = host_struct _ _ _ _ _ _ _ _ _ _ k }
