-- What `comparison::compare` answers is handed over.
use Rattle.miguepo.proofs.HostedFields.{hosts}
use Rattle.miguepo_comparison.proofs.HostingComparison.{hosts_comparison}
use Rattle.miguepo_comparison.proofs.miguepo_compare.Goals as goal

pub returns-clause-hosts : goal.returns-clause-hosts
returns-clause-hosts c =
    let p = c.compare-compared in
    let k = p.ensures.compares in
    hosts_comparison _ _ _ _ _ p.result _ _ k _ _ _
    (hosts _ _ _ _ p.result.old p.new.old_cells k.old_priced _ c.hand_over.ensures)
    (hosts _ _ _ _ p.result.new p.new.new_cells k.new_priced _ c.hand_over-2.ensures)
    c.comparison_fields.ensures.0 c.comparison_fields.ensures.1
