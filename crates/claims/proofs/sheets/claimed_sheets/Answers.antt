-- The contract of the pricing call on sheets, in plain words.
use Rattle.claims.proofs.Calls.{price_answered, price_demands}
use Rattle.claims.proofs.AsFile.{as_file}
use Rattle.claims.proofs.sheets.claimed_sheets.Goals as goal

pub returns : goal.returns
returns c =
    let p = c.price_sheets in
    let k = p.ensures.prices in
    record { same_slices = p.ensures.same_slices; demands = price_demands _ _ _ _ p.result p.new.cells k; priced_as_file = as_file _ _ _ _ _ _ (price_answered _ _ _ _ p.result p.new.cells k) }
