-- The contract of the pricing call, in plain words.
use Rattle.claims.proofs.Calls.{price_answered, price_demands}
use Rattle.claims.proofs.AsWrittenOut.{as_written_out}
use Rattle.claims.proofs.claimed_price.Goals as goal

pub returns : goal.returns
returns c =
    let p = c.price in
    let k = p.ensures.prices in
    record { same_slices = p.ensures.same_slices; demands = price_demands _ _ _ _ p.result p.new.cells k; priced_written_out = as_written_out _ _ _ _ (price_answered _ _ _ _ p.result p.new.cells k) }
