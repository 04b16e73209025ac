-- The contract of the call on what was read, in plain words.
use Rattle.std.specs.Prelude.{refl}
use Rattle.pricing.proofs.PricedRead.{prices_read}
use Rattle.claims.proofs.Calls.{price_demands}
use Rattle.claims.proofs.claimed_price_read.Goals as goal

pub returns : goal.returns
returns c =
    let p = c.price_read in
    record { same_slices = p.ensures.same_slices; demands = λ ok. price_demands _ _ _ _ p.result p.new.cells (prices_read _ _ _ _ p.result p.new.cells p.ensures.prices _ refl ok) }
