-- The product fits a word, and what is added before the division rounds it up.
use mathlib.Core.Path.{sym}
use Prim.Native.Nat.{◌*◌}
use Rattle.rounding.proofs.Rest.{up_raised}
use Rattle.recursion.proofs.products.product_up.Goals as goal

pub returns : goal.returns
returns c = sym (up_raised (c.args.a * c.args.b))
