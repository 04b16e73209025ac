-- `times` meets its contract: the factors are within the bounds at which the rounded product is exact.
use mathlib.Core.Path.{◌≡◌, ap, ◌∙◌}
use Prim.Native.Nat.{◌-◌, ◌*◌, ◌^◌}
use native.Mathlib.Omega.{arith}
use Rattle.rounding.specs.Rounding.{near}
use Rattle.rounding.specs.Word.{word}
use Rattle.rounding.proofs.Word.{near_rounds, per_million_is}
use Rattle.fund.specs.Folding.{stay}
use Rattle.fund.specs.Limits.{most_rate}
use Rattle.totals.proofs.product.times.Goals as goal

pub returns : goal.returns
returns c =
    let a = c.args in
    let p = c.requires in
    let e : most_rate - a.m.q - a.m.i ≡ stay a.m = omega arith in
    c.nearest_per_million.ensures ∙ ap (λ k. word (near (a.size * k) (10 ^ 6))) e ∙ per_million_is near_rounds a.size (stay a.m) (omega (arith, p)) (omega arith)
