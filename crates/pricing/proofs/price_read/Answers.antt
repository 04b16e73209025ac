-- Where reading stopped, so does the call, and all cells are zero.
use Rattle.std.specs.Prelude.{refl}
use Rattle.std.proofs.Common.{sym, ◌∙◌, ap}
use Rattle.fund.specs.Cells.{lengths}
use Rattle.pricing.specs.Priced.{read_answer}
use Rattle.pricing.proofs.Cleared.{cleared}
use Rattle.pricing.proofs.price_read.Goals as goal

pub returns-in-Err-clause-prices : goal.returns-in-Err-clause-prices
returns-in-Err-clause-prices c =
    let a = c.args in
    let n = lengths a.cells.now in
    let e = c.not_priced.ensures in
    record {
      answer = rw (e.refused) (cleared a.text.now n c.in-Err.refused _ c.clear.new.self e.line c.clear.ensures.zeros) ∙ ap (λ f. read_answer a.text.now f n) (sym c.in-Err.is);
      horizon = refl;
      quantile = refl;
      ordered = e.inside.0;
      inside = e.inside.1;
    }
