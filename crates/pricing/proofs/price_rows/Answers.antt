-- A fund that is valued is told with the answer at the level, one that is refused with its line (cited, so that what breaks it is refused at a fact).
use Rattle.std.specs.Prelude.{refl}
use Rattle.std.proofs.Common.{sym, ◌∙◌, ap, arith}
use Rattle.fund.specs.Answer.{part}
use Rattle.valuation.specs.Valued.{left_valued}
use Rattle.pricing.specs.Priced.{lined}
use Rattle.pricing.proofs.Cleared.{with_line}
use Rattle.pricing.proofs.price_rows.Goals as goal

pub returns-in-Ok-clause-prices : goal.returns-in-Ok-clause-prices
unfolding part
returns-in-Ok-clause-prices c =
    let text = c.args.text.now in
    let q = c.quantile_in-quantile.ensures in
    record {
      answer = rw (q.same) (ap (λ v. lined text (left_valued v c.valued.new.cells)) (sym c.in-Ok.is) ∙ ap (lined text) c.valued.ensures.left);
      horizon = refl;
      quantile = rw (q.same) q.answer;
      ordered = omega arith;
      inside = omega arith;
    }

pub returns-in-Err-clause-prices : goal.returns-in-Err-clause-prices
returns-in-Err-clause-prices c =
    let text = c.args.text.now in
    let left = c.valued.new.cells in
    let e = c.not_priced.ensures in
    record {
      answer =
          with_line _ _ _ _ left e.refused e.line
          ∙ ap (λ v. lined text (left_valued v left)) (sym c.in-Err.is)
          ∙ ap (lined text) c.valued.ensures.left;
      horizon = refl;
      quantile = refl;
      ordered = e.inside.0;
      inside = e.inside.1;
    }
