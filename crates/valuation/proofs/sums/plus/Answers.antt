-- The sum is the number itself: sizes up to 2^62 fit.
use Rattle.widths.specs.Signed.{added}
use Rattle.valuation.proofs.sums.plus.Goals as goal

pub overflow_add-result : goal.overflow_add-result
overflow_add-result c = (added c.args.sum c.args.f c.requires).fits

pub returns : goal.returns
returns c = (added c.args.sum c.args.f c.requires).is
