-- The bytes from start to end where they lie in the file, and none where they do not.
use Rattle.std.specs.Prelude.{refl}
use Rattle.std.proofs.Common.{◌∙◌, ap}
use Rattle.pricing.proofs.ToldAnswer.{line_got}
use Rattle.pricing.proofs.line_between.Goals as goal

pub returns : goal.returns
returns c = ap (λ x. x.now) c.unwrap_or.ensures ∙ line_got c.args.file.now c.args.start c.args.end c.get.result _ refl c.get.ensures.lookup.0
