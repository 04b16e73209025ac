-- `lines::header::all_within`: each number is in the one range.
use Rattle.std.proofs.Common.{◌∙◌, rules}
use borrow.Author.Tests.{tests}
use Rattle.std.proofs.lemmas.Iterator.{YieldsList-from_slice}
use Rattle.std.proofs.lemmas.Iterator.Search.{all_from_yields_List}
use Rattle.fund.specs.Reading.{between}
use Rattle.lines.proofs.Headers.{all_in_ranges}
use Rattle.lines.proofs.header.all_within.Goals as goal

pub returns : goal.returns
returns c =
    let a = c.args in
    all_from_yields_List (between a.least a.most) _ _ _ c.all.ensures.ran (YieldsList-from_slice a.numbers.now cc) (λ x b q k. search (rules, tests))
    ∙ all_in_ranges a.least a.most a.numbers.now
