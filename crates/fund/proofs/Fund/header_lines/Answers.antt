-- `fund::Fund::header_lines`: the list is counted.
use Rattle.std.proofs.Common.{refl}
use Rattle.fund.specs.Reading.{header_lines}
use Rattle.fund.proofs.Fund.header_lines.Goals as goal

pub returns : goal.returns
unfolding header_lines
returns c = refl
