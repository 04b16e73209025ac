-- `cells::number::whole_part`: by the three ranges of the exponent's field.
use Rattle.sheet_cells.specs.Part.{part_none, part_some, part_most}
use Rattle.sheet_cells.proofs.number.whole_part.Goals as goal

pub returns-then-exponent-lt1023 : goal.returns-then-exponent-lt1023
returns-then-exponent-lt1023 c = part_none c.args.bits c.if-exponent-lt1023.true

pub returns-then-exponent-gt1075 : goal.returns-then-exponent-gt1075
returns-then-exponent-gt1075 c = part_most c.args.bits c.if-exponent-gt1075.true

pub returns : goal.returns
returns c = part_some c.args.bits c.if-exponent-lt1023.false c.if-exponent-gt1075.false
