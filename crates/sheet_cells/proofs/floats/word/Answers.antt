-- `sheet_cells::floats::word`: the number of eight bytes is that of the library's conversion.
use Rattle.std.proofs.Common.{◌∙◌}
use Rattle.sheet_cells.specs.Bytes.{eight}
use Rattle.sheet_cells.proofs.floats.word.Goals as goal

pub returns : goal.returns
returns c = c.from_le_bytes.ensures ∙ eight c.args.row.now c.args.at c.requires
