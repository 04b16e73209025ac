-- The bits of a word are those of the definition.
use Rattle.std.proofs.Common.{◌∙◌, ap, w64}
use mir.Val.{of_z}
use mir.Facts.{to_z-of_z}
use Rattle.miguepo.proofs.Complement.{bits_are}
use Rattle.miguepo.proofs.bits.Goals as goal

pub returns : goal.returns
returns c = c.cast_unsigned.ensures ∙ ap (of_z w64) (to_z-of_z c.ranges.z) ∙ bits_are c.args.z
