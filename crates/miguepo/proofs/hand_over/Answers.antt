-- What is handed over of a refusal has its number, its place and its line, and zeros.
use Rattle.std.specs.Prelude.{refl}
use Rattle.miguepo.specs.Bits.{bits_of, read_signed}
use Rattle.miguepo.proofs.hand_over.Goals as goal

pub returns-in-Err : goal.returns-in-Err
unfolding bits_of read_signed
returns-in-Err c = rw c.in-Err.is (rw c.no_figures.ensures at c.fields-in-Err.ensures.fields, refl)
