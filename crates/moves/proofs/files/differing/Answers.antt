-- The first header line and the first member line.
use Rattle.moves.specs.Differences.{differences, file_in}
use Rattle.moves.proofs.files.differing.Goals as goal

pub returns : goal.returns
unfolding differences file_in
returns c = λ i. record { header = c.first_header_line.ensures i; member = c.first_member.ensures i }
