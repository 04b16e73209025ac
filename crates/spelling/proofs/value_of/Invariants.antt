-- `spelling::value_of`: the value in the text is that of the digits from the byte on, behind what was read.
use Rattle.std.proofs.Common.{◌≡◌, ◌<◌, ◌^◌, drop}
use Rattle.spelling.specs.Text.{value_in}
use Rattle.spelling.proofs.Digits.{read_on}
use Rattle.spelling.proofs.value_of.Given as goal

abbrev pub invariant-loop-b : goal.invariant-loop-b
invariant-loop-b l = (l.value < 2 ^ 64) × (value_in l.text ≡ read_on l.value (drop l.b-index l.text))
