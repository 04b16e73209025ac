-- `lines::part::line_at`: k lines were passed, and the one at the place was not.
use Rattle.std.proofs.Common.{◌≡◌, ◌-◌, ◌≤◌}
use Rattle.lines.specs.Lines.{Passed}
use Rattle.lines.proofs.part.line_at.Given as goal

abbrev pub invariant-loop-k : goal.invariant-loop-k
invariant-loop-k l = (l.lines.file.now ≡ l.file) × Passed l.file l.k l.lines.at × (l.k ≤ l.place - 1)
