-- `spelling::find`: the bytes before the first b from `from` on are those passed and those before it from i on.
use Rattle.std.proofs.Common.{◌≡◌, ◌+◌, ◌≤◌, length, drop, max}
use Rattle.spelling.specs.Text.{before}
use Rattle.spelling.proofs.find.Given as goal

abbrev pub invariant-loop-i : goal.invariant-loop-i
invariant-loop-i l = (l.i ≤ max l.from (length l.s)) × (l.from + before l.b (drop l.from l.s) ≡ l.i + before l.b (drop l.i l.s))
