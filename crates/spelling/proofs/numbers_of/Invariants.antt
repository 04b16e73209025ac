-- `spelling::numbers_of`: the numbers of the text are the k that are read and just as many as are left, of the fields that are left.
use Rattle.std.proofs.Common.{◌≡◌, ◌-◌, length, take, drop, replicate}
use Rattle.fund.specs.Spelling.{numbers}
use Rattle.spelling.proofs.Fields.{fields_left, collected}
use Rattle.spelling.proofs.numbers_of.Given as goal

abbrev pub invariant-loop-k : goal.invariant-loop-k
invariant-loop-k l =
    (length l.values ≡ 5) × (numbers l.count l.text ≡ collected (take l.k l.values) (l.count - l.k) (fields_left l.fields)) × (drop l.count l.values ≡ drop l.count (replicate 5 0))
