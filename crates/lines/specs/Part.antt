-- The part of a file's bytes that goes with a verdict.
use Rattle.std.specs.Prelude.{◌≡◌, List, ℕ, ◌-◌, ◌≤◌, length}
use Rattle.fund.specs.Answer.{Part as FundPart}

-- From start to end, inside the file: the given part.
pub record Spans (file : List ℕ) (is : FundPart) (start end : ℕ) : Type 0 where
  pub ordered : start ≤ end
  pub inside : end ≤ length file
  pub same : record { start = start; size = end - start } ≡ is
