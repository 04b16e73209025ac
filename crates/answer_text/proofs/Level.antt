-- What `level_line` writes where there is room, and where there is not.
use mathlib.Core.Path.{◌≡◌, ap}
use mathlib.Core.List.{[]}
use Prim.Native.Nat.{ℕ, ◌≤◌, ◌<◌}
use borrow.Author.Tests.{le-leb, lt-leb}
use Rattle.fund.specs.Verdict.{Verdict}
use Rattle.std.specs.Prelude.{Option, if◌then◌else◌}
use Rattle.answer_text.specs.Level.{answer_line, level_room, level_line_of}

module _ (verdict : Verdict) (quantile : Option ℕ) (size : ℕ) where
  pub level_short : size < level_room → level_line_of verdict quantile size ≡ []
  unfolding level_line_of
  level_short h = ap (λ b. if b then answer_line verdict quantile else []) (lt-leb level_room size h)

  pub level_enough : level_room ≤ size → level_line_of verdict quantile size ≡ answer_line verdict quantile
  unfolding level_line_of
  level_enough h = ap (λ b. if b then answer_line verdict quantile else []) (le-leb level_room size h)
