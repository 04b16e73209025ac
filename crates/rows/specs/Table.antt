-- What a clause sees of a table of rows: the rows in their order, and not the blank places behind them.
use Rattle.std.specs.Prelude.{List, ℕ, Option, Some, None, leb, length, if◌then◌else◌}

pub record Table (Row : Type 0) : Type 0 where
  pub items : List Row

-- The table of these rows, where it has room for them.
abbrev pub table_of : {Row : Type 0} → ℕ → List Row → Option (Table Row)
table_of room rows = if leb (length rows) room then Some (record { items = rows }) else None
