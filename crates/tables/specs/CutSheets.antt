-- METHOD 9 (§6): sheets of bytes whose last row is cut short.
use Rattle.std.specs.Prelude.{List, [], ◌∷◌, ◌++◌, ℕ}
use Rattle.fund.specs.Starred.{text}
use Rattle.tables.specs.SheetFunds.{oldest, one}

-- Behind the header text of the first fund: of the rates, of the members, and behind a row that is taken.
pub record SheetBytes : Type 0 where
  pub rates : List ℕ
  pub members : List ℕ
  pub listing : List ℕ

unfoldable pub cut_sheets : List SheetBytes
cut_sheets =
    record { rates = 0 ∷ []; members = []; listing = text ("refused=11,1" ∷ []) }
    ∷ record { rates = []; members = 0 ∷ []; listing = text ("refused=11,1" ∷ []) }
    ∷ record { rates = []; members = oldest one ++ (0 ∷ []); listing = text ("refused=11,2" ∷ []) }
    ∷ []
