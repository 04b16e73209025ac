-- What the call that compares two fund files hands to a host in C.
use Rattle.std.specs.Prelude.{◌≡◌, List, [], ◌∷◌, ℕ, ℤ, Option, Some, None, unwrap_or}
use Rattle.fund.specs.declared.Cells.{Cells}
use Rattle.fund.specs.Reading.{FundFile, read, reading}
use Rattle.fund.specs.Refusals.{Lengths}
use Rattle.fund.specs.Answer.{answer_to}
use Rattle.moves.specs.declared.Move.{Move}
use Rattle.moves.specs.declared.files.MemberLine.{MemberLine}
use Rattle.moves.specs.declared.files.Differences.{Differences}
use Rattle.comparison.specs.declared.Comparison.{Comparison}
use Rattle.comparison.specs.Comparison.{compared}
use Rattle.comparison.specs.Exact.{ExactMove, RatesAlone}
use Rattle.miguepo.specs.Bits.{bits_of, read_signed}
use Rattle.miguepo.specs.Host.{Hosts}

-- A member line that differs; of none, zeros.
abbrev pub member_fields : Option MemberLine → MemberLine
member_fields m = unwrap_or m (record { member = 0; old_line = 0; new_line = 0 })

-- The fields of the struct of a comparison, in their order, where there is a move.
abbrev pub moved_fields : Move → Differences → List ℕ
moved_fields v d =
    1
    ∷ bits_of v.premium
    ∷ v.arithmetic
    ∷ bits_of v.least
    ∷ bits_of v.most
    ∷ bits_of v.gross
    ∷ bits_of v.gross_least
    ∷ bits_of v.gross_most
    ∷ unwrap_or d.header 0
    ∷ (member_fields d.member).member
    ∷ (member_fields d.member).old_line
    ∷ (member_fields d.member).new_line
    ∷ []

-- Where a fund is refused, every field is 0.
abbrev pub comparison_fields : Option Comparison → List ℕ
comparison_fields (Some t) = moved_fields t.moved t.differences
comparison_fields None = 0 ∷ 0 ∷ 0 ∷ 0 ∷ 0 ∷ 0 ∷ 0 ∷ 0 ∷ 0 ∷ 0 ∷ 0 ∷ 0 ∷ []

-- C reads each signed field of a move from its bits.
pub record SignedFields (v : Move) : Type 0 where
  pub premium : read_signed (bits_of v.premium) ≡ v.premium
  pub least : read_signed (bits_of v.least) ≡ v.least
  pub most : read_signed (bits_of v.most) ≡ v.most
  pub gross : read_signed (bits_of v.gross) ≡ v.gross
  pub gross_least : read_signed (bits_of v.gross_least) ≡ v.gross_least
  pub gross_most : read_signed (bits_of v.gross_most) ≡ v.gross_most

abbrev pub ReadBack : Option Comparison → Type 0
ReadBack c = (t : Comparison) → c ≡ Some t → SignedFields t.moved

-- What a host holds of one fund after the call: the struct's fields and the five slices.
pub record Handed : Type 0 where
  pub result : List ℕ
  pub D : List ℤ
  pub H : List ℕ
  pub f : List ℤ
  pub R : List ℕ
  pub F : List ℤ

abbrev pub handed : List ℕ → List ℤ → List ℕ → List ℤ → List ℕ → List ℤ → Handed
handed result D H f R F = record { result = result; D = D; H = H; f = f; R = R; F = F }

abbrev pub handed_cells : List ℕ → Cells → Handed
handed_cells result c = handed result c.transform.now c.h.now c.f.now c.r.now c.sums.now

-- The comparison of the two files' answers, by the definitions.
abbrev pub comparison_of : List ℕ → Lengths → List ℕ → Lengths → Option Comparison
comparison_of old n new m = compared (reading old) (answer_to old n (reading old)) (reading new) (answer_to new m (reading new))

-- Each fund is handed over as by the pricing call. The comparison's fields are the definition's, and C reads each signed one from its bits. Where it is a move, the
-- exact move is within the bounds of it; and where no header line but the editions' and no member line differs, the exact move is that of the rates alone.
pub record HostsComparison (old new : List ℕ) (level : ℕ) (n m : Lengths) (a b : Handed) (comparison : List ℕ) : Type 0 where
  pub old_hosted : Hosts old (reading old) level n a.result a.D a.H a.f a.R a.F
  pub new_hosted : Hosts new (reading new) level m b.result b.D b.H b.f b.R b.F
  pub comparison_is : comparison ≡ comparison_fields (comparison_of old n new m)
  pub read_back : ReadBack (comparison_of old n new m)
  pub exact : (f g : FundFile) → reading old ≡ read f → reading new ≡ read g → (t : Comparison) → comparison_of old n new m ≡ Some t → ExactMove f g t.moved
  pub rates : (f g : FundFile) → reading old ≡ read f → reading new ≡ read g → (t : Comparison) → comparison_of old n new m ≡ Some t →
      t.differences.header ≡ None → t.differences.member ≡ None → RatesAlone f g t.moved
