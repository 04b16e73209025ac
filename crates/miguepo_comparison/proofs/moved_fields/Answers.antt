-- `miguepo_comparison::moved_fields`: each field is the move's or the differences', and the signed ones are words, which C reads from their bits.
use mathlib.Core.Path.{◌≡◌, refl, ◌∙◌, ap}
use Prim.Native.Nat.{ℕ}
use lib.IntN.{ℤ}
use borrow.Author.Rules.{rules}
use mir.Syntax.{w64}
use mir.Val.{SFits, to_z, of_z}
use mir.Facts.{to_z-of_z}
use Rattle.moves.specs.declared.Move.{Move}
use Rattle.miguepo.specs.Bits.{bits_of}
use Rattle.miguepo.proofs.Complement.{bits_read}
use Rattle.miguepo_comparison.proofs.moved_fields.Goals as goal

record Words (v : Move) : Type 0 where
  premium : SFits w64 v.premium
  least : SFits w64 v.least
  most : SFits w64 v.most
  gross : SFits w64 v.gross
  gross_least : SFits w64 v.gross_least
  gross_most : SFits w64 v.gross_most

bits_of_lem : {z : ℤ} {n : ℕ} → SFits w64 z → n ≡ bits_of (to_z w64 (of_z w64 z)) → n ≡ bits_of z
bits_of_lem fits e = e ∙ ap bits_of (to_z-of_z fits)

pub returns : goal.returns
returns c =
    let w : Words c.args.m = record {
      premium = search rules;
      least = search rules;
      most = search rules;
      gross = search rules;
      gross_least = search rules;
      gross_most = search rules;
    } in (
      rw (
        bits_of_lem w.premium c.bits-premium.ensures,
        bits_of_lem w.least c.bits-least.ensures,
        bits_of_lem w.most c.bits-most.ensures,
        bits_of_lem w.gross c.bits-gross.ensures,
        bits_of_lem w.gross_least c.bits-gross_least.ensures,
        bits_of_lem w.gross_most c.bits-gross_most.ensures,
        c.unwrap_or-header.ensures,
        c.member_fields-line.ensures,
      ) refl,
      record {
        premium = bits_read _ w.premium;
        least = bits_read _ w.least;
        most = bits_read _ w.most;
        gross = bits_read _ w.gross;
        gross_least = bits_read _ w.gross_least;
        gross_most = bits_read _ w.gross_most;
      },
    )
