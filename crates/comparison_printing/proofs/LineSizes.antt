-- How long the lines can be: a word with its point has at most 21 bytes, a number without a point at most 20.
use Prim.Native.Nat.{ℕ, ◌+◌, ◌*◌, ◌≤◌, ◌<◌, ◌^◌}
use mathlib.Core.Bool.{Bool, true, false}
use mathlib.Core.List.{List}
use native.Mathlib.Omega.{arith}
use lib.IntN.{ℤ}
use lib.ListN.{length, length-append}
use mir.Syntax.{w64}
use mir.Val.{SFits}
use Rattle.fund.specs.declared.Figures.{Figures}
use Rattle.std.specs.Prelude.{Option, None, Some, IfSome}
use Rattle.fund.specs.Base.{bytes}
use Rattle.fund.specs.Listing.{joined}
use Rattle.writing.proofs.NumberSizes.{decimal_word, pointed_word_2, pointed_word_12, signed_pointed_word_2, signed_pointed_word_12}
use Rattle.moves.specs.declared.Move.{Move}
use Rattle.moves.specs.declared.files.MemberLine.{MemberLine}
use Rattle.comparison_printing.specs.Lines.{pointed_line, signed_line, interval_line, figure_lines, other_header, other_member, interval_lines}

pub units_size : (key : List ℕ) (n : ℕ) → n < 2 ^ 64 → length (pointed_line key 12 n) ≤ length key + 22
unfolding pointed_line joined
units_size key n h = simp length-append (omega (arith, pointed_word_12 n h))

pub centimes_size : (key : List ℕ) (n : ℕ) → n < 2 ^ 64 → length (pointed_line key 2 n) ≤ length key + 22
unfolding pointed_line joined
centimes_size key n h = simp length-append (omega (arith, pointed_word_2 n h))

pub signed_units_size : (key : List ℕ) (z : ℤ) → SFits w64 z → length (signed_line key 12 z) ≤ length key + 22
unfolding signed_line joined
signed_units_size key z h = simp length-append (omega (arith, signed_pointed_word_12 z h))

pub signed_centimes_size : (key : List ℕ) (z : ℤ) → SFits w64 z → length (signed_line key 2 z) ≤ length key + 22
unfolding signed_line joined
signed_centimes_size key z h = simp length-append (omega (arith, signed_pointed_word_2 z h))

pub units_interval_size : (key : List ℕ) (y z : ℤ) → SFits w64 y → SFits w64 z → length (interval_line key 12 y z) ≤ length key + 44
unfolding interval_line joined
units_interval_size key y z h k = simp length-append (omega (arith, signed_pointed_word_12 y h, signed_pointed_word_12 z k))

pub centimes_interval_size : (key : List ℕ) (y z : ℤ) → SFits w64 y → SFits w64 z → length (interval_line key 2 y z) ≤ length key + 44
unfolding interval_line joined
centimes_interval_size key y z h k = simp length-append (omega (arith, signed_pointed_word_2 y h, signed_pointed_word_2 z k))

pub figures_size : (name : List ℕ) (a : Figures) → SFits w64 a.premium → a.within < 2 ^ 64 → a.gross < 2 ^ 64 → length (figure_lines name a) ≤ 3 * length name + 87
unfolding figure_lines bytes
figures_size name a h g k =
    simp length-append (omega (arith, signed_units_size (bytes "premium=") a.premium h, units_size (bytes "within=") a.within g, centimes_size (bytes "gross=") a.gross k))

pub intervals_size : (rates : Bool) (m : Move) → SFits w64 m.least → SFits w64 m.most → SFits w64 m.gross → SFits w64 m.gross_least → SFits w64 m.gross_most → length (interval_lines rates m) ≤ 139
unfolding interval_lines bytes
intervals_size true m h k g l t =
    simp length-append (omega (arith, units_interval_size (bytes "rates=") m.least m.most h k, signed_centimes_size (bytes "gross-move=") m.gross g, centimes_interval_size (bytes "gross-rates=") m.gross_least m.gross_most l t))
intervals_size false m h k g l t =
    simp length-append (omega (arith, units_interval_size (bytes "exact=") m.least m.most h k, signed_centimes_size (bytes "gross-move=") m.gross g, centimes_interval_size (bytes "gross-exact=") m.gross_least m.gross_most l t))

pub header_size : (header : Option ℕ) → IfSome header (λ n. n < 2 ^ 64) → length (other_header header) ≤ 34
unfolding other_header joined bytes
header_size None h = omega arith
header_size (Some n) h = simp length-append (omega (arith, decimal_word n h))

pub member_size : (member : Option MemberLine) → IfSome member (λ l. (l.member < 2 ^ 64) × (l.old_line < 2 ^ 64) × (l.new_line < 2 ^ 64)) → length (other_member member) ≤ 76
unfolding other_member joined bytes
member_size None h = omega arith
member_size (Some l) h = simp length-append (omega (arith, decimal_word l.member h.0, decimal_word l.old_line h.1, decimal_word l.new_line h.2))
