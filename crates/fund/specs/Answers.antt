-- Files and lengths of the five slices with the whole answer: number and place, the part that is handed back, the figures and every lent cell, of funds that are
-- accepted and refused. Then lengths that are short, and starts of a lambda.
use Rattle.std.specs.Prelude.{List, [], ◌∷◌, ◌++◌, ℕ, ℤ, pos, negsuc, Ok}
use Prim.Native.String.{String}
use Rattle.fund.specs.Verdict.{refused_at}
use Rattle.fund.specs.declared.Refusal.{Refusal}
use Rattle.fund.specs.declared.Refusal.TheVariants.{Form, Range, Edition, Deductible, Unmatched, Half, Load, Order, Short, Wide}
use Rattle.fund.specs.Base.{bytes}
use Rattle.fund.specs.Refusals.{Lengths}
use Rattle.fund.specs.Answer.{Part, empty, Answer}
use Rattle.fund.specs.Starred.{text, file, one_member}

pub record AnswerRow : Type 0 where
  pub file : List ℕ
  pub lengths : Lengths
  pub answer : Answer

abbrev pub five : ℕ → ℕ → ℕ → ℕ → ℕ → Lengths
five d h f r s = record { D = d; H = h; f = f; R = r; F = s }

-- The first fund, with the cells behind its horizon.
abbrev pub first_answer : Lengths → List ℤ → List ℕ → AnswerRow
first_answer lengths beyond bounds =
    record {
      file = file "horizon=2" "order=3" "deductible=2" one_member;
      lengths = lengths;
      answer =
          record {
            verdict = (Ok tt);
            part = empty;
            figures = record { truncation = 42866942; mean = 100000000000; premium = pos 0; within = 171467773; gross = 1 };
            D = pos 0 ∷ pos 111111111111 ∷ negsuc 12345679011 ∷ beyond;
            H = 0 ∷ 1 ∷ 2 ∷ bounds;
            f = pos 900000000000 ∷ pos 100000000000 ∷ pos 0 ∷ beyond;
            R = 1 ∷ 3 ∷ 4 ∷ bounds;
            F = pos 900000000000 ∷ pos 1000000000000 ∷ pos 1000000000000 ∷ beyond;
          };
    }

-- A refusal with zeros: so many that their number tells each slice from the others.
abbrev pub zeros : List ℕ → Refusal → ℕ → Part → AnswerRow
zeros bytes why place part =
    record {
      file = bytes;
      lengths = five 1 2 3 4 5;
      answer =
          record {
            verdict = refused_at why place;
            part = part;
            figures = record { truncation = 0; mean = 0; premium = pos 0; within = 0; gross = 0 };
            D = pos 0 ∷ [];
            H = 0 ∷ 0 ∷ [];
            f = pos 0 ∷ pos 0 ∷ pos 0 ∷ [];
            R = 0 ∷ 0 ∷ 0 ∷ 0 ∷ [];
            F = pos 0 ∷ pos 0 ∷ pos 0 ∷ pos 0 ∷ pos 0 ∷ [];
          };
    }

-- A fund with horizon 0 or more, whose slices are of 1 to 5 cells.
abbrev pub short_at : String → AnswerRow
short_at horizon = zeros (file horizon "order=3" "deductible=1" one_member) Short 0 empty

abbrev pub behind_header : List String → List ℕ
behind_header rows = file "horizon=0" "order=3" "deductible=1" rows

unfoldable pub answers : List AnswerRow
answers =
    -- Slices of just X + 1 cells, and longer ones: zeros beyond X.
    first_answer (five 3 3 3 3 3) [] []
    ∷ first_answer (five 5 5 5 5 5) (pos 0 ∷ pos 0 ∷ []) (0 ∷ 0 ∷ [])
    -- One slice of X cells, whichever, is short: that of D with X = 1.
    ∷ short_at "horizon=1"
    -- A line's refusal hands back that line: bytes after `end=`, with a line feed and without; a number outside its limits; 5, which comes before an earlier line's
    -- 6; and 6.
    ∷ zeros (behind_header ("rate=40,100000,0" ∷ "member=40,1,1,0,1" ∷ "end=1" ∷ "more" ∷ [])) Form 11 (record { start = 126; size = 4 })
    ∷ zeros (behind_header ("rate=40,100000,0" ∷ "member=40,1,1,0,1" ∷ "end=1" ∷ []) ++ bytes "x") Form 11 (record { start = 126; size = 1 })
    ∷ zeros (behind_header ("rate=40,100000,0" ∷ "member=40,3,1,0,1" ∷ "end=1" ∷ [])) Range 9 (record { start = 102; size = 17 })
    ∷ zeros (behind_header ("rate=40,500000,0" ∷ "member=40,1,1,0,1" ∷ "member=39,1,1,0,1" ∷ "end=2" ∷ [])) Unmatched 10 (record { start = 120; size = 17 })
    ∷ zeros (behind_header ("rate=40,500000,0" ∷ "member=40,1,1,0,1" ∷ "end=1" ∷ [])) Half 9 (record { start = 102; size = 17 })
    -- No line: a missing one, and the refusals whose place is 0.
    ∷ zeros (behind_header ("rate=40,100000,0" ∷ "member=40,1,1,0,1" ∷ [])) Form 10 empty
    ∷ zeros (text ("rates=2030" ∷ "members=2031" ∷ "horizon=0" ∷ "order=3" ∷ "frequency=1000,1000" ∷ "deductible=0" ∷ "worth=100" ∷ "end=0" ∷ [])) Edition 0 empty
    ∷ zeros (file "horizon=0" "order=3" "deductible=2" one_member) Deductible 0 empty
    ∷ zeros (behind_header ("rate=40,1000000,0" ∷ "member=40,2,1,0,9" ∷ "end=1" ∷ [])) Load 0 empty
    ∷ zeros (file "horizon=0" "order=2" "deductible=1" one_member) Order 0 empty
    -- 10 hands back no line, though its place could be one.
    ∷ record {
      file = file "horizon=6" "order=3" "deductible=2" ("rate=40,1000000,0" ∷ "member=40,2,1,0,8" ∷ "end=1" ∷ []);
      lengths = five 7 7 7 7 7;
      answer =
          record {
            verdict = refused_at Wide 6;
            part = empty;
            figures = record { truncation = 0; mean = 0; premium = pos 0; within = 0; gross = 0 };
            D = pos 0 ∷ pos 0 ∷ pos 0 ∷ pos 0 ∷ pos 0 ∷ pos 0 ∷ pos 0 ∷ [];
            H = 0 ∷ 0 ∷ 0 ∷ 0 ∷ 0 ∷ 0 ∷ 0 ∷ [];
            f = pos 0 ∷ pos 0 ∷ pos 0 ∷ pos 0 ∷ pos 0 ∷ pos 0 ∷ pos 0 ∷ [];
            R = 0 ∷ 0 ∷ 0 ∷ 0 ∷ 0 ∷ 0 ∷ 0 ∷ [];
            F = pos 0 ∷ pos 0 ∷ pos 0 ∷ pos 0 ∷ pos 0 ∷ pos 0 ∷ pos 0 ∷ [];
          };
    }
    ∷ []

-- The lengths that are short of a horizon of 2, slice by slice, and the shortest that are not.
pub record ShortRow : Type 0 where
  pub lengths : Lengths
  pub number : ℕ

unfoldable pub shorts : List ShortRow
shorts =
    record { lengths = five 3 3 3 3 3; number = 0 }
    ∷ record { lengths = five 2 3 3 3 3; number = 9 }
    ∷ record { lengths = five 3 2 3 3 3; number = 9 }
    ∷ record { lengths = five 3 3 2 3 3; number = 9 }
    ∷ record { lengths = five 3 3 3 2 3; number = 9 }
    ∷ record { lengths = five 3 3 3 3 2; number = 9 }
    ∷ []

-- The alternating sum and the sum of its bounds, for a lambda: the largest of a fund, whose t(63) is 0, and 10^14, whose is not.
pub record StartRow : Type 0 where
  pub lambda : ℕ
  pub start : ℤ
  pub bound : ℕ

unfoldable pub starts : List StartRow
starts =
    record { lambda = 8000000000000; start = pos 335462628; bound = 691 }
    ∷ record {
      lambda = 100000000000000;
      start = negsuc 308701766588231943315804754800380535667034216802275;
      bound = 13368227154426655636981793038052226541;
    }
    ∷ []
