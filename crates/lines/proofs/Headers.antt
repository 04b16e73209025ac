-- Laws of the header lines: each step of the definition `read_header`, at a line of a text and at its end.
use Rattle.std.proofs.Common.{◌≡◌, ℕ, suc, ◌≤◌, ◌<◌, true, false, ◌&&◌, List, [], ◌∷◌, ◌++◌, Option, Some, None, Ok, Err, length, get_or, take, replicate, refl, sym, ap, ◌∙◌, arith}
use Rattle.std.specs.Prelude.{option_map}
use Rattle.std.specs.List.{list_all}
use Rattle.std.proofs.lemmas.List.{length-replicate}
use lib.ListN.{drop_of_length-le}
use Rattle.fund.specs.declared.Refusal.TheVariants.{Form, Range}
use Rattle.fund.specs.declared.Refused.{Refused}
use Rattle.fund.specs.Lines.{Line as FundLine, lines_from, lines}
use Rattle.fund.specs.Spelling.{spelled}
use Rattle.fund.specs.Reading.{between, in_ranges, NumberRange, HeaderLine, header_lines, header_of, read_header}
use Rattle.lines.specs.Lines.{lines_at, LineTaken}
use Rattle.lines.specs.Header.{After, range, header_line, HeaderStepped, HeaderRead}

pub all_in_ranges : (least most : ℕ) (ns : List ℕ) → list_all (between least most) ns ≡ in_ranges (replicate (length ns) (range least most)) ns
unfolding in_ranges
all_in_ranges least most [] = refl
all_in_ranges least most (n ∷ ns) = ap (λ b. between least most n && b) (all_in_ranges least most ns)

module _ (text : List ℕ) (at place : ℕ) (key : List ℕ) (count : ℕ) (r : NumberRange) where
  pub step_missing : {next then : ℕ} → length text ≤ at → HeaderStepped text at place key count r (Err (record { why = Form; place = place })) next then
  unfolding read_header lines_from
  step_missing h = record { same = λ after hs ns. rw (drop_of_length-le text h); behind = tt }

  module _ (l : FundLine) (next : ℕ) (t : LineTaken text at l next) (values : Option (List ℕ)) (e : option_map (take count) values ≡ spelled key count l) where
    pub step_form : {then : ℕ} → values ≡ None → HeaderStepped text at place key count r (Err (record { why = Form; place = place })) next then
    unfolding read_header
    step_form f =
        let g : spelled key count l ≡ None = sym e ∙ ap (option_map (take count)) f in
        record { same = λ after hs ns. rw t.first (rw (length-replicate count, g, read_header)); behind = tt }

    module _ (v : List ℕ) (f : values ≡ Some v) where
      some : spelled key count l ≡ Some (take count v)
      some = sym e ∙ ap (option_map (take count)) f

      pub step_range : {then : ℕ} → in_ranges (replicate count r) (take count v) ≡ false → HeaderStepped text at place key count r (Err (record { why = Range; place = place })) next then
      unfolding read_header
      step_range g = record { same = λ after hs ns. rw t.first (rw (length-replicate count, some, read_header) (rw (g, read_header))); behind = tt }

      pub step_next : in_ranges (replicate count r) (take count v) ≡ true → HeaderStepped text at place key count r (Ok v) next (suc place)
      unfolding read_header
      step_next g = record { same = λ after hs ns. rw t.first (rw (length-replicate count, some, read_header) (rw (g, read_header))); behind = (t.inside, refl) }

-- ---- where the reading of a header stands: at these header lines of the file, after the numbers ns
pub record Left (text file : List ℕ) (hs : List HeaderLine) (ns : List ℕ) (at place : ℕ) : Type 0 where
  pub file_is : file ≡ text
  pub same : (after : After) → read_header after header_lines 1 [] (lines text) ≡ read_header after hs place ns (lines_at text at)

pub start : (text : List ℕ) → Left text text header_lines [] 0 1
unfolding lines
start text = record { file_is = refl; same = λ after. refl }

module _ {text file : List ℕ} {key : List ℕ} {count : ℕ} {r : NumberRange} {hs : List HeaderLine} {ns : List ℕ} {at place next then : ℕ} (s : Left text file (header_line key count r ∷ hs) ns at place) where
  pub stopped_at : {stop : Refused} → HeaderStepped file at place key count r (Err stop) next then → HeaderRead text (Err stop)
  stopped_at t = record { same = λ after. s.same after ∙ (rw s.file_is at t).same after hs ns; inside = tt }

  pub more_numbers : {behind : List ℕ} {v ms : List ℕ} → HeaderStepped file at place key count r (Ok v) next then → behind ≡ file → take count v ≡ ms → Left text behind hs (ns ++ ms) next then
  more_numbers t e f =
      record { file_is = e ∙ s.file_is; same = λ after. s.same after ∙ (rw s.file_is at t).same after hs ns ∙ ap (λ m. read_header after hs then (ns ++ m) (lines_at text next)) f }

pub one_number : (v : List ℕ) → 0 < length v → take 1 v ≡ get_or v 0 0 ∷ []
one_number [] h = absurd (omega arith)
one_number (n ∷ v) h = refl

pub two_numbers : (v : List ℕ) → 1 < length v → take 2 v ≡ get_or v 0 0 ∷ get_or v 1 0 ∷ []
two_numbers [] h = absurd (omega arith)
two_numbers (n ∷ []) h = absurd (omega arith)
two_numbers (n ∷ m ∷ v) h = refl

module _ {text file ns : List ℕ} {at place : ℕ} (s : Left text file [] ns at place) where
  pub whole : place ≡ suc (length header_lines) → {before : List ℕ} → file ≡ before → at ≤ length before → HeaderRead text (Ok (header_of ns, at))
  unfolding read_header
  whole e f h = record { same = λ after. s.same after ∙ ap (λ n. after n (header_of ns) (lines_at text at)) e; inside = rw (sym f ∙ s.file_is) at h }
