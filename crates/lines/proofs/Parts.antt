-- Laws of the part that is handed back: it spans the line of a refusal that names one, and else nothing.
use Rattle.std.proofs.Common.{◌≡◌, ℕ, ◌+◌, ◌-◌, ◌≤◌, true, false, List, Ok, Err, length, sym, ap, ◌∙◌, subst, arith}
use Rattle.fund.specs.declared.Refused.{Refused}
use Rattle.fund.specs.Verdict.{Verdict}
use Rattle.fund.specs.Lines.{Line as FundLine}
use Rattle.fund.specs.Answer.{Part as FundPart, empty, names_line, line_at, part}
use Rattle.lines.specs.Part.{Spans}
use Rattle.lines.proofs.Lines.{part_in}

module _ (file : List ℕ) where
  pub spans_none : (is : FundPart) → empty ≡ is → Spans file is 0 0
  spans_none is e = record { ordered = omega arith; inside = omega arith; same = e }

  pub spans_there : (l : FundLine) (is : FundPart) → l.start + length l.text ≤ length file → part_in l ≡ is → Spans file is l.start (l.start + length l.text)
  spans_there l is h e =
      let z : l.start + length l.text - l.start ≡ length l.text = omega arith in
      record { ordered = omega arith; inside = h; same = ap (λ n. record { start = l.start; size = n }) z ∙ e }

  module _ (v : Verdict) where
    pub spans_accepted : {u : Unit {0}} → v ≡ Ok u → Spans file (part file v) 0 0
    unfolding part
    spans_accepted e = spans_none (part file v) (sym (ap (part file) e))

    module _ (stop : Refused) (e : v ≡ Err stop) where
      pub spans_line : {start end : ℕ} → names_line stop.why ≡ true → Spans file (line_at file stop.place) start end → Spans file (part file v) start end
      unfolding part
      spans_line {start} {end} named s = subst (λ (is : FundPart). Spans file is start end) (sym (ap (part file) e ∙ rw named)) s

      pub spans_no_line : names_line stop.why ≡ false → Spans file (part file v) 0 0
      unfolding part
      spans_no_line unnamed = spans_none (part file v) (sym (ap (part file) e ∙ rw unnamed))
