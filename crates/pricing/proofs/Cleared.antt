-- Slices that are cleared are those of a refusal.
use Rattle.std.specs.Prelude.{◌≡◌, refl, List, [], ℕ, Ok, Err}
use Rattle.std.proofs.Common.{sym}
use Rattle.fund.specs.declared.Cells.{Cells}
use Rattle.fund.specs.declared.Refused.{Refused}
use Rattle.fund.specs.Answer.{Part, Answer, empty, no_figures, part, refused}
use Rattle.fund.specs.Cells.{Zeros}
use Rattle.fund.specs.Refusals.{Lengths}
use Rattle.laws.specs.Answer.{no_line_lem}
use Rattle.valuation.specs.Valued.{left_valued}

abbrev pub with_part : Refused → Part → Cells → Answer
with_part e p c =
    record { verdict = Err e; part = p; figures = no_figures; D = c.transform.now; H = c.h.now; f = c.f.now; R = c.r.now; F = c.sums.now }

pub with_line : (e f : Refused) (p q : Part) (c : Cells) → e ≡ f → p ≡ q → with_part e p c ≡ with_part f q c
with_line e f p q c k l = rw (k, l) refl

pub cleared : (text : List ℕ) (n : Lengths) (e : Refused) (p : Part) (c : Cells) → p ≡ part text (Err e) → Zeros n c → with_part e p c ≡ refused text n (Err e)
unfolding refused
cleared text n e p c k z = rw (k, z.D, z.H, z.f, z.R, z.F) refl

pub cleared_rows : (n : Lengths) (e : Refused) (c : Cells) → Zeros n c → left_valued (Err e) c ≡ refused [] n (Err e)
cleared_rows n e c z = cleared [] n e empty c (sym (no_line_lem (Err e))) z

-- Without a refusal too.
pub cleared_figures : (n : Lengths) (c : Cells) → Zeros n c → left_valued (Ok no_figures) c ≡ refused [] n (Ok tt)
unfolding refused part
cleared_figures n c z = rw (z.D, z.H, z.f, z.R, z.F) refl
