-- What the steps of a valuation say, from the transform to the answer. Those that see no table say it for every table of which this is known.
use Rattle.std.specs.Prelude.{◌≡◌, List, ℕ, ℤ, length, ⊤, Result, Ok}
use Rattle.fund.specs.declared.Fund.{Fund}
use Rattle.fund.specs.declared.Life.{Life}
use Rattle.fund.specs.declared.ModelPoint.{ModelPoint}
use Rattle.fund.specs.declared.Refusal.TheVariants as refusal
use Rattle.fund.specs.declared.Refused.{Refused}
use Rattle.fund.specs.Folding.{copies}
use Rattle.fund.specs.Refusals.{Lengths, valued}
use Rattle.fund.specs.Answer.{Answer, fund_cells}
use Rattle.recursion_limits.specs.declared.Broken.{Broken}
use Rattle.recursion_limits.specs.declared.Broken.TheVariants.{Short, Outside, Wide, Large}
use Rattle.recursion.specs.Recursion.{recursion}
use Rattle.recursion.specs.Recursion as Rec
use Rattle.totals.specs.declared.Totals.{Totals}
use Rattle.transform.specs.Transformed.{lengths_of, outcome, TransformedFor}

-- totals that have passed 7, 8 and 9, and the transform, of the first `count` model points of a table
abbrev pub ReadyFor : Fund → ℕ → List ModelPoint → Totals → List ℤ → List ℕ → ℕ → ℕ → ℕ → Type 0
ReadyFor fund count ps t d h nf nr ns = TransformedFor fund count ps (lengths_of d h nf nr ns) (Ok t) d h

pub record Ready (fund : Fund) (t : Totals) (d : List ℤ) (h : List ℕ) (nf nr ns : ℕ) : Type 0 where
  pub count : ℕ
  pub ps : List ModelPoint
  pub ready : ReadyFor fund count ps t d h nf nr ns

-- what the recursion left of the totals and the transform
abbrev pub RecursionLeft : Fund → Totals → Result ⊤ Broken → List ℤ → List ℕ → List ℤ → List ℕ → Type 0
RecursionLeft fund t a d h f r = Rec.left_cells a f r ≡ recursion fund.horizon d h (record { f = t.cell; R = t.bound }) (length f) (length r)

pub record RecursedFor (fund : Fund) (t : Totals) (a : Result ⊤ Broken) (d : List ℤ) (h : List ℕ) (f : List ℤ) (r : List ℕ) (ns : ℕ) : Type 0 where
  pub ready : Ready fund t d h (length f) (length r) ns
  pub left_is : RecursionLeft fund t a d h f r

abbrev pub refusal_of : Broken → Refused
refusal_of Short = record { why = refusal.Range; place = 0 }
refusal_of (Outside k) = record { why = refusal.Range; place = 0 }
refusal_of (Wide x) = record { why = refusal.Wide; place = x }
refusal_of (Large x) = record { why = refusal.Range; place = 0 }

-- the answer is that of 7 to 10
abbrev pub ValuedAnswer : Fund → List Life → Lengths → Answer → Type 0
ValuedAnswer fund ms n a = a ≡ outcome fund ms n (valued fund ms n (fund_cells fund ms))

abbrev pub SettledFor : Fund → Totals → List ℤ → List ℕ → List ℤ → List ℕ → ℕ → Answer → Type 0
SettledFor fund t d h f r ns a =
    (count : ℕ) (ps : List ModelPoint) → ReadyFor fund count ps t d h (length f) (length r) ns → ValuedAnswer fund (copies ps) (lengths_of d h (length f) (length r) ns) a

abbrev pub AnsweredFor : Fund → Totals → List ℤ → List ℕ → ℕ → ℕ → ℕ → Answer → Type 0
AnsweredFor fund t d h nf nr ns a =
    (count : ℕ) (ps : List ModelPoint) → ReadyFor fund count ps t d h nf nr ns → ValuedAnswer fund (copies ps) (lengths_of d h nf nr ns) a
