-- The ranges and the refusals 7, 8 and 9, from the totals: what is left where one of them refuses (left_judged), and where none does (left_answered).
use mathlib.Core.Path.{◌≡◌, refl, sym, ◌∙◌, ap}
use mathlib.Core.Bool.{Bool, true, false}
use mathlib.Core.List.{List, []}
use Prim.Native.Nat.{ℕ, min, ◌+◌}
use native.Mathlib.Omega.{arith}
use borrow.Author.Tests.{lt-ltb, le-ltb, ltb-true, ltb-false}
use lib.Dec.{ltb}
use lib.IntN.{ℤ, pos}
use lib.ListN.{replicate}
use Rattle.fund.specs.declared.Fund.{Fund}
use Rattle.fund.specs.declared.Life.{Life}
use Rattle.fund.specs.declared.ModelPoint.{ModelPoint}
use Rattle.fund.specs.declared.Refusal.TheVariants as refusal
use Rattle.std.proofs.Common.{Option, Some, None, Ok, Err}
use Rattle.fund.specs.declared.Refused.{Refused}
use Rattle.fund.specs.Verdict.{Verdict}
use Rattle.fund.specs.Limits.{most_load, most_truncation}
use Rattle.fund.specs.Folding.{copies}
use Rattle.fund.specs.Transform.{load, truncation}
use Rattle.fund.specs.Refusals.{Lengths, short, refuse, at0, valued, first, wide}
use Rattle.fund.specs.Answer.{Answer, refused, fund_cells}
use Rattle.laws.specs.Answer.{no_line_lem}
use Rattle.totals.specs.declared.Totals.{Totals}
use Rattle.totals.specs.Inside.{inside}
use Rattle.totals.specs.Totals.{TotalsIn, TotalsFor}
use Rattle.totals.specs.Tests.{tested_of}
use Rattle.totals.proofs.InsideTells.{inside_tells}
use Rattle.transform.specs.declared.NotTransformed.{NotTransformed}
use Rattle.transform.specs.Transformed.{outcome, TransformedFor}
use Rattle.valuation.specs.Valued.{left_in, verdict_of, valuation}
use Rattle.valuation.specs.Steps.{ValuedAnswer}

-- ---- a refusal
-- zeros in all slices
pub left_zeros : (stop : Refused) (n : Lengths) (d : List ℤ) (h : List ℕ) (f : List ℤ) (r : List ℕ) (s : List ℤ) →
    (d ≡ replicate n.D (pos 0)) × (h ≡ replicate n.H 0) → (f ≡ replicate n.f (pos 0)) × (r ≡ replicate n.R 0) × (s ≡ replicate n.F (pos 0)) → left_in (Err stop) d h f r s ≡ refused [] n (Err stop)
unfolding refused
left_zeros stop n d h f r s dh frs = rw (dh.0, dh.1, frs.0, frs.1, frs.2, no_line_lem (Err stop))

abbrev chain : Bool → Bool → Bool → Verdict → Verdict
chain a b c after = refuse refusal.Load (at0 a) (refuse refusal.Order (at0 b) (refuse refusal.Short (at0 c) after))

-- what is refused before the last test is refused whatever follows
refused_alike : (a b c : Bool) (after : Verdict) (stop : Refused) → chain a b c (Ok tt) ≡ Err stop → chain a b c after ≡ Err stop
unfolding refuse at0
refused_alike true b c after stop e = e
refused_alike false true c after stop e = e
refused_alike false false true after stop e = e
refused_alike false false false after stop e = cc

-- the cap of the truncation figure does not hide a refusal
capped : (m x : ℕ) → ltb m (min x (m + 1)) ≡ ltb m x
capped m x = go (ltb m x) refl
  where
    go : (b : Bool) → ltb m x ≡ b → ltb m (min x (m + 1)) ≡ b
    go true e = let l = ltb-true m x e in lt-ltb m (min x (m + 1)) (omega arith)
    go false e = let l = ltb-false m x e in le-ltb m (min x (m + 1)) (omega arith)

module _ (fund : Fund) (count : ℕ) (ps : List ModelPoint) (n : Lengths) where
  abbrev ms : List Life
  ms = copies ps

  is_inside : (t : Totals) → TotalsIn fund count ps t → inside fund count ps ≡ true
  is_inside t i = (inside_tells fund count ps).no (i.few, (i.header, i.points))

  is_outside : TotalsFor fund count ps None → inside fund count ps ≡ false
  is_outside o = go (inside fund count ps) refl
    where
      go : (b : Bool) → inside fund count ps ≡ b → b ≡ false
      go true e = let h = (inside_tells fund count ps).yes e in absurd (o (h.0, h.1.1, h.1.0))
      go false e = refl

  -- the verdict where the ranges are kept
  pub verdict_inside : (t : Totals) → TotalsIn fund count ps t → verdict_of fund count ps n ≡ valued fund ms n (fund_cells fund ms)
  unfolding verdict_of
  verdict_inside t i = rw (is_inside t i)

  chains : (t : Totals) → TotalsIn fund count ps t → tested_of fund (Some t) n ≡ chain (ltb most_load (load fund.frequency ms)) (ltb most_truncation (truncation fund.order ms)) (short n fund.horizon) (Ok tt)
  unfolding tested_of
  chains t i =
      let s = i.sums in
      rw (s.load_is, s.truncation_is, capped most_truncation (truncation fund.order ms))

  pub refused_verdict : (totals : Option Totals) → TotalsFor fund count ps totals → (stop : Refused) → tested_of fund totals n ≡ Err stop → verdict_of fund count ps n ≡ Err stop
  unfolding verdict_of valued tested_of
  refused_verdict None o stop e = rw (is_outside o) e
  refused_verdict (Some t) i stop e =
      verdict_inside t i
      ∙ refused_alike (ltb most_load (load fund.frequency ms)) (ltb most_truncation (truncation fund.order ms)) (short n fund.horizon) (refuse refusal.Wide (first wide 0 (fund_cells fund ms)) (Ok tt)) stop
      (sym (chains t i) ∙ e)

  -- no refusal so far
  pub left_answered : (t : Totals) → TotalsIn fund count ps t → (a : Answer) → ValuedAnswer fund ms n a → a ≡ valuation fund count ps n
  unfolding valuation
  left_answered t i a s = s ∙ ap (outcome fund ms n) (sym (verdict_inside t i))

  -- a refusal, with the transform's zeros and the others
  pub left_judged : (stop : NotTransformed) (d : List ℤ) (h : List ℕ) (f : List ℤ) (r : List ℕ) (s : List ℤ) → TransformedFor fund count ps n (Err stop) d h →
      (f ≡ replicate n.f (pos 0)) × (r ≡ replicate n.R 0) × (s ≡ replicate n.F (pos 0)) → left_in (Err stop.refused) d h f r s ≡ valuation fund count ps n
  unfolding refused valuation
  left_judged stop d h f r s k frs =
      left_zeros stop.refused n d h f r s (k.d_is, k.h_is) frs ∙ ap (outcome fund ms n) (sym (refused_verdict stop.totals k.totals_are stop.refused k.known_is))
