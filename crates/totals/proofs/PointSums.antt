-- The walk that adds up what each line adds, the part of its life times its lives: the sum so far with what the lines to come add is the
-- whole sum over the lives, up to a cap.
use Rattle.std.proofs.Common.{◌≡◌, ℕ, min, ◌+◌, ◌*◌, ◌<◌, ◌≤◌, List, [], ◌∷◌, length, get_or, drop, sym, ap, subst, ◌∙◌, arith, drop-cons, add-one}
use Rattle.std.proofs.Math.Nat as N
use Rattle.std.proofs.Math.Seq.{drop-length}
use Rattle.fund.specs.declared.Life.{Life}
use Rattle.fund.specs.declared.ModelPoint.{ModelPoint}
use Rattle.fund.specs.Base.{total}
use Rattle.fund.specs.Folding.{copies}
use Rattle.laws.specs.Accepted.{All}
use Rattle.laws.specs.Copies.{total_copies}
use Rattle.laws.specs.Rows.{blank_point}

-- the lines from k on begin with the line at k, and behind the last there is none
lines_from : (ps : List ModelPoint) (k : ℕ) → k < length ps → drop k ps ≡ get_or ps k blank_point ∷ drop (k + 1) ps
lines_from ps k h = drop-cons ps k blank_point h ∙ ap (λ (j : ℕ). get_or ps k blank_point ∷ drop j ps) (sym (add-one k))

pub at_line : (ps : List ModelPoint) (k : ℕ) (P : List ModelPoint → Type 0) → k < length ps → P (drop k ps) → P (get_or ps k blank_point ∷ drop (k + 1) ps)
at_line ps k P h p = subst P (lines_from ps k h) p

pub none_left : (ps : List ModelPoint) (k : ℕ) (P : List ModelPoint → Type 0) → k ≤ length ps → length ps ≤ k → P (drop k ps) → P []
none_left ps k P h g p =
    let e : k ≡ length ps = omega arith in
    subst P (ap (λ (j : ℕ). drop j ps) e ∙ drop-length ps) p

module _ (part : Life → ℕ) where
  -- what a line adds
  abbrev pub line_part : ModelPoint → ℕ
  line_part p = p.lives * part p.life

  -- a sum of which those above a cap are not told apart
  pub record Capped (Takes : ModelPoint → Type 0) (cap whole : ℕ) (rest : List ModelPoint) (r : ℕ) : Type 0 where
    pub rest_in : All Takes rest
    pub within : r ≤ cap
    pub sum_is : min (r + total line_part rest) cap ≡ min whole cap

  module _ (Takes : ModelPoint → Type 0) (cap : ℕ) where
    pub capped_first : (ps : List ModelPoint) → All Takes ps → Capped Takes cap (total part (copies ps)) ps 0
    capped_first ps h = record { rest_in = h; within = omega arith; sum_is = ap (λ s. min s cap) (N.zero-add (total line_part ps) ∙ sym (total_copies part ps)) }

    pub capped_more : (whole : ℕ) (p : ModelPoint) (rest : List ModelPoint) (r r' : ℕ) → Capped Takes cap whole (p ∷ rest) r → r' ≡ min (r + line_part p) cap → Capped Takes cap whole rest r'
    unfolding total
    capped_more whole p rest r r' i g = record { rest_in = i.rest_in.1; within = omega (arith, g); sum_is = omega (arith, i.sum_is, g) }

    pub capped_all : (whole r : ℕ) → Capped Takes cap whole [] r → r ≡ min whole cap
    unfolding total
    capped_all whole r i = omega (arith, i.sum_is, i.within)
