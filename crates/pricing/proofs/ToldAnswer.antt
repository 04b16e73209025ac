-- What is told of a valuation is the answer to what was read (tells_read). An answer of the definition's meets the contract of a call, demand 3, the answer at the level and the gross premium's cover included (prices); and the line that is handed back
-- (no_line, line_got).
use Rattle.std.specs.Prelude.{◌&&◌, ◌⊎◌, Bool, true, false, leb, if◌then◌else◌, Result, Option, Some, None, MatchOption, unwrap_or, slice_range, ◌+◌}
use Rattle.std.proofs.Common.{inl, inr}
use Rattle.std.specs.Borrow.{Bor}
use mathlib.Core.Path.{◌≡◌, refl, sym, ◌∙◌, ap, subst}
use mathlib.Core.List.{List, []}
use Prim.Native.Nat.{ℕ, ◌-◌, ◌≤◌, ◌<◌}
use borrow.Author.Tests.{le-leb, lt-leb}
use lib.ListN.{length, take, drop}
use Rattle.fund.specs.Reading.{FundFile, Reading, read}
use Rattle.fund.specs.Refusals.{Lengths}
use Rattle.fund.specs.Quantile.{quantile_of}
use Rattle.fund.specs.Answer.{Answer, answer_to}
use Rattle.fund.specs.Listing.{horizon_in}
use Rattle.fund.specs.Distance.{WithinBounds, NeverBelow, QuantileWithin}
use Rattle.laws.specs.Ranges.{FundOk}
use Rattle.distance.specs.Distance.{distance, level_within, never_below, average}
use Rattle.pricing.specs.JoinedSteps.{quantile_is}
use Rattle.fund.specs.declared.Cells.{Cells}
use Rattle.pricing.specs.declared.Priced.{Priced}
use Rattle.pricing.specs.declared.NotPriced.{NotPriced}
use Rattle.pricing.specs.Priced.{left_priced, Answers, Prices, line_between}

-- An answer of the definition's meets the contract of a call.
pub prices : (text : List ℕ) (r : Reading) (level : ℕ) (n : Lengths) (p : Result Priced NotPriced) (c : Cells) → Answers text r level p (left_priced p c) (answer_to text n r) →
    ((fund : FundFile) → r ≡ read fund → FundOk fund) → Prices text r level n p (left_priced p c)
prices text r level n p c k ok =
    let v = sym (ap (λ (x : Answer). x.verdict) k.answer) in
    record {
      answers = k;
      distance = λ fund z e. subst (λ (x : Answer). WithinBounds fund x) (sym k.answer) (distance text n r fund (ok fund z) z (v ∙ e));
      level_within = λ fund z e l.
          rw (quantile_is p c k)
          (subst (λ (x : Answer). QuantileWithin fund x level (quantile_of level (horizon_in r) (answer_to text n r).F (answer_to text n r).verdict)) (sym k.answer) (level_within text n r fund (ok fund z) z (v ∙ e) level l));
      never_below = λ fund z e. subst (λ (x : Answer). NeverBelow fund x) (sym k.answer) (never_below text n r fund (ok fund z) z (v ∙ e));
      average = λ fund z e. average text n r fund z (v ∙ e);
    }

module _ (file : List ℕ) (start end : ℕ) where
  pub line_inside : start ≤ end → end ≤ length file → take (end - start) (drop start file) ≡ line_between file start end
  unfolding line_between
  line_inside o i = rw (le-leb _ _ o, le-leb _ _ i)

  pub line_reversed : end < start → [] ≡ line_between file start end
  unfolding line_between
  line_reversed o = rw (lt-leb _ _ o)

  -- An end beyond the text: none, in whichever order the two stand.
  line_outside : length file < end → [] ≡ line_between file start end
  unfolding line_between
  line_outside o = go (leb start end)
    where
      go : (b : Bool) → [] ≡ (if b && leb end (length file) then take (end - start) (drop start file) else [])
      go true = rw (lt-leb _ _ o)
      go false = refl

  -- The part that was asked for, and none where the text has none.
  pub line_got : (o : Option (Bor (List ℕ))) (d : Bor (List ℕ)) → d.now ≡ [] →
      MatchOption o ((end < start) ⊎ (length file < end)) (λ (x : Bor (List ℕ)). (start ≤ end) × (end ≤ length file) × (x.now ≡ slice_range file start end) × (length x.now + start ≡ end)) →
      (unwrap_or o d).now ≡ line_between file start end
  line_got (Some x) d e k = k.2 ∙ line_inside k.0 k.1
  line_got None d e (inl k) = e ∙ line_reversed k
  line_got None d e (inr k) = e ∙ line_outside k

pub no_line : (file : List ℕ) → line_between file 0 0 ≡ []
unfolding line_between
no_line file = go (leb 0 (length file))
  where
    go : (b : Bool) → (if b then take 0 (drop 0 file) else []) ≡ []
    go true = refl
    go false = refl
