-- What the call answers, handed over field by field (hosts).
use Rattle.std.specs.Prelude.{Ok, Result}
use mathlib.Core.Path.{◌≡◌, ◌∙◌, ap, subst}
use mathlib.Core.List.{List}
use Prim.Native.Nat.{ℕ, ◌+◌, ◌≤◌}
use native.Mathlib.Omega.{arith}
use lib.ListN.{length}
use Rattle.fund.specs.Reading.{Reading}
use Rattle.fund.specs.Refusals.{Lengths, number_in}
use Rattle.fund.specs.Quantile.{quantile_of}
use Rattle.fund.specs.Answer.{Answer, answer_to}
use Rattle.fund.specs.Listing.{horizon_in}
use Rattle.fund.specs.Distance.{WithinBounds, NeverBelow, QuantileWithin}
use Rattle.laws.specs.Numbers.{zero_accepted}
use Rattle.fund.specs.declared.Cells.{Cells}
use Rattle.pricing.specs.declared.Priced.{Priced}
use Rattle.pricing.specs.declared.NotPriced.{NotPriced}
use Rattle.pricing.specs.Priced.{verdict_in, figures_in, left_priced, Prices}
use Rattle.pricing.specs.JoinedSteps.{quantile_is}
use Rattle.miguepo.specs.Bits.{bits_of, read_signed}
use Rattle.miguepo.specs.Host.{result_fields, priced_fields, HostsCells}

module _ (text : List ℕ) (r : Reading) (level : ℕ) (n : Lengths) (p : Result Priced NotPriced) (c : Cells) (k : Prices text r level n p (left_priced p c)) where
  same : left_priced p c ≡ answer_to text n r
  same = k.answers.answer

  zero_told : number_in (answer_to text n r).verdict ≡ 0 → verdict_in p ≡ Ok tt
  zero_told z = ap (λ (x : Answer). x.verdict) same ∙ zero_accepted (answer_to text n r).verdict z

  pub hosts : (result : List ℕ) → (result ≡ priced_fields p) × (read_signed (bits_of (figures_in p).premium) ≡ (figures_in p).premium) → HostsCells text r level n result c
  hosts result e =
      record {
        result_is = e.0 ∙ rw (quantile_is p c k.answers, k.answers.horizon) (ap (λ (y : Answer). result_fields y (horizon_in r) (quantile_of level (horizon_in r) (answer_to text n r).F (answer_to text n r).verdict)) same);
        premium = subst (λ (x : Answer). read_signed (bits_of x.figures.premium) ≡ x.figures.premium) same e.1;
        inside = subst (λ (x : Answer). x.part.start + x.part.size ≤ length text) same (omega (arith, k.answers.ordered, k.answers.inside));
        D_is = ap (λ (x : Answer). x.D) same;
        H_is = ap (λ (x : Answer). x.H) same;
        f_is = ap (λ (x : Answer). x.f) same;
        R_is = ap (λ (x : Answer). x.R) same;
        F_is = ap (λ (x : Answer). x.F) same;
        distance = λ fund e z. subst (λ (x : Answer). WithinBounds fund x) same (k.distance fund e (zero_told z));
        level_within = λ fund e z l.
            subst (λ (x : Answer). QuantileWithin fund x level (quantile_of level (horizon_in r) (answer_to text n r).F (answer_to text n r).verdict)) same (rw (quantile_is p c k.answers) at (k.level_within fund e (zero_told z) l));
        never_below = λ fund e z. subst (λ (x : Answer). NeverBelow fund x) same (k.never_below fund e (zero_told z));
        average = λ fund e z. k.average fund e (zero_told z);
      }
