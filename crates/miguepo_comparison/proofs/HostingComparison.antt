-- What a comparison answers, handed over (hosts_comparison).
use mathlib.Core.Path.{◌≡◌, ◌∙◌, ap₂, subst}
use mathlib.Core.List.{List}
use Prim.Native.Nat.{ℕ}
use Rattle.fund.specs.Reading.{reading}
use Rattle.fund.specs.Refusals.{Lengths}
use Rattle.fund.specs.Answer.{Answer, answer_to}
use Rattle.comparison.specs.declared.Compared.{Compared}
use Rattle.comparison.specs.Comparison.{compared, Compares}
use Rattle.miguepo.specs.Host.{Hosts}
use Rattle.miguepo_comparison.specs.HostComparison.{comparison_fields, ReadBack, Handed, comparison_of, HostsComparison}

module _ (old new : List ℕ) (level : ℕ) (n m : Lengths) (c : Compared) (a b : Answer) (k : Compares old new level n m c a b) where
  old_same : a ≡ answer_to old n (reading old)
  old_same = k.old_priced.answers.answer

  new_same : b ≡ answer_to new m (reading new)
  new_same = k.new_priced.answers.answer

  same : c.comparison ≡ comparison_of old n new m
  same = k.comparison ∙ ap₂ (λ x y. compared (reading old) x (reading new) y) old_same new_same

  pub hosts_comparison : (x y : Handed) (comparison : List ℕ) →
      Hosts old (reading old) level n x.result x.D x.H x.f x.R x.F →
      Hosts new (reading new) level m y.result y.D y.H y.f y.R y.F →
      comparison ≡ comparison_fields c.comparison → ReadBack c.comparison →
      HostsComparison old new level n m x y comparison
  hosts_comparison x y comparison p q e s =
      record {
        old_hosted = p;
        new_hosted = q;
        comparison_is = rw same at e;
        read_back = subst ReadBack same s;
        exact = λ f g r s t e. k.exact f g r s t (same ∙ e);
        rates = λ f g r s t e. k.rates f g r s t (same ∙ e);
      }
