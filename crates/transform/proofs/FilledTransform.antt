-- From the totals of a table and cleared slices: a refusal leaves zeros (refused_transform); where the totals pass the tests the table can be filled
-- (table_fits), and its transform is the answer's (filled_transform).
use mathlib.Core.Path.{refl, subst}
use mathlib.Core.List.{List}
use Prim.Native.Nat.{ℕ}
use native.Mathlib.Omega.{arith}
use lib.IntN.{ℤ, pos}
use lib.ListN.{replicate, length-replicate, get_or-replicate}
use Rattle.fund.specs.declared.Fund.{Fund}
use Rattle.fund.specs.declared.ModelPoint.{ModelPoint}
use Rattle.fund.specs.declared.Refused.{Refused}
use Rattle.std.proofs.Common.{Option, Some, Ok, Err}
use Rattle.fund.specs.Refusals.{Lengths}
use Rattle.fund.specs.Answer.{fund_terms, refused, accepted}
use Rattle.laws.specs.Accepted.{long_of}
use Rattle.laws.specs.Slices.{fronted}
use Rattle.totals.specs.declared.Totals.{Totals}
use Rattle.totals.specs.Totals.{TotalsIn, TotalsFor}
use Rattle.totals.specs.Tests.{PassedTests, Tested}
use Rattle.transform.specs.declared.terms.Filling.{Filling}
use Rattle.transform.specs.Filling.{TableFits, TableAdded}
use Rattle.transform.specs.Transformed.{TransformedFor}

abbrev filling : Fund → Filling
filling fund = record { horizon = fund.horizon; order = fund.order; frequency = fund.frequency }

module _ (fund : Fund) (count : ℕ) (ps : List ModelPoint) (totals : Option Totals) (for : TotalsFor fund count ps totals) (n : Lengths) where
  abbrev d₀ : List ℤ
  d₀ = replicate n.D (pos 0)

  abbrev h₀ : List ℕ
  h₀ = replicate n.H 0

  pub refused_transform : (stop : Refused) → Tested fund totals n (Err stop) → TransformedFor fund count ps n (Err (record { refused = stop; totals = totals })) d₀ h₀
  unfolding refused
  refused_transform stop tested = record { totals_are = for; known_is = tested; d_is = refl; h_is = refl }

  module _ (t : Totals) (p : PassedTests fund totals n t) where
    pub table_fits : TableFits ps (filling fund) d₀ h₀
    table_fits =
        let i : TotalsIn fund count ps t = subst (TotalsFor fund count ps) p.inside_is for in
        let l = long_of n fund.horizon p.long in
        record {
          points = i.points;
          order = i.header.order;
          frequency = i.header.frequency;
          load_within = omega (arith, i.sums.load_is, p.load_within);
          cleared =
              record {
                horizon = i.header.horizon;
                d_long = omega (arith, l.d_long, length-replicate n.D (pos 0));
                h_long = omega (arith, l.h_long, length-replicate {A = ℕ} n.H 0);
                d_zero = λ j g. get_or-replicate n.D j (pos 0) (pos 0) (omega (arith, l.d_long));
                h_zero = λ j g. get_or-replicate {A = ℕ} n.H j 0 0 (omega (arith, l.h_long));
              };
        }

    pub filled_transform : (d : List ℤ) (h : List ℕ) → TableAdded ps (filling fund) d₀ h₀ d h → TransformedFor fund count ps n (Ok t) d h
    unfolding accepted fund_terms
    filled_transform d h a =
        let i : TotalsFor fund count ps (Some t) = subst (TotalsFor fund count ps) p.inside_is for in
        record { totals_are = i; known_is = record { inside_is = refl; load_within = p.load_within; truncation_within = p.truncation_within; long = p.long }; d_is = fronted (pos 0) n.D _ _ d a.d_is; h_is = fronted 0 n.H _ _ h a.h_is }
