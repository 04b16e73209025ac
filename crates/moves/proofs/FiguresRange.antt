-- What the test of a fund's figures says where it holds (figures_in_lem), and that it holds for figures in their ranges.
use mathlib.Core.Path.{◌≡◌}
use mathlib.Core.Bool.{true}
use borrow.Author.Tests.{le-leb, leb-true}
use Rattle.fund.specs.declared.Fund.{Fund}
use Rattle.fund.specs.declared.Figures.{Figures}
use Rattle.fund.specs.Reading.{between}
use Rattle.laws.specs.Ranges.{and-true, between_true}
use Rattle.moves.specs.Move.{FiguresIn, figures_in}

module _ (fund : Fund) (a : Figures) where
  pub figures_in_lem : figures_in fund a ≡ true → FiguresIn fund a
  unfolding figures_in
  figures_in_lem e =
      let e₁ = and-true _ _ e in
      let e₂ = and-true _ _ e₁.1 in
      let e₃ = and-true _ _ e₂.1 in
      let w = between_true _ _ _ e₁.0 in
      record { worth_least = w.0; worth_most = w.1; premium = leb-true _ _ e₂.0; within = leb-true _ _ e₃.0; gross = leb-true _ _ e₃.1 }

  pub in_figures : FiguresIn fund a → figures_in fund a ≡ true
  unfolding figures_in between
  in_figures k = rw (le-leb _ _ k.worth_least, le-leb _ _ k.worth_most, le-leb _ _ k.premium, le-leb _ _ k.within, le-leb _ _ k.gross)
