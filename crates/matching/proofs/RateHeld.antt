-- The row that is held before row i: it is passed (row_passed), or stays (row_above, no_row).
use Rattle.std.specs.Prelude.{◌≡◌, refl, List, ℕ, ◌+◌, ◌<◌, ◌≤◌, length, drop, get_or, Option, Some}
use Rattle.std.proofs.Common.{sym, ◌∙◌, ap}
use borrow.Author.Tests.{le-leb, lt-leb}
use native.Mathlib.Numerals.{add-one}
use lib.Seq.{drop-cons}
use lib.ListN.{drop_of_length-le}
use Rattle.fund.specs.declared.Rate.{Rate}
use Rattle.fund.specs.Folding.{held_until}
use Rattle.laws.specs.Rows.{blank_rate}

module _ (rates : List Rate) (age : ℕ) (held : Option Rate) (i : ℕ) where
  module _ (less : i < length rates) where
    pub row_passed : (get_or rates i blank_rate).age ≤ age → held_until held (drop i rates) age ≡ held_until (Some (get_or rates i blank_rate)) (drop (i + 1) rates) age
    unfolding held_until
    row_passed h =
        ap (λ rs. held_until held rs age) (drop-cons rates i blank_rate less)
        ∙ rw (le-leb _ _ h) refl
        ∙ ap (λ n. held_until (Some (get_or rates i blank_rate)) (drop n rates) age) (sym (add-one i))

    pub row_above : age < (get_or rates i blank_rate).age → held_until held (drop i rates) age ≡ held
    unfolding held_until
    row_above h = ap (λ rs. held_until held rs age) (drop-cons rates i blank_rate less) ∙ rw (lt-leb _ _ h) refl

  pub no_row : length rates ≤ i → held_until held (drop i rates) age ≡ held
  unfolding held_until
  no_row h = ap (λ rs. held_until held rs age) (drop_of_length-le rates h)
