-- What `listing` shows of a comparison that is priced into slices long enough is the listing of the two files, and what is said of its exact move is said of theirs
-- (prints).
use mathlib.Core.Path.{◌≡◌, refl, ◌∙◌, ap₂, subst}
use mathlib.Core.List.{List, []}
use Prim.Native.Nat.{ℕ}
use lib.Dec.{leb}
use lib.ListN.{length}
use Rattle.std.specs.Prelude.{Result, Ok, Err, if◌then◌else◌}
use Rattle.fund.specs.declared.Cells.{Cells}
use Rattle.fund.specs.Reading.{reading}
use Rattle.fund.specs.Answer.{answer}
use Rattle.fund.specs.Listing.{enough}
use Rattle.writing.specs.Writing.{Written}
use Rattle.pricing.specs.declared.Priced.{Priced}
use Rattle.pricing.specs.declared.NotPriced.{NotPriced}
use Rattle.pricing.specs.Priced.{verdict_in, figures_in, left_priced}
use Rattle.fund_printing.proofs.ShownListing.{lent_lengths, answers_enough}
use Rattle.comparison.specs.declared.Compared.{Compared}
use Rattle.comparison.specs.Comparison.{compared, Compares}
use Rattle.comparison_printing.specs.Lines.{fund_lines, comparison_lines}
use Rattle.comparison_printing.specs.Printed.{comparison_room, priced_lines, listing_of, comparison_of, comparison_listing, shown_comparison, PrintsComparison}

-- The lines of a fund as the call answers are those of its verdict and its figures.
lines_are : (name : List ℕ) (p : Result Priced NotPriced) → priced_lines name p ≡ fund_lines name (verdict_in p) (figures_in p)
unfolding priced_lines fund_lines
lines_are name (Ok p) = refl
lines_are name (Err stop) = refl

module _ (old new : List ℕ) (level : ℕ) (c : Compared) (a b : Cells) (k : Compares old new level lent_lengths lent_lengths c (left_priced c.old a) (left_priced c.new b)) where
  old_is : left_priced c.old a ≡ answer old enough
  old_is = (answers_enough old (reading old) level c.old (left_priced c.old a) k.old_priced.answers).answer

  new_is : left_priced c.new b ≡ answer new enough
  new_is = (answers_enough new (reading new) level c.new (left_priced c.new b) k.new_priced.answers).answer

  comparison_is : c.comparison ≡ comparison_of old new
  unfolding comparison_of
  comparison_is = k.comparison ∙ ap₂ (λ x y. compared (reading old) x (reading new) y) old_is new_is

  told_is : (size : ℕ) → listing_of c size
      ≡ (if leb comparison_room size then comparison_lines (verdict_in c.old) (figures_in c.old) (verdict_in c.new) (figures_in c.new) c.comparison else [])
  unfolding listing_of comparison_lines
  told_is size = rw (lines_are, lines_are)

  shown_is : (size : ℕ) → listing_of c size ≡ shown_comparison old new size
  unfolding shown_comparison comparison_listing
  shown_is size =
      told_is size
      ∙ (λ i. if leb comparison_room size then comparison_lines (old_is i).verdict (old_is i).figures (new_is i).verdict (new_is i).figures (comparison_is i) else [])

  pub prints : {before after : List ℕ} {size : ℕ} → Written (listing_of c (length before)) before after size → PrintsComparison old new before after size
  prints {before} {after} {size} w =
      record {
        written = subst (λ (t : List ℕ). Written t before after size) (shown_is (length before)) w;
        exact = λ fund other z y t e. k.exact fund other z y t (comparison_is ∙ e);
        rates = λ fund other z y t e. k.rates fund other z y t (comparison_is ∙ e);
      }
